use Rattle.std.proofs.Common.{◌≡◌, sym, ◌∙◌, w16, SFits, rules}
use Rattle.std.proofs.lemmas.Int.{to_z-of_z}
use Rattle.slots.proofs.Blocks.{reached_at, near_has}
use Rattle.slots.proofs.block.patches_met.Goals as goal

pub returns : goal.returns
returns c =
    let a = c.args in
    let f = a.frame in
    let r = a.area in
    let fx : SFits w16 f.x = search rules in
    let fy : SFits w16 f.y = search rules in
    let rx : SFits w16 r.x = search rules in
    let ry : SFits w16 r.y = search rules in
    let client : c.from.result ≡ a.c = c.from.ensures in
    λ k e. near_has c.from.result f r c.along-across.result c.along-down.result
    (reached_at f.x _ f.w r.x _ r.w c.along-across.result (to_z-of_z w16 f.x fx) (to_z-of_z w16 r.x rx) c.along-across.ensures.all)
    (reached_at f.y _ f.h r.y _ r.h c.along-down.result (to_z-of_z w16 f.y fy) (to_z-of_z w16 r.y ry) c.along-down.ensures.all)
    k (e ∙ sym client)
