use Rattle.std.proofs.Common.{◌≡◌, ap, ◌∙◌, arith, rules}
use Rattle.std.proofs.lemmas.Bool.{lt-ltb, le-ltb}
use Rattle.raster.specs.Calls.{refuse_if}
use Rattle.raster.specs.declared.refusal.Refusal.TheVariants.{ValueTooLarge}
use Rattle.paper.specs.Desk.{because}
use Rattle.desk.proofs.Stamped.{stamp_last}
use Rattle.desk.proofs.desk.Desk.check_stamp.Goals as goal

pub returns-then-depth-size : goal.returns-then-depth-size
returns-then-depth-size g c =
    let a = c.args in
    let d = a.self.now in
    let s = g.S.Bitmap.picture d.screen in
    let t = g.T.Bitmap.picture d.store in
    let listed = c.in_ok-rule.rule.listed in
    let number : c.in_ok-rule.rule.number ≡ a.rule = search rules in
    let size = c.size.ensures in
    let taken = c.if-depth-size.true in
    rw c.because.ensures
    (stamp_last s t d.book a.c c.in_ok-check_open.ensures a.rule a.depth (le-ltb 15 a.rule (search arith))
    ∙ ap (λ z. refuse_if z (because ValueTooLarge a.c)) (lt-ltb s.depth a.depth (search arith)))

pub returns : goal.returns
returns g c =
    let a = c.args in
    let d = a.self.now in
    let s = g.S.Bitmap.picture d.screen in
    let t = g.T.Bitmap.picture d.store in
    let listed = c.in_ok-rule.rule.listed in
    let number : c.in_ok-rule.rule.number ≡ a.rule = search rules in
    let size = c.size.ensures in
    let left = c.if-depth-size.false in (
      stamp_last s t d.book a.c c.in_ok-check_open.ensures a.rule a.depth (le-ltb 15 a.rule (search arith))
          ∙ ap (λ z. refuse_if z (because ValueTooLarge a.c)) (le-ltb s.depth a.depth (search arith)),
      number,
    )
