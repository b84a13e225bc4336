use Rattle.std.proofs.Common.{sym, ◌∙◌, ap₂, w16, SFits, rules}
use Rattle.paper.specs.Layers.{topmost}
use Rattle.paper.specs.Desk.{client_if}
use Rattle.plan.specs.Plans.{layers_in}
use Rattle.moving.proofs.Places.{found, no_client, bare_behind}
use Rattle.moving.proofs.Touched.{as_given, as_was}
use Rattle.moving.proofs.backing.behind.Goals as goal

pub kept_pixel-requires : goal.kept_pixel-requires
kept_pixel-requires c =
    let a = c.args in
    let ex = as_given _ a.x c.coordinate-x.ensures c.requires.across in
    let ey = as_given _ a.y c.coordinate-y.ensures c.requires.down in
    let fx : SFits w16 c.frame-frame.result.x = search rules in
    let fy : SFits w16 c.frame-frame.result.y = search rules in
    let f = found a.layout.plan.now a.x a.y c.in-Some.d c.abs_diff.result c.abs_diff-in-Some.result _ _ c.frame-frame.result _ _ ex ey
    c.in-Some.ensures c.frame-frame.ensures (as_was _ fx) (as_was _ fy) c.abs_diff.ensures c.abs_diff-in-Some.ensures in
    record { client = f.client; column = f.column; row = f.row }

pub returns-in-Some : goal.returns-in-Some
returns-in-Some c h =
    let a = c.args in
    let ex = as_given _ a.x c.coordinate-x.ensures c.requires.across in
    let ey = as_given _ a.y c.coordinate-y.ensures c.requires.down in
    let fx : SFits w16 c.frame-frame.result.x = search rules in
    let fy : SFits w16 c.frame-frame.result.y = search rules in
    let f = found a.layout.plan.now a.x a.y c.in-Some.d c.abs_diff.result c.abs_diff-in-Some.result _ _ c.frame-frame.result _ _ ex ey
    c.in-Some.ensures c.frame-frame.ensures (as_was _ fx) (as_was _ fy) c.abs_diff.ensures c.abs_diff-in-Some.ensures in
    c.kept_pixel.ensures h ∙ f.is a.width a.layout.slots.now

pub returns-in-None : goal.returns-in-None
returns-in-None c h =
    let a = c.args in
    sym (bare_behind a.width a.layout.plan.now a.layout.slots.now a.x a.y
    (no_client a.layout.plan.now a.x a.y (ap₂ (λ i j. client_if (topmost (layers_in a.layout.plan.now) i j)) (sym (as_given _ a.x c.coordinate-x.ensures c.requires.across)) (sym (as_given _ a.y c.coordinate-y.ensures c.requires.down)) ∙ sym c.in-None.ensures)))
