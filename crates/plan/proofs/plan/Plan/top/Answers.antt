use Rattle.std.proofs.Common.{ℕ, List, find, reverse, ℤ, pos, ◌+ℤ◌, Option, ap₂, ◌∙◌, rules}
use Rattle.std.proofs.lemmas.Iterator.Adapters.{YieldsList-from_rev_slice}
use Rattle.std.proofs.lemmas.Iterator.Search.{find_from_yields_List}
use Rattle.plan.specs.declared.area.Area.{Area}
use Rattle.plan.specs.Plans.{listed}
use Rattle.plan.proofs.Turns.{meets_frame, topmost_met, wide}
use Rattle.plan.proofs.plan.Plan.top.Goals as goal

pub returns : goal.returns
returns c =
    let p = c.args.self.now in
    let a = c.of_place-place.result in
    let found = find_from_yields_List (meets_frame p.frames a.left a.top a.right a.bottom) _ _ c.find.result c.find.ensures.ran
    (YieldsList-from_rev_slice c.clients.result.now (search rules)) (λ x b q k. search rules) in
    let area : Area → List ℕ → Option ℕ = λ a cs. find (meets_frame p.frames a.left a.top a.right a.bottom) (reverse cs) in
    let place : ℤ → ℤ → Option ℕ = λ x y. find (meets_frame p.frames x y (x +ℤ pos 1) (y +ℤ pos 1)) (reverse (listed p)) in
    c.copied.ensures ∙ found ∙ ap₂ area c.of_place-place.ensures c.clients.ensures ∙ ap₂ place (wide c.args.x c.ranges.x) (wide c.args.y c.ranges.y)
    ∙ topmost_met p.frames c.args.x c.args.y (listed p)
