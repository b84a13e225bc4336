use Rattle.std.proofs.Common.{ap, ◌∙◌, rules}
use Rattle.std.proofs.lemmas.Iterator.{YieldsList-from_slice}
use Rattle.std.proofs.lemmas.Iterator.Search.{any_from_yields_List}
use Rattle.plan.specs.Areas.{met}
use Rattle.plan.proofs.Turns.{meets_frame, met_any}
use Rattle.plan.proofs.plan.Plan.meets_above.Goals as goal

pub returns : goal.returns
returns c =
    let fs = c.args.self.now.frames in
    let a = c.args.area in
    let any = any_from_yields_List (meets_frame fs a.left a.top a.right a.bottom) _ _ c.any.result c.any.ensures.ran
    (YieldsList-from_slice c.above.result.now c.iter.ensures.rest) (λ x b q k. search rules) in
    any ∙ met_any fs a.left a.top a.right a.bottom c.above.result.now ∙ ap (λ ls. met ls a.left a.top a.right a.bottom) c.above.ensures
