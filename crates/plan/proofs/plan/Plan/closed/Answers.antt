use Rattle.std.proofs.Common.{◌≡◌, length, sym, refl, ap, ◌∙◌, rules}
use Rattle.std.proofs.lemmas.List.Sorted.{IsPermutation-put_mid}
use Rattle.std.proofs.lemmas.Bool.{both_ways}
use Rattle.plan.specs.Frames.{distinct}
use Rattle.plan.specs.Plans.{listed}
use Rattle.plan.proofs.Orders.{others_distinct, without_outlines, others_have}
use Rattle.plan.proofs.Rotations.{absent, open_at, closed_order, low_permuted}
use Rattle.plan.proofs.Sifts.{arranged, closed_same}
use Rattle.plan.proofs.plan.Plan.closed.Goals as goal

pub returns-in_default-clause-arranged : goal.returns-in_default-clause-arranged
returns-in_default-clause-arranged c = closed_same c.args.self.now c.args.c (absent c.args.c (listed c.args.self.now) (sym c.in_default.is ∙ c.position.ensures))

pub invariant_of-plan-clause-low : goal.invariant_of-plan-clause-low
invariant_of-plan-clause-low c = low_permuted _ _ (IsPermutation-put_mid _ _ _ _ c.rotate_left.ensures.permutation) c.args.self.now.low

pub invariant_of-plan-clause-once : goal.invariant_of-plan-clause-once
invariant_of-plan-clause-once c =
    let p = c.args.self.now in
    let k : length p.order ≡ 8 = search rules in
    let e = sym c.in-Some.is ∙ c.position.ensures in
    ap distinct (closed_order p c.args.c c.in-Some.gone e k c.rotate_left.new.self c.rotate_left.ensures.after) ∙ others_distinct c.args.c (listed p) p.once

pub returns-clause-arranged : goal.returns-clause-arranged
returns-clause-arranged c =
    let p = c.args.self.now in
    let k : length p.order ≡ 8 = search rules in
    let e = sym c.in-Some.is ∙ c.position.ensures in
    arranged p _ _ _ _ refl refl (closed_order p c.args.c c.in-Some.gone e k c.rotate_left.new.self c.rotate_left.ensures.after)
    (sym (without_outlines c.args.c (listed p) p.frames)) (λ d. others_have c.args.c d (listed p))

pub returns-clause-same : goal.returns-clause-same
returns-clause-same c =
    λ h. absurd (both_ways _ h (open_at c.args.self.now c.args.c c.in-Some.gone (sym c.in-Some.is ∙ c.position.ensures)))
