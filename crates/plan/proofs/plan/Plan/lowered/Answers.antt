use Rattle.std.proofs.Common.{◌≡◌, not, length, sym, refl, ap, ◌∙◌, arith, rules}
use Rattle.std.proofs.lemmas.List.Sorted.{IsPermutation-put_mid}
use Rattle.std.proofs.lemmas.Bool.{and_from, both_ways}
use Rattle.plan.specs.Frames.{distinct}
use Rattle.plan.specs.Plans.{listed}
use Rattle.plan.proofs.Orders.{others_distinct, others_lack, lowered_one, has_lowered}
use Rattle.plan.proofs.Rotations.{absent, open_at, lowered_order, low_permuted}
use Rattle.plan.proofs.Sifts.{arranged, lowered_same}
use Rattle.plan.proofs.plan.Plan.lowered.Goals as goal

pub returns-in_default-clause-arranged : goal.returns-in_default-clause-arranged
returns-in_default-clause-arranged c = lowered_same c.args.self.now c.args.c (absent c.args.c (listed c.args.self.now) (sym c.in_default.is ∙ c.position.ensures))

pub invariant_of-plan-clause-low : goal.invariant_of-plan-clause-low
invariant_of-plan-clause-low c = low_permuted _ _ (IsPermutation-put_mid 0 _ _ _ c.rotate_right.ensures.permutation) c.args.self.now.low

pub invariant_of-plan-clause-once : goal.invariant_of-plan-clause-once
invariant_of-plan-clause-once c =
    let p = c.args.self.now in
    let k : length p.order ≡ 8 = search rules in
    let e = sym c.in-Some.is ∙ c.position.ensures in
    ap distinct (lowered_order p c.args.c c.in-Some.i e k c.rotate_right.new.self _ (omega arith) c.rotate_right.ensures.after)
    ∙ and_from _ _ (ap not (others_lack c.args.c (listed p))) (others_distinct c.args.c (listed p) p.once)

pub returns-clause-arranged : goal.returns-clause-arranged
returns-clause-arranged c =
    let p = c.args.self.now in
    let k : length p.order ≡ 8 = search rules in
    let e = sym c.in-Some.is ∙ c.position.ensures in
    arranged p _ _ _ _ refl refl (lowered_order p c.args.c c.in-Some.i e k c.rotate_right.new.self _ (omega arith) c.rotate_right.ensures.after)
    (lowered_one c.args.c (listed p) p.frames p.once (open_at p c.args.c c.in-Some.i e)) (λ d. has_lowered c.args.c d (listed p) (open_at p c.args.c c.in-Some.i e))

pub returns-clause-same : goal.returns-clause-same
returns-clause-same c =
    λ h. absurd (both_ways _ h (open_at c.args.self.now c.args.c c.in-Some.i (sym c.in-Some.is ∙ c.position.ensures)))
