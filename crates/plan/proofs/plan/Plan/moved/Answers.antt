use Rattle.std.proofs.Common.{set, sym, refl, ap, ◌∙◌, arith}
use Rattle.std.proofs.lemmas.Int.{to_z-of_z}
use Rattle.plan.specs.Plans.{listed, outlines}
use Rattle.plan.specs.Arranged.{cornered}
use Rattle.plan.proofs.Sifts.{open_low, moved_same, set_narrow, set_short, set_own, moved_layers}
use Rattle.plan.proofs.plan.Plan.moved.Goals as goal

pub returns-then-not-is_open-clause-arranged : goal.returns-then-not-is_open-clause-arranged
returns-then-not-is_open-clause-arranged c = moved_same c.args.self.now c.args.c (sym c.if-not-is_open.ensures) c.args.x c.args.y

pub bounds-plan-c : goal.bounds-plan-c
bounds-plan-c c = open_low c.args.self.now c.args.c (sym c.if-not-is_open.ensures)

pub invariant_of-plan-clause-narrow : goal.invariant_of-plan-clause-narrow
invariant_of-plan-clause-narrow c =
    let p = c.args.self.now in
    let e = ap (λ f. f.w) c.frame.ensures in
    set_narrow p c.args.c _ (open_low p c.args.c (sym c.if-not-is_open.ensures)) (omega (arith, p.narrow c.args.c))

pub invariant_of-plan-clause-short : goal.invariant_of-plan-clause-short
invariant_of-plan-clause-short c =
    let p = c.args.self.now in
    let e = ap (λ f. f.h) c.frame.ensures in
    set_short p c.args.c _ (open_low p c.args.c (sym c.if-not-is_open.ensures)) (omega (arith, p.short c.args.c))

pub returns-clause-arranged : goal.returns-clause-arranged
returns-clause-arranged c =
    let p = c.args.self.now in
    let fx = c.ranges.x in let fy = c.ranges.y in
    record {
      screen = refl;
      layers = simp to_z-of_z (ap (λ f. outlines (listed p) (set p.frames c.args.c (cornered c.args.x c.args.y f))) c.frame.ensures
          ∙ moved_layers p c.args.c c.args.x c.args.y (sym c.if-not-is_open.ensures));
      clients = λ d. refl;
    }

pub returns-clause-own : goal.returns-clause-own
returns-clause-own c =
    let p = c.args.self.now in
    let fx = c.ranges.x in let fy = c.ranges.y in
    λ h. simp to_z-of_z (set_own p c.args.c (cornered c.args.x c.args.y c.frame.result) (open_low p c.args.c h) ∙ ap (cornered c.args.x c.args.y) c.frame.ensures)
