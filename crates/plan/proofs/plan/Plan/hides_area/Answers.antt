use Rattle.std.proofs.Common.{inl, inr, ⊎_elim, rules}
use Rattle.plan.specs.Plans.{above, layers_in, frame_in}
use Rattle.plan.proofs.Patches.{no_area, off_hidden, over_hidden}
use Rattle.plan.proofs.plan.Plan.hides_area.Goals as goal

pub returns-then-u-frame : goal.returns-then-u-frame
returns-then-u-frame c =
    let p = c.args.self.now in
    no_area p.screen (above c.args.c (layers_in p)) (frame_in p c.args.c) c.frame-frame.result c.args.u c.args.v c.frame-frame.ensures
    (⊎_elim inl (λ q. inr q.1) c.then-u-frame.either)

pub returns-then-not-is_on : goal.returns-then-not-is_on
returns-then-not-is_on c =
    let p = c.args.self.now in
    off_hidden p.screen (above c.args.c (layers_in p)) (frame_in p c.args.c) c.frame-frame.result c.args.u c.args.v c.min.result c.min-2.result c.frame-frame.ensures
    (search rules) (search rules) (p.narrow c.args.c) (p.short c.args.c) c.if-u-frame.false c.if-v-frame.false c.min.ensures c.min-2.ensures
    c.is_on.result c.is_on.ensures c.if-not-is_on.true

pub returns-else-not-is_on : goal.returns-else-not-is_on
returns-else-not-is_on c =
    let p = c.args.self.now in
    over_hidden p.screen (above c.args.c (layers_in p)) (frame_in p c.args.c) c.frame-frame.result c.args.u c.args.v c.min.result c.min-2.result c.frame-frame.ensures
    (search rules) (search rules) (p.narrow c.args.c) (p.short c.args.c) c.if-u-frame.false c.if-v-frame.false c.min.ensures c.min-2.ensures
    c.is_on.result c.meets_above.result c.is_on.ensures c.if-not-is_on.false c.meets_above.ensures
