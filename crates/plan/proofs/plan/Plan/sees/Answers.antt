use Rattle.std.proofs.Common.{sym, ap, ◌∙◌, rules}
use Rattle.plan.proofs.Sights.{if_clear, off_screen, on_screen}
use Rattle.plan.proofs.plan.Plan.sees.Goals as goal

pub returns-in_err-y : goal.returns-in_err-y
returns-in_err-y c =
    c.from_residual-in_err-y.ensures
    ∙ off_screen c.args.self.now c.args.c c.args.u c.args.v _ c.frame-frame.ensures (search rules) (search rules) (search rules) (search rules) (sym c.below-2.ensures ∙ c.in_err-y.was)

pub returns-then-meets_above : goal.returns-then-meets_above
returns-then-meets_above c =
    ap (λ b. if_clear b c.in_ok-x.x c.in_ok-y.y) (sym c.if-meets_above.true)
    ∙ on_screen c.args.self.now c.args.c c.args.u c.args.v _ c.frame-frame.ensures (search rules) (search rules) (search rules) (search rules) c.in_ok-x.x c.in_ok-y.y
    (search rules) (search rules) (sym c.below.ensures ∙ c.in_ok-x.was) (sym c.below-2.ensures ∙ c.in_ok-y.was)
    c.of_place.result c.meets_above.result c.of_place.ensures c.meets_above.ensures

pub returns-else-meets_above : goal.returns-else-meets_above
returns-else-meets_above c =
    ap (λ b. if_clear b c.in_ok-x.x c.in_ok-y.y) (sym c.if-meets_above.false)
    ∙ on_screen c.args.self.now c.args.c c.args.u c.args.v _ c.frame-frame.ensures (search rules) (search rules) (search rules) (search rules) c.in_ok-x.x c.in_ok-y.y
    (search rules) (search rules) (sym c.below.ensures ∙ c.in_ok-x.was) (sym c.below-2.ensures ∙ c.in_ok-y.was)
    c.of_place.result c.meets_above.result c.of_place.ensures c.meets_above.ensures
