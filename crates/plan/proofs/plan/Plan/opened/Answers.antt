use Rattle.std.proofs.Common.{◌≡◌, length, set, sym, refl, ap, ◌∙◌, arith, rules}
use Rattle.plan.specs.Frames.{has, distinct}
use Rattle.plan.specs.Plans.{listed, outlines}
use Rattle.plan.proofs.Orders.{distinct_last}
use Rattle.plan.proofs.Sifts.{open_place, opens, open_order, low_set, has_last, set_narrow, set_short, opened_layers}
use Rattle.plan.proofs.plan.Plan.opened.Goals as goal

pub bounds-plan-self : goal.bounds-plan-self
bounds-plan-self c =
    let p = c.args.self.now in
    let k : length p.order ≡ 8 = search rules in
    open_place p c.args.c c.args.frame k (opens p c.args.c c.args.frame (sym c.if-not-can_open.ensures))

pub invariant_of-plan : goal.invariant_of-plan
invariant_of-plan c =
    let p = c.args.self.now in
    let k : length p.order ≡ 8 = search rules in
    let f = c.args.frame in
    let o = opens p c.args.c f (sym c.if-not-can_open.ensures) in
    let r = open_place p c.args.c f k o in
    record {
      long = search rules;
      few = omega arith;
      low = low_set p.count c.args.c p.order (omega arith) o.client p.low;
      once = ap distinct (open_order p c.args.c f k o) ∙ distinct_last c.args.c (listed p) p.once o.none;
      narrow = set_narrow p c.args.c f o.client o.narrow;
      short = set_short p c.args.c f o.client o.short;
    }

pub returns-clause-arranged : goal.returns-clause-arranged
returns-clause-arranged c =
    let p = c.args.self.now in
    let k : length p.order ≡ 8 = search rules in
    let f = c.args.frame in
    let o = opens p c.args.c f (sym c.if-not-can_open.ensures) in
    let e = open_order p c.args.c f k o in
    λ _. record {
      screen = refl;
      layers = ap (λ cs. outlines cs (set p.frames c.args.c f)) e ∙ opened_layers p c.args.c f o.client o.none;
      clients = λ d. ap (has d) e ∙ has_last c.args.c d (listed p);
    }
