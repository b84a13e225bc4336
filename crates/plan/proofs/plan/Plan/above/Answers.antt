use Rattle.std.proofs.Common.{◌+◌, drop, sym, ap, ◌∙◌}
use Rattle.std.proofs.lemmas.List.{take_rest}
use Rattle.plan.specs.Plans.{listed, outlines}
use Rattle.plan.proofs.Rotations.{absent}
use Rattle.plan.proofs.Turns.{above_open, above_closed}
use Rattle.plan.proofs.plan.Plan.above.Goals as goal

pub returns-in-Some : goal.returns-in-Some
returns-in-Some c =
    let p = c.args.self.now in
    ap (λ cs. outlines cs p.frames) (take_rest c.clients.result.now (c.in-Some.i + 1) ∙ ap (drop (c.in-Some.i + 1)) c.clients.ensures)
    ∙ above_open c.args.c c.in-Some.i (listed p) p.frames (sym c.in-Some.is ∙ c.position.ensures)

pub returns-in-None : goal.returns-in-None
returns-in-None c =
    let p = c.args.self.now in
    above_closed c.args.c (listed p) p.frames (absent c.args.c (listed p) (sym c.in-None.is ∙ c.position.ensures))
