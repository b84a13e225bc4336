use Rattle.std.proofs.Common.{◌/◌, ◌<◌}
use Rattle.slots.specs.Walks.{InLayer, Clear, AdjustedBut}
use Rattle.slots.specs.Changes.{needed}
use Rattle.slots.proofs.slots.Slots.adjust.Given as goal

abbrev pub invariant-loop-d : goal.invariant-loop-d
invariant-loop-d l = AdjustedBut (needed l.change) (λ k. k / 300 < l.d → InLayer l.change.after.now l.c k → Clear l.change.after.now l.c l.area k) l.initial.self l.self
