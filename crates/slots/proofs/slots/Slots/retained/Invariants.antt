use Rattle.slots.specs.Allots.{Retained}
use Rattle.slots.proofs.Allotted.{from_on}
use Rattle.slots.proofs.slots.Slots.retained.Given as goal

abbrev pub invariant-loop-patch : goal.invariant-loop-patch
invariant-loop-patch g l = Retained l.self (from_on (g.W.Wanted.wanted l.wanted) l.patch) l.slots
