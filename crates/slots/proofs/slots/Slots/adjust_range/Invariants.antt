use Rattle.std.proofs.Common.{◌-◌}
use Rattle.slots.specs.Blocks.{in_row}
use Rattle.slots.specs.Walks.{Adjusted}
use Rattle.slots.proofs.slots.Slots.adjust_range.Given as goal

abbrev pub invariant-loop-patch : goal.invariant-loop-patch
invariant-loop-patch g l = Adjusted (g.W.Wanted.wanted l.wanted) (in_row l.first (l.patch - l.first)) l.initial.self l.self
