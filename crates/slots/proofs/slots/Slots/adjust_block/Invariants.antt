use Rattle.slots.specs.Blocks.{in_block}
use Rattle.slots.specs.Walks.{Adjusted}
use Rattle.slots.specs.Changes.{needed}
use Rattle.slots.proofs.slots.Slots.adjust_block.Given as goal

abbrev pub invariant-loop-j : goal.invariant-loop-j
invariant-loop-j l = Adjusted (needed l.change) (in_block l.block.first l.block.columns l.j) l.initial.self l.self
