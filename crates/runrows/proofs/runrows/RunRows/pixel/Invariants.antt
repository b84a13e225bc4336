use Rattle.std.proofs.Common.{◌≡◌, drop}
use Rattle.runrows.specs.Runs.{run_at}
use Rattle.runrows.specs.Means.{picture_of}
use Rattle.runrows.proofs.runrows.RunRows.pixel.Given as goal

abbrev pub invariant-loop-entry : goal.invariant-loop-entry
invariant-loop-entry l = run_at l.self.size.depth (drop l.entry-index l.row) l.left ≡ (picture_of l.self).at l.x l.y
