use Rattle.std.proofs.Common.{◌≡◌, ℕ, ◌+◌, ◌<◌, ◌≤◌, length, get_or, drop}
use Rattle.runrows.specs.Runs.{run_at}
use Rattle.runrows.proofs.runrows.RunRows.unpack.Given as goal

abbrev pub invariant-loop-entry : goal.invariant-loop-entry
invariant-loop-entry l =
    record {
      within : l.start ≤ length l.out;
      done : (k : ℕ) → k < l.start → get_or l.out k 0 ≡ run_at l.self.size.depth l.row k;
      ahead : (k : ℕ) → l.start + k < length l.out → run_at l.self.size.depth l.row (l.start + k) ≡ run_at l.self.size.depth (drop l.entry-index l.row) k;
    }
