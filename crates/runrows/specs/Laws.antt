-- What the writing of a row means.
use Rattle.std.specs.Prelude.{◌≡◌, ℕ, ◌<◌, List, length}
use Rattle.runrows.specs.Runs.{run_at, Settled}

pub record RunLaws : Type 0 where
  -- A row has one writing: two settled rows that show the same pixels are the same entries.
  pub one_writing : (depth : ℕ) (one two : List ℕ) (w : ℕ) → length one ≡ length two → Settled depth one w → Settled depth two w
      → ((x : ℕ) → x < w → run_at depth one x ≡ run_at depth two x) → one ≡ two
