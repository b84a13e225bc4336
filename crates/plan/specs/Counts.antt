-- Patches counted by a test.
use Rattle.std.specs.Prelude.{ℕ, Bool, cond}
use Rattle.raster.specs.Rules.{total}

-- How many of the first n patches pass a test, and how many of all.
unfoldable pub counted : (ℕ → Bool) → ℕ → ℕ
counted test n = total (λ k. cond (test k) 1 0) n

abbrev pub passing : (ℕ → Bool) → ℕ
passing test = counted test 2400
