-- How a row of pixels is written as runs, one pixel after the other.
use Rattle.std.specs.Prelude.{◌≡◌, ℕ, suc, ◌+◌, ◌-◌, ◌%◌, ◌^◌, ◌<◌, ◌≤◌, ◌⊎◌, List, length, ◌≢◌, slice_index, slice_set}
use Rattle.runrows.specs.Runs.{starts, run_at, Settled}

-- the pixels of the first n entries
abbrev pub Spelt : List ℕ → ℕ → List ℕ → Type 0
Spelt es n pixels = (k x : ℕ) → k < n → starts es k ≤ x → x < starts es (suc k) → slice_index es k % 16 ≡ slice_index pixels x

-- one more pixel v after n runs: the last is longer by one, or a run is added
pub record Added (es : List ℕ) (n v : ℕ) (fs : List ℕ) (m : ℕ) : Type 0 where
  pub how : ((0 < n) × (slice_index es (n - 1) % 16 ≡ v) × (m ≡ n) × (fs ≡ slice_set es (n - 1) (slice_index es (n - 1) + 16)))
      ⊎ ((0 < n → slice_index es (n - 1) % 16 ≢ v) × (m ≡ n + 1) × (fs ≡ slice_set es n (16 + v)))

-- Each pixel has a value of a depth.
abbrev pub PixelsFit : (depth : ℕ) → List ℕ → Type 0
PixelsFit depth pixels = (k : ℕ) → k < length pixels → slice_index pixels k < 2 ^ depth

-- A row holds some pixels in their one writing.
pub record RowHolds (depth : ℕ) (es pixels : List ℕ) : Type 0 where
  pub settled : Settled depth es (length pixels)
  pub value : (x : ℕ) → x < length pixels → run_at depth es x ≡ slice_index pixels x
