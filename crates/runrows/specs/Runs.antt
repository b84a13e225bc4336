-- Run rows: how a list of 16-bit entries holds the pixels of a bitmap, each row as runs of equal pixels.
use Rattle.std.specs.Prelude.{◌≡◌, ℕ, suc, ◌-◌, ◌*◌, ◌/◌, ◌%◌, ◌^◌, ◌<◌, ◌≤◌, Bool, true, false, cond, ◌&&◌, List, [], ◌∷◌, length, take, drop, ◌==◌, ◌≢◌, nat_lt, slice_index}
use Rattle.raster.specs.Rules.{total}
use Rattle.raster.specs.Picture.{Picture}
use Rattle.raster.specs.Rows.{capped, rows_carried}
use Rattle.raster.specs.declared.size.Size.{Size}

-- The pixel x of a row. An entry is length * 16 + value; one of length 0 ends the row, pixels not reached are 0,
-- and a value counts modulo 2^depth.
abbrev pub run_at : (depth : ℕ) → List ℕ → (x : ℕ) → ℕ
run_at depth [] x = 0
run_at depth (e ∷ es) x = cond (e / 16 == 0) 0 (cond (nat_lt x (e / 16)) (e % 16 % 2 ^ depth) (run_at depth es (x - e / 16)))

-- Row y has the w entries from y * w.
abbrev pub row_entries : List ℕ → (w y : ℕ) → List ℕ
row_entries entries w y = take w (drop (y * w) entries)

-- The picture that a list of entries means, at a size. What passes the width is not seen.
abbrev pub run_rows : List ℕ → Size → Picture
run_rows entries s = record {
  width = s.width;
  height = s.height;
  depth = s.depth;
  at = λ x y. cond (nat_lt x s.width && nat_lt y s.height) (run_at s.depth (row_entries entries s.width y) x) 0;
}

-- A size that n entries can carry.
abbrev pub Carried : ℕ → Size → Type 0
Carried n s = (s.width ≤ 1024) × (s.height ≤ 1024) × (1 ≤ s.depth) × (s.depth ≤ 4) × (s.height * s.width ≤ n)

-- The size of run rows made on n entries: what is asked for is capped, and the height is cut to what the entries carry.
-- Entries carry every height of a width of 0.
abbrev pub made_size : (n w h depth : ℕ) → Size
made_size n w h depth = let s : Size = capped w h depth in record s { height = rows_carried n s.width s.height }

-- the length of the run k, and the pixels before it
abbrev pub run_len : List ℕ → ℕ → ℕ
run_len es k = slice_index es k / 16

abbrev pub starts : List ℕ → ℕ → ℕ
starts es k = total (run_len es) k

-- The first n entries are runs of w pixels in all; each has a value of the depth, and neighbouring runs differ.
pub record Runs (depth : ℕ) (es : List ℕ) (n w : ℕ) : Type 0 where
  pub within : n ≤ length es
  pub some : (k : ℕ) → k < n → 0 < run_len es k
  pub small : (k : ℕ) → k < n → slice_index es k % 16 < 2 ^ depth
  pub differ : (k : ℕ) → suc k < n → slice_index es k % 16 ≢ slice_index es (suc k) % 16
  pub sum : starts es n ≡ w

-- A row of w pixels in its one writing: runs that add up to w, and then entries of 0.
abbrev pub Settled : (depth : ℕ) → List ℕ → (w : ℕ) → Type 0
Settled depth es w = (n : ℕ) × Runs depth es n w × ((k : ℕ) → n ≤ k → slice_index es k ≡ 0)

-- The rows that a test picks stand in their one writing, and all other entries stay.
pub record Rewritten (s : Size) (touched : ℕ → Bool) (before after : List ℕ) : Type 0 where
  pub long : length after ≡ length before
  pub past : (k : ℕ) → s.height * s.width ≤ k → slice_index after k ≡ slice_index before k
  pub stays : (y : ℕ) → y < s.height → touched y ≡ false → row_entries after s.width y ≡ row_entries before s.width y
  pub settles : (y : ℕ) → y < s.height → touched y ≡ true → Settled s.depth (row_entries after s.width y) s.width
