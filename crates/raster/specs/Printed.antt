-- Rows of bitmaps, as they are printed.
use Rattle.std.specs.Prelude.{ℕ, zero, suc, ◌+◌, cond, List, [], ◌∷◌, ◌++◌, ℤ, pos, nat_lt, unsigned_abs}
use Rattle.raster.specs.Picture.{Picture}
use Rattle.raster.specs.Blt.{holds}

-- The character of a pixel below 16: its hexadecimal digit, 0 to 9 or a to f.
abbrev pub digit : ℕ → ℕ
digit v = cond (nat_lt v 10) (v + 48) (v + 87)

-- The digits of the first n pixels of row y, from left to right.
abbrev pub digits_of : Picture → (y n : ℕ) → List ℕ
digits_of p y zero = []
digits_of p y (suc n) = digits_of p y n ++ (digit (p.at n y) ∷ [])

-- A row is printed as a digit for each of its pixels; of a row that is not there, nothing is printed.
abbrev pub printed_row : Picture → ℤ → List ℕ
printed_row p y = cond (holds (pos 0) p.height y) (digits_of p (unsigned_abs y) p.width) []
