-- Blocks of patches: those of a layer that an area meets.
use Rattle.std.specs.Prelude.{◌≡◌, ℕ, ◌+◌, ◌*◌, ◌/◌, ◌%◌, ◌<◌, ◌≤◌, min, Bool, true, cond, ℤ, pos, ◌+ℤ◌, ◌-ℤ◌, int_le, nat_eq, unsigned_abs}
use Rattle.std.specs.declared.ops.Range.{Range}
use Rattle.raster.specs.Calls.{any_below}
use Rattle.raster.specs.declared.rectangle.Rectangle.{Rectangle}
use Rattle.plan.specs.Areas.{reaches, meets}

-- How far the place n past z lies past a corner; 0 if it does not.
abbrev pub past : ℤ → ℕ → ℤ → ℕ
past z n corner = cond (int_le corner (z +ℤ pos n)) (unsigned_abs ((z +ℤ pos n) -ℤ corner)) 0

-- A range has every patch of 16 pixels, along an axis of n pixels from x on, that has one of the m places from y on.
abbrev pub Reached : (x : ℤ) (n : ℕ) (y : ℤ) (m : ℕ) → Range ℕ → Type 0
Reached x n y m s = (i : ℕ) → 16 * i < n → reaches y m (x +ℤ pos (16 * i)) (x +ℤ pos (min (16 * i + 16) n)) ≡ true → (s.start ≤ i) × (i < s.end)

-- The patch of a number is one of n from `first` on, and one in a block: the rows of a layer's patches lie 20 numbers apart.
abbrev pub in_row : (first n : ℕ) → ℕ → Bool
in_row first n k = any_below (λ i. nat_eq k (first + i)) n

abbrev pub in_block : (first columns rows : ℕ) → ℕ → Bool
in_block first columns rows k = any_below (λ j. in_row (first + 20 * j) columns k) rows

-- The corner of a patch in its layer.
abbrev pub patch_x : ℕ → ℕ
patch_x k = 16 * (k % 300 % 20)

abbrev pub patch_y : ℕ → ℕ
patch_y k = 16 * (k % 300 / 20)

-- A layer's frame has the patch of a number.
pub record InFrame (f : Rectangle) (k : ℕ) : Type 0 where
  pub across : patch_x k < f.w
  pub down : patch_y k < f.h

-- An area has a place of that patch, cut to the layer.
abbrev pub patch_met : (area frame : Rectangle) → ℕ → Bool
patch_met a f k =
    meets a.x a.y a.w a.h (f.x +ℤ pos (patch_x k)) (f.y +ℤ pos (patch_y k)) (f.x +ℤ pos (min (patch_x k + 16) f.w))
    (f.y +ℤ pos (min (patch_y k + 16) f.h))
