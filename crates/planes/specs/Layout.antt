-- Planes: how a list of 32-bit words holds the pixels of a bitmap.
use Rattle.std.specs.Prelude.{◌≡◌, ℕ, ◌+◌, ◌-◌, ◌*◌, ◌/◌, ◌%◌, ◌^◌, ◌<◌, ◌≤◌, cond, ◌&&◌, List, length, ◌≢◌, nat_lt, slice_index}
use Rattle.raster.specs.Rules.{total, bit}
use Rattle.raster.specs.Picture.{Picture}
use Rattle.raster.specs.Rows.{capped, rows_carried}
use Rattle.raster.specs.declared.size.Size.{Size}

-- the words of a row: a 32nd of its width, rounded up
abbrev pub stride : ℕ → ℕ
stride w = (w + 31) / 32

-- The word of plane j that holds the pixel (x, y), of a width w and a height h: planes follow one another, and in a plane the rows.
unfoldable pub word_of : (w h j x y : ℕ) → ℕ
word_of w h j x y = j * h * stride w + y * stride w + x / 32

-- The bit of that word: the leftmost pixel is the highest bit.
abbrev pub bit_of : (x : ℕ) → ℕ
bit_of x = 31 - x % 32

-- Plane j holds bit j of each pixel.
unfoldable pub pixel : List ℕ → (w h depth x y : ℕ) → ℕ
pixel words w h depth x y = total (λ j. bit (slice_index words (word_of w h j x y)) (bit_of x) * 2 ^ j) depth

-- The picture that a list of words means, at a size.
abbrev pub laid_out : List ℕ → Size → Picture
laid_out words s = record {
  width = s.width;
  height = s.height;
  depth = s.depth;
  at = λ x y. cond (nat_lt x s.width && nat_lt y s.height) (pixel words s.width s.height s.depth x y) 0;
}

-- A size that n words can carry.
abbrev pub Carried : ℕ → Size → Type 0
Carried n s = (s.width ≤ 1024) × (s.height ≤ 1024) × (1 ≤ s.depth) × (s.depth ≤ 4) × (s.depth * s.height * stride s.width ≤ n)

-- a pixel (x, y) of a size
abbrev pub InBitmap : Size → (x y : ℕ) → Type 0
InBitmap s x y = (x < s.width) × (y < s.height)

-- The size of planes made on n words: what is asked for is capped, and the height is cut to what the words carry.
-- Words carry every height of a width of 0.
abbrev pub made_size : (n w h depth : ℕ) → Size
made_size n w h depth = let s : Size = capped w h depth in record s { height = rows_carried n (stride s.width * s.depth) s.height }

-- Bit k of word i is no pixel's.
abbrev pub Unused : Size → (i k : ℕ) → Type 0
Unused s i k = (j x y : ℕ) → j < s.depth → x < s.width → y < s.height → i ≡ word_of s.width s.height j x y → k ≢ bit_of x

-- Every bit that is no pixel's stays.
pub record Kept (s : Size) (before after : List ℕ) : Type 0 where
  pub long : length after ≡ length before
  pub bits : (i k : ℕ) → Unused s i k → bit (slice_index after i) k ≡ bit (slice_index before i) k
