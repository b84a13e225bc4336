-- BitBlt: which pixels it concerns, how many they are, and the picture after it.
use Rattle.std.specs.Prelude.{ℕ, Bool, true, cond, ◌&&◌, ℤ, pos, ◌+ℤ◌, ◌-ℤ◌, int_le, int_lt, unsigned_abs}
use Rattle.raster.specs.Rules.{total, combined}
use Rattle.raster.specs.Picture.{Picture, sizes, painted}
use Rattle.raster.specs.declared.size.Size.{Size}
use Rattle.raster.specs.declared.transfer.Transfer.{Transfer}

-- z is one of the n numbers from `from` on. The sum counts in full.
abbrev pub holds : (from : ℤ) (n : ℕ) (z : ℤ) → Bool
holds from n z = int_le from z && int_lt z (from +ℤ pos n)

-- (a, b) lies in the rectangle at (x, y), w by h.
abbrev pub in_rectangle : (x y : ℤ) (w h : ℕ) (a b : ℤ) → Bool
in_rectangle x y w h a b = holds x w a && holds y h b

-- (x, y) lies in a bitmap of a size.
abbrev pub inside : Size → ℤ → ℤ → Bool
inside s x y = in_rectangle (pos 0) (pos 0) s.width s.height x y

-- Where BitBlt takes pixels from: the places that there are, and the value at each.
pub record Source : Type 0 where
  pub has : ℤ → ℤ → Bool
  pub at : ℤ → ℤ → ℕ

-- a picture as a source
abbrev pub from_picture : Picture → Source
from_picture p = record { has = inside (sizes p); at = λ x y. p.at (unsigned_abs x) (unsigned_abs y) }

-- a source that has the value v everywhere
abbrev pub everywhere : ℕ → Source
everywhere v = record { has = λ _ _. true; at = λ _ _. v }

-- What BitBlt is told besides its source and destination, field by field.
abbrev pub transfer : (rule : ℕ) (sx sy dx dy : ℤ) (w h : ℕ) → Transfer
transfer rule sx sy dx dy w h = record { rule = rule; sx = sx; sy = sy; dx = dx; dy = dy; w = w; h = h }

-- The source place of a destination pixel, on one axis, with the corners s and d.
abbrev pub behind : (s d : ℤ) (x : ℕ) → ℤ
behind s d x = (pos x -ℤ d) +ℤ s

-- The destination pixel (x, y) is concerned: it lies in the rectangle and in the destination, and its source pixel in the source.
unfoldable pub concerned : Transfer → Source → Size → ℕ → ℕ → Bool
concerned t s d x y =
    in_rectangle t.dx t.dy t.w t.h (pos x) (pos y)
    && (inside d (pos x) (pos y) && s.has (behind t.sx t.dx x) (behind t.sy t.dy y))

-- How many pixels are concerned.
unfoldable pub count : Transfer → Source → Size → ℕ
count t s d = total (λ y. total (λ x. cond (concerned t s d x y) 1 0) d.width) d.height

-- The destination after BitBlt: each pixel concerned is the rule's result of both pixels as they were before, every other stays.
unfoldable pub blt : Transfer → Source → Picture → Picture
blt t s d =
    painted d (concerned t s (sizes d))
    (λ x y. combined d.depth t.rule (s.at (behind t.sx t.dx x) (behind t.sy t.dy y)) (d.at x y))
