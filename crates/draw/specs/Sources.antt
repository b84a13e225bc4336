-- Sources of pixels, and a layer's picture combined with one. The lemma at the end stands here since a law of an impl of `Source` cites it.
use Rattle.std.specs.Prelude.{◌≡◌, ℕ, ◌+◌, ◌<◌, Bool, false, cond, ◌&&◌, ◌==◌, refl}
use Rattle.raster.specs.Rules.{combined}
use Rattle.raster.specs.Picture.{Picture, painted}
use Rattle.raster.specs.Blits.{spans, opposite, inked}
use Rattle.raster.specs.declared.ink.Ink.{Ink}
use Rattle.raster.specs.declared.ink.Ink.TheVariants.{Value, Itself}
use Rattle.raster.specs.declared.span.Span.{Span}

-- The source pixel of each place, by the picture that is painted.
abbrev pub Pixel : Type 0
Pixel = Picture → (x y : ℕ) → ℕ

-- It stays while other places are painted.
abbrev pub Kept : Pixel → Type 0
Kept source = (p : Picture) (t : ℕ → ℕ → Bool) (v : ℕ → ℕ → ℕ) (x y : ℕ) → t x y ≡ false → source (painted p t v) x y ≡ source p x y

-- The pixel (x, y) combined with the source pixel opposite, in the source row sy.
abbrev pub blended : (rule : ℕ) (source : Pixel) (columns : Span) → Picture → (sy x y : ℕ) → ℕ
blended rule source columns p sy x y = combined p.depth rule (source p (opposite columns x) sy) (p.at x y)

-- The picture with all columns so combined in row y, from the source row sy; and with all columns in all rows.
unfoldable pub row_blended : (rule : ℕ) (source : Pixel) (columns : Span) (y sy : ℕ) → Picture → Picture
row_blended rule source columns y sy p = painted p (λ x z. spans columns x && z == y) (λ x z. blended rule source columns p sy x z)

unfoldable pub all_blended : (rule : ℕ) (source : Pixel) (columns rows : Span) → Picture → Picture
all_blended rule source columns rows p = painted p (λ x z. spans columns x && spans rows z) (λ x z. blended rule source columns p (opposite rows z) x z)

-- The places of a span, as their own source.
abbrev pub in_place : Span → Span
in_place s = record s { source = s.first }

-- Each place that a row of columns is read from is one of some places; and each that columns and rows are read from.
abbrev pub ReadsRow : (places : ℕ → ℕ → Type 0) (columns : Span) (sy : ℕ) → Type 0
ReadsRow places columns sy = (i : ℕ) → i < columns.len → places (columns.source + i) sy

abbrev pub ReadsAll : (places : ℕ → ℕ → Type 0) (columns rows : Span) → Type 0
ReadsAll places columns rows = (j : ℕ) → j < rows.len → ReadsRow places columns (rows.source + j)

-- An ink's pixels are kept.
pub ink_kept : (ink : Ink) → Kept (inked ink)
unfolding painted
ink_kept (Value n) p t v x y e = refl
ink_kept Itself p t v x y e = λ i. cond (e i) (v x y) (p.at x y)
