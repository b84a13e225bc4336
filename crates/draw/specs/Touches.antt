-- One pixel of a picture, combined with a source pixel.
use Rattle.std.specs.Prelude.{ℕ}
use Rattle.raster.specs.Rules.{combined}
use Rattle.raster.specs.Picture.{Picture, with_pixel}

-- The pixel (x, y) becomes the rule's result of the source pixel s and of what it was.
abbrev pub touched : (rule s x y : ℕ) → Picture → Picture
touched rule s x y p = with_pixel p x y (combined p.depth rule s (p.at x y))
