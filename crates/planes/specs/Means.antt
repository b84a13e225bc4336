-- What planes mean, and what of them is no pixel.
use Rattle.std.specs.Prelude.{◌≡◌, ℕ, List, vec_items}
use Rattle.raster.specs.Picture.{Picture}
use Rattle.planes.specs.Layout.{laid_out, Kept}
use Rattle.planes.specs.declared.planes.Planes.{Planes}

-- the list that planes were made on, as it stands
abbrev pub words_of : Planes → List ℕ
words_of p = vec_items p.words

abbrev pub picture_of : Planes → Picture
picture_of p = laid_out (words_of p) p.size

-- The size is the same, and every bit that is no pixel's stays. With the picture this settles every word.
pub record PlanesKept (p q : Planes) : Type 0 where
  pub size : q.size ≡ p.size
  pub words : Kept p.size (words_of p) (words_of q)
