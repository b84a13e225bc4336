-- What planes mean is a bitmap's picture, and what they keep they keep from call to call.
-- Lemmas: proved, not to be believed. They stand here since the laws in the impl of Bitmap cite them.
use Rattle.std.specs.Prelude.{ℕ, ◌^◌, ◌<◌, List, refl}
use Rattle.std.proofs.Common.{subst, ◌∙◌, arith}
use Rattle.std.proofs.lemmas.Bool.Decides.{nat_tests}
use Rattle.std.proofs.lemmas.Nat.Bits.{bit_at-lt}
use Rattle.raster.specs.Picture.{Sound}
use Rattle.raster.specs.declared.size.Size.{Size}
use Rattle.raster.proofs.Digits.{total_below}
use Rattle.raster.proofs.Paints.{cond_less}
use Rattle.planes.specs.Layout.{pixel, Kept}
use Rattle.planes.specs.Means.{words_of, picture_of, PlanesKept}
use Rattle.planes.specs.declared.planes.Planes.{Planes}

pixel_below : (words : List ℕ) (w h depth x y : ℕ) → pixel words w h depth x y < 2 ^ depth
unfolding pixel
pixel_below words w h depth x y = total_below _ (λ j. bit_at-lt _ _) depth

pub planes_sound : (p : Planes) → Sound (picture_of p)
planes_sound p =
    let s = p.size in
    record {
      wide = p.carried.0;
      high = p.carried.1;
      deep = (p.carried.2, p.carried.3);
      values = λ x y. cond_less _ _ _ (pixel_below (words_of p) s.width s.height s.depth x y);
      outside = λ x y o. grind (arith, nat_tests);
    }

pub planes_same : (p : Planes) → PlanesKept p p
planes_same p = record { size = refl; words = record { long = refl; bits = λ i k free. refl } }

pub planes_joins : (p q r : Planes) → PlanesKept p q → PlanesKept q r → PlanesKept p r
planes_joins p q r a b =
    let later = subst (λ (s : Size). Kept s (words_of q) (words_of r)) a.size b.words in
    record {
      size = b.size ∙ a.size;
      words = record { long = later.long ∙ a.words.long; bits = λ i k free. later.bits i k free ∙ a.words.bits i k free };
    }
