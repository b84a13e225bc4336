-- What the definitions mean, from another side.
use Rattle.std.specs.Prelude.{◌≡◌, ℕ, ◌+◌, ◌*◌, ◌^◌, ◌<◌, true, false, ℤ, Some, Err, unsigned_abs}
use Rattle.raster.specs.Rules.{bit, result, combined}
use Rattle.raster.specs.Picture.{Picture, sizes, Sound}
use Rattle.raster.specs.Blt.{in_rectangle, inside, from_picture, everywhere, transfer, blt, count}
use Rattle.raster.specs.Calls.{BitmapCall, bitmap_fault, bitmap_answer, bitmap_after, concerns, fill_transfer}
use Rattle.raster.specs.declared.fault.Fault.{Fault}

-- The source has the value v at each place of the rectangle at (x, y), w by h.
abbrev pub HasEverywhere : Picture → (v : ℕ) (x y : ℤ) (w h : ℕ) → Type 0
HasEverywhere s v x y w h =
    (a b : ℤ) → in_rectangle x y w h a b ≡ true → (inside (sizes s) a b ≡ true) × (s.at (unsigned_abs a) (unsigned_abs b) ≡ v)

pub record BitmapLaws : Type 0 where
  -- A rule is the sum of 8, 4, 2 and 1, taken where its result is 1 for (0,0), (0,1), (1,0) and (1,1).
  pub rule_is_sum : (rule : ℕ) → rule < 16 → 8 * result rule 0 0 + 4 * result rule 0 1 + 2 * result rule 1 0 + result rule 1 1 ≡ rule
  -- Pixels combine bit by bit over the depth, and the bits above it are 0.
  pub every_bit : (depth rule s d j : ℕ) → j < depth → bit (combined depth rule s d) j ≡ result rule (bit s j) (bit d j)
  pub none_above : (depth rule s d : ℕ) → combined depth rule s d < 2 ^ depth
  -- Rule 3 is the source, rule 5 the destination.
  pub source_rule : (depth s d : ℕ) → s < 2 ^ depth → combined depth 3 s d ≡ s
  pub destination_rule : (depth s d : ℕ) → d < 2 ^ depth → combined depth 5 s d ≡ d
  -- Fill is BitBlt from any source that has the value wherever the rectangle needs it: neither its size nor its corner matters.
  pub fill_from_any : (p s : Picture) (rule v : ℕ) (x y sx sy : ℤ) (w h : ℕ) → HasEverywhere s v sx sy w h
      → (blt (transfer rule sx sy x y w h) (from_picture s) p ≡ blt (fill_transfer rule x y w h) (everywhere v) p)
      × (count (transfer rule sx sy x y w h) (from_picture s) (sizes p) ≡ count (fill_transfer rule x y w h) (everywhere v) (sizes p))
  -- A refused call answers its fault and leaves the picture.
  pub refused_stays : (p : Picture) (call : BitmapCall) (f : Fault) → bitmap_fault (sizes p) call ≡ Some f
      → (bitmap_answer p call ≡ Err f) × (bitmap_after p call ≡ p)
  -- No call changes a pixel that it does not concern, or the size; and every picture after a call is one of a bitmap.
  pub others_stay : (p : Picture) (call : BitmapCall) (x y : ℕ) → concerns p call x y ≡ false → (bitmap_after p call).at x y ≡ p.at x y
  pub size_stays : (p : Picture) (call : BitmapCall) → sizes (bitmap_after p call) ≡ sizes p
  pub sound_stays : (p : Picture) (call : BitmapCall) → Sound p → Sound (bitmap_after p call)
