-- A client's drawing on its own layer is the drawing of a bitmap: its pane.
use Rattle.std.proofs.Common.{◌≡◌, ℕ, Bool, true, false, ltb, [], ◌∷◌, ℤ, pos, nat_abs, is_some, Some, None, Option, sym, refl, ap, ◌∙◌, ⊎_elim, arith}
use Rattle.std.proofs.lemmas.Int.{ints}
use Rattle.std.proofs.lemmas.Bool.{cases_Bool, and_left, and_right, both_ways, false≢true}
use Rattle.std.proofs.lemmas.Bool.Decides.{nat_tests}
use Rattle.raster.specs.Picture.{Picture, sizes}
use Rattle.raster.specs.Blt.{inside, concerned, blt}
use Rattle.raster.specs.declared.transfer.Transfer.{Transfer}
use Rattle.raster.specs.Calls.{BitmapCall, read_at, write_at, fill_with, scroll_by, unless, first_fault, refuse_if, bitmap_fault, bitmap_change, bitmap_after}
use Rattle.raster.specs.declared.fault.Fault.{Fault}
use Rattle.raster.specs.declared.refusal.Refusal.TheVariants.{ClientAboveSeven, NotOpen}
use Rattle.raster.proofs.Accepts as bitmaps
use Rattle.raster.proofs.Called.{write_found}
use Rattle.raster.proofs.Paints.{painted_none}
use Rattle.paper.specs.declared.DeskFault.{DeskFault}
use Rattle.paper.specs.Layers.{Desk, pixels_of, is_open, pane, or_blank, blank}
use Rattle.paper.specs.Desk.{Call, fill_layer, scroll_layer, because, fault_of, change, after, no_client, not_open, carried, repaint}
use Rattle.paper.proofs.Layers.{not_some}
use Rattle.paper.proofs.Pane.{repainted_pane}
use Rattle.paper.proofs.View.{after_refused, after_accepted}

-- the checks of a call to an open layer come down to the last
pub open_checks : (c : ℕ) (d : Desk) (o : Option DeskFault) → ltb 7 c ≡ false → is_open c d ≡ true → first_fault (no_client c ∷ not_open c d ∷ o ∷ []) ≡ o
open_checks c d (Some f) low opened = rw (low, opened) refl
open_checks c d None low opened = rw (low, opened) refl

-- and where it is not open, to a refusal
pub shut_checks : (c : ℕ) (d : Desk) (o : Option DeskFault) → is_open c d ≡ false → (f : DeskFault) × (first_fault (no_client c ∷ not_open c d ∷ o ∷ []) ≡ Some f)
shut_checks c d o shut = by (ltb 7 c)
  where
    by : (t : Bool) → (f : DeskFault) × (first_fault (refuse_if t (because ClientAboveSeven c) ∷ not_open c d ∷ o ∷ []) ≡ Some f)
    by true = (because ClientAboveSeven c, refl)
    by false = (because NotOpen c, rw shut refl)

-- a drawing call of a client, and the same of its bitmap
pub data SameDrawing : ℕ → Call → BitmapCall → Type 0 where
  fills : {c rule v w h : ℕ} {x y : ℤ} → SameDrawing c (fill_layer c rule v x y w h) (fill_with rule v x y w h)
  scrolls : {c : ℕ} {t : Transfer} → SameDrawing c (scroll_layer c t) (scroll_by t)

-- no place lies in a bitmap of no pixels
nowhere : (a b : ℕ) → inside (record { width = 0; height = 0; depth = 0 }) (pos a) (pos b) ≡ false
nowhere a b = grind (arith, ints, nat_tests)

-- an open layer takes the pixels that it is given
pub open_repaint : (c : ℕ) (d : Desk) (p : Picture) → is_open c d ≡ true → pane c (repaint c p d) ≡ p
open_repaint c d p opened = by (pixels_of c d.layers) refl opened
  where
    by : (o : Option Picture) → pixels_of c d.layers ≡ o → is_some o ≡ true → pane c (repaint c p d) ≡ p
    by (Some q) e t = repainted_pane c p q d e
    by None e t = absurd (false≢true t)

module _ (d : Desk) (c : ℕ) (low : ltb 7 c ≡ false) (opened : is_open c d ≡ true) where
  own_fault : {k : Call} {b : BitmapCall} → SameDrawing c k b → fault_of d k ≡ carried c (bitmap_fault (sizes (pane c d)) b)
  own_fault fills = open_checks c d _ low opened
  own_fault scrolls = open_checks c d _ low opened

  own_change : {k : Call} {b : BitmapCall} → SameDrawing c k b → pane c (change d k) ≡ bitmap_change (pane c d) b
  own_change fills = open_repaint c d _ opened
  own_change scrolls = open_repaint c d _ opened

  own_after : {k : Call} {b : BitmapCall} → SameDrawing c k b → pane c (after d k) ≡ bitmap_after (pane c d) b
  own_after {k = k} {b = b} s = by (bitmap_fault (sizes (pane c d)) b) refl
    where
      by : (o : Option Fault) → bitmap_fault (sizes (pane c d)) b ≡ o → pane c (after d k) ≡ bitmap_after (pane c d) b
      by (Some f) e = ap (pane c) (after_refused d k _ (own_fault s ∙ ap (carried c) e)) ∙ sym (bitmaps.after_refused (pane c d) b f e)
      by None e = ap (pane c) (after_accepted d k (own_fault s ∙ ap (carried c) e)) ∙ own_change s ∙ sym (bitmaps.after_accepted (pane c d) b e)

-- a bitmap of no pixels is left as it is
unchanged : (depth : ℕ) (b : BitmapCall) → bitmap_fault (sizes (blank 0 0 depth)) b ≡ None → bitmap_change (blank 0 0 depth) b ≡ blank 0 0 depth
unfolding blt concerned
unchanged depth (read_at x y) ok = refl
unchanged depth (write_at x y v) ok =
    let w = write_found (blank 0 0 depth) x y v (nat_abs x) (nat_abs y) (ap (λ o. unless o (nat_abs x, nat_abs y)) (sym ok)) in
    absurd (let l = w.across in omega arith)
unchanged depth (fill_with rule v x y w h) ok = painted_none (blank 0 0 depth) _ _ (λ a b. and_right _ _ (and_left _ _ (nowhere a b)))
unchanged depth (scroll_by t) ok = painted_none (blank 0 0 depth) _ _ (λ a b. and_right _ _ (and_left _ _ (nowhere a b)))

pub empty_after : (depth : ℕ) (b : BitmapCall) → bitmap_after (blank 0 0 depth) b ≡ blank 0 0 depth
empty_after depth b = by (bitmap_fault (sizes (blank 0 0 depth)) b) refl
  where
    by : (o : Option Fault) → bitmap_fault (sizes (blank 0 0 depth)) b ≡ o → bitmap_after (blank 0 0 depth) b ≡ blank 0 0 depth
    by (Some f) e = bitmaps.after_refused (blank 0 0 depth) b f e
    by None e = bitmaps.after_accepted (blank 0 0 depth) b e ∙ unchanged depth b e

-- a client's drawing, open or not, is the drawing of its pane
pub pane_draws : (d : Desk) (c : ℕ) → (ltb 7 c ≡ true → is_open c d ≡ false) → {k : Call} {b : BitmapCall} → SameDrawing c k b → pane c (after d k) ≡ bitmap_after (pane c d) b
pane_draws d c known {k = k} {b = b} s =
    ⊎_elim
    (λ (o : is_open c d ≡ true).
    ⊎_elim (λ (t : ltb 7 c ≡ true). absurd (both_ways (is_open c d) (known t) o)) (λ (t : ltb 7 c ≡ false). own_after d c t o s) (cases_Bool (ltb 7 c)))
    (λ (o : is_open c d ≡ false).
    let none : pixels_of c d.layers ≡ None = not_some (pixels_of c d.layers) o in
    let empty : pane c d ≡ blank 0 0 d.size.depth = ap (or_blank d.size.depth) none in
    let stays : after d k ≡ d = shut s o in
    ap (pane c) stays ∙ empty ∙ sym (ap (λ p. bitmap_after p b) empty ∙ empty_after d.size.depth b))
    (cases_Bool (is_open c d))
  where
    shut : {k : Call} {b : BitmapCall} → SameDrawing c k b → is_open c d ≡ false → after d k ≡ d
    shut fills o = let f = shut_checks c d _ o in after_refused d _ f.0 f.1
    shut scrolls o = let f = shut_checks c d _ o in after_refused d _ f.0 f.1
