-- A client's calls on its layer, and the same calls of its pane.
use Rattle.std.proofs.Common.{◌≡◌, ℕ, ◌^◌, ◌<◌, true, false, ◌&&◌, eqb, ltb, leb, ℤ, pos, nat_abs, is_some, None, Ok, Result, sym, refl, ap, ◌∙◌, ⊎_elim, arith}
use Rattle.std.proofs.lemmas.Option.{none-some}
use Rattle.std.proofs.lemmas.Int.{ints}
use Rattle.std.proofs.lemmas.Bool.{cases_Bool, both_ways, le-ltb, lt-leb}
use Rattle.std.proofs.lemmas.Bool.Decides.{nat_tests}
use Rattle.raster.specs.Picture.{Picture, sizes}
use Rattle.raster.specs.Blt.{inside, in_rectangle, concerned, blt}
use Rattle.raster.specs.Calls.{BitmapCall, read_at, write_at, fill_with, unless, bitmap_fault, bitmap_after}
use Rattle.raster.specs.declared.fault.Fault.{Fault}
use Rattle.raster.specs.declared.size.Size.{Size}
use Rattle.raster.proofs.Accepts.{unless_ok, read_within, write_as_read, fill_accepted, after_accepted}
use Rattle.raster.proofs.Called.{read_found, write_found}
use Rattle.raster.proofs.Lawful.{bitmap_laws_lem}
use Rattle.raster.proofs.Paints.{painted_same}
use Rattle.paper.specs.Layers.{Desk, is_open, pane}
use Rattle.paper.specs.Desk.{Call, read_layer, repaint, carried, own_bitmap, fault_of, change, after, answer}
use Rattle.paper.proofs.Draws.{SameDrawing, fills, scrolls, open_checks, shut_checks}
use Rattle.paper.proofs.Pane.{repaint_own, painted_pane}
use Rattle.paper.proofs.View.{after_either, answer_accepted}
use Rattle.plan.proofs.Sifts.{open_low}
use Rattle.desk.specs.declared.book.Book.{Book}
use Rattle.desk.specs.Desks.{on_pictures}
use Rattle.desk.proofs.Fits.{open_listed, shut_pane}

-- a drawing alters the pixels of the client's layer, and nothing else
pub drawing_repaints : (d : Desk) (c : ℕ) {k : Call} {call : BitmapCall} → SameDrawing c k call → after d k ≡ repaint c (pane c (after d k)) d
drawing_repaints d c {k = k} s = after_either (λ z. z ≡ repaint c (pane c z) d) d k (sym (repaint_own c d)) (changed s)
  where
    changed : {k : Call} {call : BitmapCall} → SameDrawing c k call → fault_of d k ≡ None → change d k ≡ repaint c (pane c (change d k)) d
    changed fills ok =
        ap (λ q. repaint c q d) (painted_pane c d _ (λ none. let f = shut_checks c d _ (ap is_some none) in absurd (none-some _ (sym ok ∙ f.1))))
    changed scrolls ok =
        ap (λ q. repaint c q d) (painted_pane c d _ (λ none. let f = shut_checks c d _ (ap is_some none) in absurd (none-some _ (sym ok ∙ f.1))))

module _ (screen store : Picture) (b : Book) (c : ℕ) where
  -- a client with an open layer is 7 at most
  open_client : is_open c (on_pictures screen store b) ≡ true → ltb 7 c ≡ false
  open_client o = le-ltb 7 c (omega (arith, open_low b.plan c (open_listed screen store b c o).1))

  pub shut_above : ltb 7 c ≡ true → is_open c (on_pictures screen store b) ≡ false
  shut_above t =
      ⊎_elim (λ (o : is_open c (on_pictures screen store b) ≡ true). absurd (both_ways (ltb 7 c) (open_client o) t)) (λ (o : is_open c (on_pictures screen store b) ≡ false). o)
      (cases_Bool (is_open c (on_pictures screen store b)))

  -- a pixel of the pane is one of an open layer
  pixel_open : (u : ℕ) → u < (pane c (on_pictures screen store b)).width → is_open c (on_pictures screen store b) ≡ true
  pixel_open u l =
      ⊎_elim (λ (o : is_open c (on_pictures screen store b) ≡ true). o)
      (λ (o : is_open c (on_pictures screen store b) ≡ false). absurd (let e = ap (λ (p : Picture). p.width) (shut_pane screen store b c o) in omega (arith, e, l)))
      (cases_Bool (is_open c (on_pictures screen store b)))

  -- the client reads it
  pub pixel_answer : (x y : ℤ) (u v : ℕ)
      → ◌≡◌ {A = Result (ℕ × ℕ) Fault} (Ok (u, v)) (unless (bitmap_fault (sizes (pane c (on_pictures screen store b))) (read_at x y)) (nat_abs x, nat_abs y))
      → answer (on_pictures screen store b) (read_layer c x y) ≡ Ok ((pane c (on_pictures screen store b)).at u v)
  pixel_answer x y u v e =
      let d = on_pictures screen store b in
      let p = pane c d in
      let z = unless_ok (bitmap_fault (sizes p) (read_at x y)) (nat_abs x, nat_abs y) (u, v) e in
      let o = pixel_open u (read_found p x y u v e).across in
      answer_accepted d (read_layer c x y) (open_checks c d (own_bitmap c d (read_at x y)) (open_client o) o ∙ ap (carried c) z.0)
      ∙ ap Ok (sym (ap (λ (w : ℕ × ℕ). p.at w.0 w.1) z.1))

-- what a check of a place answers, at the pane's own size
pub at_size : {A : Type 0} {r : Result A Fault} {s : Size} (p : Picture) (call : BitmapCall) (a : A) → s ≡ sizes p → r ≡ unless (bitmap_fault s call) a
    → r ≡ unless (bitmap_fault (sizes p) call) a
at_size p call a e h = h ∙ ap (λ (z : Size). unless (bitmap_fault z call) a) e

-- the 1 by 1 rectangle at a pixel
one_pixel : (s : Size) (x y : ℤ) (a b : ℕ) → inside s x y ≡ true → (in_rectangle x y 1 1 (pos a) (pos b) && (inside s (pos a) (pos b) && true)) ≡ (eqb a (nat_abs x) && eqb b (nat_abs y))
one_pixel s x y a b i = grind (arith, ints, nat_tests)

-- a write is a fill of one pixel by the rule that takes the source
pub write_fills : (p : Picture) (x y : ℤ) (v a b : ℕ) → ◌≡◌ {A = Result (ℕ × ℕ) Fault} (Ok (a, b)) (unless (bitmap_fault (sizes p) (write_at x y v)) (nat_abs x, nat_abs y))
    → bitmap_after p (fill_with 3 v x y 1 1) ≡ bitmap_after p (write_at x y v)
unfolding blt concerned
write_fills p x y v a b e =
    let z = unless_ok (bitmap_fault (sizes p) (write_at x y v)) (nat_abs x, nat_abs y) (a, b) e in
    let small = (write_found p x y v a b e).small in
    let low : leb (2 ^ p.depth) v ≡ false = lt-leb (2 ^ p.depth) v small in
    let there = read_within (sizes p) x y (sym (write_as_read (sizes p) x y v low) ∙ z.0) in
    after_accepted p (fill_with 3 v x y 1 1) (fill_accepted (sizes p) x y 3 v 1 1 refl low)
    ∙ painted_same p _ (λ m n. eqb m (nat_abs x) && eqb n (nat_abs y)) _ (λ _ _. v) (λ m n. one_pixel (sizes p) x y m n there) (λ m n _. bitmap_laws_lem.source_rule p.depth v (p.at m n) small)
    ∙ sym (after_accepted p (write_at x y v) z.0)
