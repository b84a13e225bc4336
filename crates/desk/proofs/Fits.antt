-- A desk whose book was made for its bitmaps, and one whose book was not.
use Rattle.std.proofs.Common.{◌≡◌, ℕ, Bool, true, false, cond, not, eqb, ℤ, is_ok, None, Ok, Err, Option, Result, sym, refl, ap, ◌∙◌, ⊎_elim}
use Rattle.std.proofs.lemmas.Bool.{and_parts, eqb-true, cond-true, cond-false, cases_Bool, both_ways}
use Rattle.raster.specs.Picture.{Picture, sizes}
use Rattle.raster.specs.declared.size.Size.{Size}
use Rattle.paper.specs.Layers as paper
use Rattle.paper.specs.Layers.{new_desk, topmost, pixels_of, is_open, pane, or_blank, blank}
use Rattle.raster.specs.Blt.{inside}
use Rattle.raster.specs.Calls.{unless, refuse_if, bitmap_fault, read_at}
use Rattle.raster.specs.declared.fault.Fault.{Fault}
use Rattle.raster.specs.declared.refusal.Refusal.TheVariants.{OutsideBitmap}
use Rattle.paper.specs.Desk.{client_if, top_answer, unnamed}
use Rattle.paper.proofs.Layers.{not_some}
use Rattle.paper.specs.Slots.{slots_of}
use Rattle.plan.specs.Frames.{has}
use Rattle.plan.specs.Plans.{listed, layers_in}
use Rattle.hold.specs.Held.{Fitting, layer_with, held, paper_of}
use Rattle.hold.proofs.Asks.{paper_open, paper_topmost}
use Rattle.hold.proofs.Papers.{held_pane}
use Rattle.raster.proofs.Accepts.{read_inside, read_outside}
use Rattle.desk.specs.declared.book.Book.{Book}
use Rattle.desk.specs.Desks.{same_size, made_for, on_pictures}

sizes_equal : (a b : Size) → same_size a b ≡ true → a ≡ b
sizes_equal a b t =
    let q = and_parts (eqb a.width b.width) _ t in
    let r = and_parts (eqb a.height b.height) _ q.1 in
    λ i. record { width = eqb-true a.width b.width q.0 i; height = eqb-true a.height b.height r.0 i; depth = eqb-true a.depth b.depth r.1 i }

module _ (screen store : Picture) (b : Book) where
  pub fitting : made_for screen store b ≡ true → Fitting screen store b.plan b.slots
  fitting t =
      let q = and_parts (same_size b.plan.screen (sizes screen)) _ t in
      record { size = sizes_equal b.plan.screen (sizes screen) q.0; places = eqb-true b.slots.places _ q.1; fits = b.held }

  pub paper_fits : made_for screen store b ≡ true → on_pictures screen store b ≡ paper_of screen store b.plan b.slots
  unfolding on_pictures
  paper_fits t = cond-true (made_for screen store b) _ _ t

  pub paper_other : made_for screen store b ≡ false → on_pictures screen store b ≡ new_desk (sizes screen) (slots_of (sizes store) screen.depth)
  unfolding on_pictures
  paper_other t = cond-false (made_for screen store b) _ _ t

  pub open_fits : (c : ℕ) → made_for screen store b ≡ true → is_open c (on_pictures screen store b) ≡ has c (listed b.plan)
  open_fits c t = ap (is_open c) (paper_fits t) ∙ paper_open screen store b.plan b.slots c

  pub open_other : (c : ℕ) → made_for screen store b ≡ false → is_open c (on_pictures screen store b) ≡ false
  open_other c t = ap (is_open c) (paper_other t)

  -- an open layer is one of a book that fits
  pub open_listed : (c : ℕ) → is_open c (on_pictures screen store b) ≡ true → (made_for screen store b ≡ true) × (has c (listed b.plan) ≡ true)
  open_listed c o =
      ⊎_elim (λ (t : made_for screen store b ≡ true). (t, sym (open_fits c t) ∙ o)) (λ (t : made_for screen store b ≡ false). absurd (both_ways (is_open c (on_pictures screen store b)) (open_other c t) o))
      (cases_Bool (made_for screen store b))

  pub paper_size : (on_pictures screen store b).size ≡ sizes screen
  unfolding on_pictures paper_of
  paper_size = by (made_for screen store b)
    where
      by : (t : Bool) → (cond t (paper_of screen store b.plan b.slots) (new_desk (sizes screen) (slots_of (sizes store) screen.depth))).size ≡ sizes screen
      by true = refl
      by false = refl

  pub paper_slots : (on_pictures screen store b).slots ≡ slots_of (sizes store) screen.depth
  unfolding on_pictures paper_of
  paper_slots = by (made_for screen store b)
    where
      by : (t : Bool) → (cond t (paper_of screen store b.plan b.slots) (new_desk (sizes screen) (slots_of (sizes store) screen.depth))).slots ≡ slots_of (sizes store) screen.depth
      by true = refl
      by false = refl

  pub shut_pane : (c : ℕ) → is_open c (on_pictures screen store b) ≡ false → pane c (on_pictures screen store b) ≡ blank 0 0 screen.depth
  shut_pane c o =
      ap (or_blank (on_pictures screen store b).size.depth) (not_some (pixels_of c (on_pictures screen store b).layers) o)
      ∙ ap (λ (z : Size). blank 0 0 z.depth) paper_size

  pub open_pane : (c : ℕ) → is_open c (on_pictures screen store b) ≡ true
      → pane c (on_pictures screen store b) ≡ (layer_with screen.depth b.plan (held screen store b.plan b.slots) c).pixels
  open_pane c o =
      let q = open_listed c o in
      ap (pane c) (paper_fits q.0) ∙ held_pane screen store b.plan b.slots c q.1

  -- the topmost client
  module _ (x y : ℤ) where
    pub top_off : inside (sizes screen) x y ≡ false → top_answer (on_pictures screen store b) x y ≡ Err (unnamed OutsideBitmap)
    unfolding top_answer
    top_off e = ap (λ t. unless (refuse_if (not t) (unnamed OutsideBitmap)) (client_if (topmost (on_pictures screen store b).layers x y))) (ap (λ (z : Size). inside z x y) paper_size ∙ e)

    top_on : inside (sizes screen) x y ≡ true → top_answer (on_pictures screen store b) x y ≡ Ok (client_if (topmost (on_pictures screen store b).layers x y))
    unfolding top_answer
    top_on e = ap (λ t. unless (refuse_if (not t) (unnamed OutsideBitmap)) (client_if (topmost (on_pictures screen store b).layers x y))) (ap (λ (z : Size). inside z x y) paper_size ∙ e)

    pub top_fits : inside (sizes screen) x y ≡ true → made_for screen store b ≡ true → top_answer (on_pictures screen store b) x y ≡ Ok (client_if (topmost (layers_in b.plan) x y))
    top_fits e t =
        top_on e ∙ ap (λ (d : paper.Desk). Ok (client_if (topmost d.layers x y))) (paper_fits t) ∙ ap Ok (paper_topmost screen store b.plan b.slots x y)

    pub top_other : inside (sizes screen) x y ≡ true → made_for screen store b ≡ false → top_answer (on_pictures screen store b) x y ≡ Ok None
    top_other e t = top_on e ∙ ap (λ (d : paper.Desk). Ok (client_if (topmost d.layers x y))) (paper_other t)

-- what the check of a place tells, asked of the screen's size
pub place_test : (r s : Size) (x y : ℤ) (a : ℕ × ℕ) (p : Result (ℕ × ℕ) Fault) → p ≡ unless (bitmap_fault r (read_at x y)) a → r ≡ s → is_ok p ≡ inside s x y
place_test r s x y a p e es = ap is_ok e ∙ by (inside r x y) refl ∙ ap (λ (z : Size). inside z x y) es
  where
    by : (t : Bool) → inside r x y ≡ t → is_ok (unless (bitmap_fault r (read_at x y)) a) ≡ inside r x y
    by true t = ap (λ (o : Option Fault). is_ok (unless o a)) (read_inside r x y t) ∙ sym t
    by false t = ap (λ (o : Option Fault). is_ok (unless o a)) (read_outside r x y t) ∙ sym t
