-- New desks, and books without layers.
use Rattle.std.proofs.Common.{◌≡◌, ℕ, ◌*◌, ◌/◌, ◌<◌, ◌≤◌, min, Bool, true, false, cond, ltb, ◌⊎◌, List, pos, sym, refl, ap, ◌∙◌, inl, inr, ⊎_elim, arith}
use Rattle.std.proofs.lemmas.Nat.{mul-le}
use Rattle.std.proofs.lemmas.Int.{ints}
use Rattle.std.proofs.lemmas.Bool.{and_from, eq-eqb, cond-true, cond-false, cases_lt}
use Rattle.std.proofs.lemmas.Bool.Decides.{nat_tests}
use Rattle.raster.specs.Picture.{Picture, sizes, painted, Sound}
use Rattle.raster.specs.Calls.{fill_with, bitmap_after}
use Rattle.raster.specs.declared.size.Size.{Size}
use Rattle.raster.proofs.Paints.{same_picture}
use Rattle.paper.specs.Layers.{new_desk, blank}
use Rattle.paper.specs.Slots.{slots_of, hidden_count}
use Rattle.paper.specs.Desk.{slots_answer}
use Rattle.paper.specs.Run.{new_state}
use Rattle.slots.specs.Tables.{has_slot}
use Rattle.plan.specs.Counts.{passing}
use Rattle.hold.specs.Held.{held, layers_with, paper_of}
use Rattle.moving.specs.Phases.{on_screen}
use Rattle.moving.proofs.Blanks.{filled_zero}
use Rattle.desk.specs.declared.book.Book.{Book}
use Rattle.desk.specs.Desks.{same_size, made_for, on_pictures, used_by, state_on}
use Rattle.desk.specs.Moves.{Fresh}
use Rattle.desk.proofs.Counted.{used_is, empty_count}
use Rattle.desk.proofs.Fits.{paper_fits, paper_slots}

few_slots : (store : Picture) (depth : ℕ) → Sound store → slots_of (sizes store) depth ≤ 4096
few_slots store depth sound = by (ltb store.depth depth)
  where
    by : (b : Bool) → cond b 0 ((store.width / 16) * (store.height / 16)) ≤ 4096
    by true = omega arith
    by false =
        let wide = sound.wide in
        let high = sound.high in
        omega (arith, mul-le (store.width / 16) (store.height / 16) 64 64 (omega arith) (omega arith))

same_itself : (a : Size) → same_size a a ≡ true
same_itself a = and_from _ _ (eq-eqb a.width a.width refl) (and_from _ _ (eq-eqb a.height a.height refl) (eq-eqb a.depth a.depth refl))

module _ (screen store : Picture) (b : Book) (places : ℕ) (sound : Sound store) (e : places ≡ slots_of (sizes store) screen.depth) (f : Fresh (sizes screen) places b) where
  pub fresh_fits : made_for screen store b ≡ true
  fresh_fits =
      let few = few_slots store screen.depth sound in
      let all : min places 4096 ≡ places = omega (arith, few, e) in
      and_from _ _ (ap (λ (z : Size). same_size z (sizes screen)) f.size ∙ same_itself (sizes screen)) (eq-eqb b.slots.places _ (f.slots ∙ all ∙ e))

  pub fresh_paper : on_pictures screen store b ≡ new_desk (sizes screen) (slots_of (sizes store) screen.depth)
  unfolding paper_of
  fresh_paper =
      paper_fits screen store b fresh_fits
      ∙ ap (λ (cs : List ℕ). record { size = sizes screen; slots = slots_of (sizes store) screen.depth; layers = layers_with screen.depth b.plan (held screen store b.plan b.slots) cs }) f.layers

  pub fresh_used : used_by screen store b ≡ 0
  fresh_used = used_is screen store b ∙ ap hidden_count fresh_paper ∙ empty_count (sizes screen) (slots_of (sizes store) screen.depth)

-- a screen filled with 0 as a whole
pub cleared : (screen : Picture) → Sound screen → bitmap_after screen (fill_with 3 0 (pos 0) (pos 0) screen.width screen.height) ≡ blank screen.width screen.height screen.depth
unfolding painted
cleared screen sound =
    filled_zero screen (record { x = pos 0; y = pos 0; w = screen.width; h = screen.height })
    ∙ same_picture (painted screen (on_screen (sizes screen) (record { x = pos 0; y = pos 0; w = screen.width; h = screen.height })) (λ _ _. 0)) (blank screen.width screen.height screen.depth) refl refl refl
    (λ x y. by x y (on_screen (sizes screen) (record { x = pos 0; y = pos 0; w = screen.width; h = screen.height }) x y) refl)
  where
    off : (x y : ℕ) → on_screen (sizes screen) (record { x = pos 0; y = pos 0; w = screen.width; h = screen.height }) x y ≡ false → (screen.width ≤ x) ⊎ (screen.height ≤ y)
    off x y e = ⊎_elim (λ (a : x < screen.width). inr (grind (arith, ints, nat_tests))) (λ (a : screen.width ≤ x). inl a) (cases_lt x screen.width)

    by : (x y : ℕ) (t : Bool) → on_screen (sizes screen) (record { x = pos 0; y = pos 0; w = screen.width; h = screen.height }) x y ≡ t → cond t 0 (screen.at x y) ≡ 0
    by x y true e = refl
    by x y false e = sound.outside x y (off x y e)

pub new_stands : (screen screen' store : Picture) (b : Book) (places : ℕ) → Sound screen → Sound store → places ≡ slots_of (sizes store) screen.depth → Fresh (sizes screen) places b
    → screen' ≡ bitmap_after screen (fill_with 3 0 (pos 0) (pos 0) screen.width screen.height) → state_on screen' store b ≡ new_state (sizes screen) (slots_of (sizes store) screen.depth)
new_stands screen screen' store b places sound sound' e f shows =
    let is : screen' ≡ blank screen.width screen.height screen.depth = shows ∙ cleared screen sound in
    ap (λ (z : Picture). state_on z store b) is
    ∙ (λ i. record { paper = fresh_paper (blank screen.width screen.height screen.depth) store b places sound' e f i; screen = blank screen.width screen.height screen.depth; used = fresh_used (blank screen.width screen.height screen.depth) store b places sound' e f i })

-- ── The slots in use and the slots there are ──

module _ (screen store : Picture) (b : Book) where
  pub slots_fit : made_for screen store b ≡ true → (used places : ℕ) → used ≡ passing (has_slot b.slots) → places ≡ slots_of (sizes store) screen.depth
      → (used, places) ≡ slots_answer (on_pictures screen store b)
  unfolding used_by
  slots_fit t used places eu ep =
      λ i. ((eu ∙ sym (cond-true (made_for screen store b) _ 0 t) ∙ used_is screen store b) i, (ep ∙ sym (paper_slots screen store b)) i)

  pub slots_other : made_for screen store b ≡ false → (places : ℕ) → places ≡ slots_of (sizes store) screen.depth → ◌≡◌ {A = ℕ × ℕ} (0, places) (slots_answer (on_pictures screen store b))
  unfolding used_by
  slots_other t places ep =
      λ i. ((sym (cond-false (made_for screen store b) _ 0 t) ∙ used_is screen store b) i, (ep ∙ sym (paper_slots screen store b)) i)
