-- What stands is what the book says, and a refused call leaves it.
use Rattle.std.proofs.Common.{◌≡◌, ℕ, Bool, true, false, cond, pos, Some, Err, sym, refl, ap, ◌∙◌, subst, ⊎_elim}
use Rattle.std.proofs.Math.Bool.{or_self}
use Rattle.std.proofs.lemmas.Bool.{cases_Bool, and_parts, and_right}
use Rattle.raster.specs.Picture.{Picture, sizes, painted}
use Rattle.raster.specs.Blt.{inside}
use Rattle.raster.proofs.Paints.{same_picture, painted_none}
use Rattle.paper.specs.declared.DeskFault.{DeskFault}
use Rattle.paper.specs.Layers as paper
use Rattle.paper.specs.Layers.{covered, shown, screen_after}
use Rattle.paper.specs.Desk.{Call, fault_of}
use Rattle.paper.specs.Run.{Becomes, Does}
use Rattle.paper.proofs.View.{answer_refused, after_refused}
use Rattle.hold.specs.Held.{paper_of}
use Rattle.hold.proofs.Papers.{paper_covered}
use Rattle.hold.proofs.Shows.{paper_shows}
use Rattle.desk.specs.declared.book.Book.{Book}
use Rattle.desk.specs.Desks.{made_for, on_pictures, state_on}
use Rattle.desk.proofs.Fits.{fitting, paper_fits, paper_other}
use Rattle.desk.proofs.Counted.{used_is}

-- painting what is there changes nothing
painted_same_value : (p : Picture) (t : ℕ → ℕ → Bool) (v : ℕ → ℕ → ℕ) → ((x y : ℕ) → t x y ≡ true → v x y ≡ p.at x y) → painted p t v ≡ p
unfolding painted
painted_same_value p t v e = same_picture (painted p t v) p refl refl refl (λ x y. by (t x y) (v x y) (p.at x y) (e x y))
  where
    by : (b : Bool) (m n : ℕ) → (b ≡ true → m ≡ n) → cond b m n ≡ n
    by true m n h = h refl
    by false m n h = refl

module _ (screen store : Picture) (b : Book) where
  -- the screen shows what the desk on paper shows, wherever a layer covers it
  pub screen_idle : screen ≡ screen_after screen (on_pictures screen store b) (on_pictures screen store b)
  unfolding screen_after
  screen_idle =
      ⊎_elim
      (λ (t : made_for screen store b ≡ true).
      let d = paper_of screen store b.plan b.slots in
      sym (ap (λ (e : paper.Desk). screen_after screen e e) (paper_fits screen store b t)
      ∙ painted_same_value screen _ _
      (λ x y h.
      let q = and_parts (inside (sizes screen) (pos x) (pos y)) _ h in
      paper_shows screen store b.plan b.slots (fitting screen store b t) x y q.0
      (sym (paper_covered screen store b.plan b.slots (pos x) (pos y)) ∙ sym (or_self (covered d.layers (pos x) (pos y))) ∙ q.1))))
      (λ (t : made_for screen store b ≡ false).
      sym (ap (λ (e : paper.Desk). screen_after screen e e) (paper_other screen store b t) ∙ painted_none screen _ _ (λ x y. and_right (inside (sizes screen) (pos x) (pos y)) false refl)))
      (cases_Bool (made_for screen store b))

  pub idle : Becomes (state_on screen store b) (on_pictures screen store b) (state_on screen store b)
  idle = record { paper = refl; screen = screen_idle; used = used_is screen store b }

  pub refused_does : (k : Call) (f : DeskFault) → fault_of (on_pictures screen store b) k ≡ Some f → Does (state_on screen store b) k (Err f) (state_on screen store b)
  refused_does k f e =
      record {
        answers = sym (answer_refused (on_pictures screen store b) k f e);
        leaves = subst (λ (d : paper.Desk). Becomes (state_on screen store b) d (state_on screen store b)) (sym (after_refused (on_pictures screen store b) k f e)) idle;
      }
