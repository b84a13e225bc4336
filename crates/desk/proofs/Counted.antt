-- The patches that have a slot are counted by the desk on paper.
use Rattle.std.proofs.Common.{◌≡◌, ℕ, ◌<◌, Bool, true, false, cond, sym, refl, ap, ◌∙◌, ⊎_elim}
use Rattle.std.proofs.lemmas.Bool.{cases_Bool, cond-true, cond-false}
use Rattle.raster.specs.Picture.{Picture, sizes}
use Rattle.raster.specs.declared.size.Size.{Size}
use Rattle.paper.specs.Layers.{new_desk}
use Rattle.paper.specs.Slots.{slots_of, hidden_count}
use Rattle.plan.specs.declared.plan.Plan.{Plan}
use Rattle.slots.specs.declared.slots.Slots.{Slots}
use Rattle.plan.specs.Plans.{hidden_patch}
use Rattle.slots.specs.Tables.{has_slot}
use Rattle.plan.specs.Counts.{passing}
use Rattle.plan.proofs.Regroup.{tally_alike, counted_tally}
use Rattle.plan.proofs.Lawful.{hidden_counted}
use Rattle.hold.specs.Held.{Fitting, paper_of}
use Rattle.hold.proofs.Asks.{paper_hidden}
use Rattle.desk.specs.declared.book.Book.{Book}
use Rattle.desk.specs.Desks.{made_for, on_pictures, used_by}
use Rattle.desk.proofs.Fits.{fitting, paper_fits, paper_other}

hidden_patches : (screen store : Picture) (p : Plan) (t : Slots) → Fitting screen store p t → hidden_count (paper_of screen store p t) ≡ passing (hidden_patch p)
hidden_patches screen store p t f = paper_hidden screen store p t f 0 ∙ sym (hidden_counted p 0)

passing_same : (test other : ℕ → Bool) → ((k : ℕ) → k < 2400 → test k ≡ other k) → passing test ≡ passing other
passing_same test other e =
    counted_tally test 2400 ∙ tally_alike (λ k. cond (test k) 1 0) (λ k. cond (other k) 1 0) 2400 (λ k l. ap (λ z. cond z 1 0) (e k l)) ∙ sym (counted_tally other 2400)

pub empty_count : (size : Size) (slots : ℕ) → hidden_count (new_desk size slots) ≡ 0
unfolding hidden_count
empty_count size slots = refl

module _ (screen store : Picture) (b : Book) where
  pub used_is : used_by screen store b ≡ hidden_count (on_pictures screen store b)
  unfolding used_by
  used_is =
      ⊎_elim
      (λ (t : made_for screen store b ≡ true).
      cond-true (made_for screen store b) _ 0 t ∙ passing_same (has_slot b.slots) (hidden_patch b.plan) b.held
      ∙ sym (ap hidden_count (paper_fits screen store b t) ∙ hidden_patches screen store b.plan b.slots (fitting screen store b t)))
      (λ (t : made_for screen store b ≡ false). cond-false (made_for screen store b) _ 0 t ∙ sym (ap hidden_count (paper_other screen store b t) ∙ empty_count (sizes screen) (slots_of (sizes store) screen.depth)))
      (cases_Bool (made_for screen store b))
