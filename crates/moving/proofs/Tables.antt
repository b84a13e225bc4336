-- The tables of slots on the way from one arrangement to another.
use Rattle.std.proofs.Common.{Some, Option, arith, ◌≡◌, ℕ, ◌/◌, ◌%◌, ◌<◌, true, not, eqb, sym, refl, ◌∙◌, ap₂}
use Rattle.std.proofs.lemmas.Bool.Decides.{nat_tests}
use Rattle.std.proofs.lemmas.Bool.{or_left, or_right}
use Rattle.paper.specs.Layers.{without}
use Rattle.paper.specs.Slots.{hidden_in}
use Rattle.paper.proofs.Outline.{Implies, hidden_in_mono}
use Rattle.plan.specs.declared.plan.Plan.{Plan}
use Rattle.slots.specs.declared.slots.Slots.{Slots}
use Rattle.plan.specs.Plans.{layers_in, hidden_patch, patch_of, needs}
use Rattle.slots.specs.Tables.{has_slot, Fits}
use Rattle.slots.specs.Allots.{Supplied, Retained}
use Rattle.moving.specs.Moves.{Slotted}

-- What is left where each patch in need had a slot fits.
pub left_fits : (q : Plan) (t' t'' : Slots) → ((k : ℕ) → k < 2400 → hidden_patch q k ≡ true → has_slot t' k ≡ true) → Retained t' (hidden_patch q) t'' → Fits q t''
left_fits q t' t'' given r k h = let h' = r.has k h in let g = given k h in grind (arith, nat_tests, h', g)

module _ (p q : Plan) (t t' t'' : Slots) (moved : Option ℕ) (fits : Fits p t) (supplied : Supplied t (needs p q moved) t') (retained : Retained t' (hidden_patch q) t'') where
  pub slots_given : Slotted p q t t' t''
  slots_given = record {
    fits = fits;
    given = λ k h o. supplied.has k h ∙ grind (arith, nat_tests, o);
    kept = λ k h i. supplied.same k h (or_left _ _ (sym (fits k h) ∙ i)) i;
    left = retained.same;
  }

  pub given_fits : Fits q t''
  given_fits = left_fits q t' t'' (λ k h i. slots_given.given k h (or_right (hidden_patch p k) _ i)) retained

-- Where a layer is moved, each of its patches is in need.
pub moved_given : (p q : Plan) (t t' : Slots) (c : ℕ) → Supplied t (needs p q (Some c)) t' → (k : ℕ) → k < 2400 → patch_of q c k ≡ true → has_slot t' k ≡ true
moved_given p q t t' c s k h i = s.has k h ∙ or_right (hidden_patch p k) _ (or_right (hidden_patch q k) _ i)

-- With a layer less no more patches are hidden.
module _ (p q : Plan) (c : ℕ) (screens : q.screen ≡ p.screen) (layers : layers_in q ≡ without c (layers_in p)) where
  pub fewer : (k : ℕ) → Implies (hidden_patch q k) (hidden_patch p k)
  fewer k h =
      hidden_in_mono (λ d. not (eqb c d)) p.screen (layers_in p) (k / 300) (k % 300 % 20) (k % 300 / 20)
      (ap₂ (λ s ls. hidden_in s ls (k / 300) (k % 300 % 20) (k % 300 / 20)) (sym screens) (sym layers) ∙ h)

-- So a close needs no other slots.
module _ (p q : Plan) (t t'' : Slots) (c : ℕ) (fits : Fits p t) (screens : q.screen ≡ p.screen) (layers : layers_in q ≡ without c (layers_in p)) (retained : Retained t (hidden_patch q) t'') where
  pub closed_given : Slotted p q t t t''
  closed_given = record {
    fits = fits;
    given = λ k h o. fits k h ∙ let less = fewer p q c screens layers k in grind (arith, nat_tests, less, o);
    kept = λ k h i. refl;
    left = retained.same;
  }

  pub closed_fits : Fits q t''
  closed_fits = left_fits q t t'' (λ k h i. fits k h ∙ fewer p q c screens layers k i) retained
