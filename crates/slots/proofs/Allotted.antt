-- Tables adjusted to a change, as a whole or where it can tell, are right for all patches.
use Rattle.std.proofs.Common.{◌≡◌, ℕ, ◌+◌, ◌<◌, ◌≤◌, Bool, true, false, cond, not, ◌&&◌, ◌||◌, eqb, ltb, sym, refl, ap, ◌∙◌, ⊎_elim, arith, rules}
use Rattle.std.specs.Prelude.{Some, None, Option, IfSome, Ok, Err, Result}
use Rattle.std.proofs.lemmas.Bool.Decides.{nat_tests}
use Rattle.std.proofs.lemmas.Bool.{and_from, and_parts, eq-eqb, or_left, or_right, or_cases}
use Rattle.plan.specs.declared.change.Change.{Change}
use Rattle.raster.specs.declared.rectangle.Rectangle.{Rectangle}
use Rattle.plan.specs.declared.plan.Plan.{Plan}
use Rattle.plan.specs.Frames.{has}
use Rattle.plan.specs.Plans.{listed, frame_in, hidden_patch, needs}
use Rattle.plan.specs.Counts.{passing}
use Rattle.plan.proofs.Patches.{any_of}
use Rattle.slots.specs.declared.single.NoSlot.{NoSlot}
use Rattle.slots.specs.declared.slots.Slots.{Slots}
use Rattle.slots.specs.Allots.{Retained, Supplied, Allotted}
use Rattle.slots.specs.Blocks.{in_row}
use Rattle.slots.specs.Changes.{needed, Concerns}
use Rattle.slots.specs.Tables.{has_slot, Fits}
use Rattle.slots.specs.Walks.{Adjusted, Short, InLayer, Clear, AdjustedBut, AdjustsBut}
use Rattle.slots.proofs.Changes.{or_twice, same_hidden, same_needs}
use Rattle.slots.proofs.Counts.{counted_alike, counted_fewer}

-- as many patches have a slot as there are slots, or fewer
pub few_have : (t : Slots) → passing (has_slot t) ≤ t.places
few_have t = let m = t.most in let e = t.count in omega arith

-- where a table has a slot for each patch in need alone, the patches in need are no more than the slots
few_need : (t r : Slots) (test : ℕ → Bool) → r.places ≡ t.places → ((k : ℕ) → k < 2400 → has_slot r k ≡ test k) → passing test ≤ t.places
few_need t r test e has = omega (arith, few_have r, counted_alike (has_slot r) test 2400 has)

-- ── All patches adjusted, after the slots of those not in need were taken back ──

module _ (test : ℕ → Bool) (t m : Slots) (a : Retained t test m) where
  -- all patches are in the row of all
  all_in : (k : ℕ) → k < 2400 → in_row 0 2400 k ≡ true
  all_in k l = any_of (λ i. eqb k (0 + i)) 2400 k l (eq-eqb k (0 + k) (omega arith))

  pub allot_all : (r : Slots) → Adjusted test (in_row 0 2400) m r → (passing test ≤ t.places) × Supplied t test r
  allot_all r b = (few_need t r test places has, record { places = places; has = has; same = λ k l e u. b.same k l (a.has k l ∙ and_from _ _ e u) (has k l ∙ e) ∙ a.same k l e })
    where
      places : r.places ≡ t.places
      places = b.places ∙ a.places

      has : (k : ℕ) → k < 2400 → has_slot r k ≡ test k
      has k l = b.has k l ∙ ap (λ w. cond w (test k) (has_slot m k)) (all_in k l)

  pub allot_short : Short test m → t.places < passing test
  allot_short short =
      let e = a.places in
      omega (
        arith,
        counted_fewer (λ k. has_slot m k || test k) test 2400 (λ k l h.
            ⊎_elim (λ (x : has_slot m k ≡ true). (and_parts (test k) (has_slot t k) (sym (a.has k l) ∙ x)).0) (λ (x : test k ≡ true). x) (or_cases (has_slot m k) (test k) h)),
      )

-- a table for the patches of a test is one for those of another, if it says the same of each
pub allotted_alike : (f g : ℕ → Bool) (t : Slots) (r : Option Slots) → ((k : ℕ) → k < 2400 → f k ≡ g k) → Allotted t f r → Allotted t g r
allotted_alike f g t None same a = let e = counted_alike f g 2400 same in omega arith
allotted_alike f g t (Some r) same a = (
  let few = a.0 in let e = counted_alike f g 2400 same in omega arith,
  record { places = a.1.places; has = λ k l. a.1.has k l ∙ same k l; same = λ k l e u. a.1.same k l (same k l ∙ e) u },
)

-- where an arrangement stays, the patches in need are those hidden
pub needs_still : (q : Plan) (k : ℕ) → needs q q None k ≡ hidden_patch q k
needs_still q k = or_twice (hidden_patch q k)

-- ── Slots taken back, patch by patch ──

-- the patches from n on are as they were
abbrev pub from_on : (ℕ → Bool) → ℕ → ℕ → Bool
from_on test n k = test k || not (ltb k n)

pub retain_more : (test : ℕ → Bool) (t m r : Slots) (n : ℕ) → Retained t (from_on test n) m → Retained m (λ k. test k || not (eqb k n)) r → Retained t (from_on test (n + 1)) r
retain_more test t m r n a b = record {
  places = b.places ∙ a.places;
  has = λ k l. b.has k l ∙ ap (λ h. (test k || not (eqb k n)) && h) (a.has k l) ∙ both (test k) (ltb k n) (eqb k n) (has_slot t k) ∙ ap (λ s. (test k || not s) && has_slot t k) (sym (more k));
  same = λ k l h.
      let q = and_parts _ _ (both (test k) (ltb k n) (eqb k n) true ∙ and_from _ _ (ap (λ s. test k || not s) (sym (more k)) ∙ h) refl) in
      b.same k l q.0 ∙ a.same k l (and_parts _ _ q.1).0;
}
  where
    more : (k : ℕ) → ltb k (n + 1) ≡ (ltb k n || eqb k n)
    more k = grind (arith, nat_tests)

    both : (t a e h : Bool) → ((t || not e) && ((t || not a) && h)) ≡ ((t || not (a || e)) && h)
    both t a e h = search rules

-- ── Patches adjusted where a change of one layer can tell ──

module _ (ch : Change) (c : ℕ) (co : Concerns ch.before.now ch.after.now c) (only : IfSome ch.moved (λ m. m ≡ c)) (area : Rectangle)
    (was : has c (listed ch.before.now) ≡ true → area ≡ frame_in ch.before.now c) where
  abbrev p : Plan
  p = ch.before.now

  abbrev q : Plan
  q = ch.after.now

  abbrev Rest : ℕ → Type 0
  Rest k = InLayer q c k → Clear q c area k

  pub near_yes : (t r : Slots) → Fits p t → AdjustedBut (needed ch) Rest t r → (passing (needed ch) ≤ t.places) × Supplied t (needed ch) r
  near_yes t r fits a = (few_need t r (needed ch) a.adjusted.places has, record { places = a.adjusted.places; has = has; same = λ k l e u. a.adjusted.same k l u (has k l ∙ e) })
    where
      has : (k : ℕ) → k < 2400 → has_slot r k ≡ needed ch k
      has k l = a.adjusted.has k l ∙ go (a.within k) refl
        where
          go : (b : Bool) → a.within k ≡ b → cond b (needed ch k) (has_slot t k) ≡ needed ch k
          go true e = refl
          go false e = fits k l ∙ sym (same_needs p q c co area was k (a.outside k l e) ch.moved only)

  pub near_no : (t : Slots) → Fits p t → Short (needed ch) t → t.places < passing (needed ch)
  near_no t fits short =
      omega (
        arith,
        counted_fewer (λ k. has_slot t k || needed ch k) (needed ch) 2400 (λ k l h.
            ⊎_elim (λ (x : has_slot t k ≡ true). or_left (hidden_patch p k) _ (sym (fits k l) ∙ x)) (λ (x : needed ch k ≡ true). x) (or_cases (has_slot t k) (needed ch k) h)),
      )

  module _ (t : Slots) (fits : (k : ℕ) → k < 2400 → has_slot t k ≡ needed ch k) where
    -- the patches that are hidden after the change have a slot
    serves : (k : ℕ) → k < 2400 → hidden_patch q k ≡ true → has_slot t k ≡ true
    serves k l h = fits k l ∙ or_right (hidden_patch p k) _ (or_left (hidden_patch q k) _ h)

    never_short : Short (needs q q None) t → ⊥
    never_short short =
        omega (
          arith,
          few_have t,
          counted_fewer (λ k. has_slot t k || needs q q None k) (has_slot t) 2400 (λ k l h.
              ⊎_elim (λ (x : has_slot t k ≡ true). x) (λ (x : needs q q None k ≡ true). serves k l (sym (needs_still q k) ∙ x)) (or_cases (has_slot t k) (needs q q None k) h)),
        )

    pub near_release : (r : Slots) (b : Result (Unit {0}) NoSlot) → AdjustsBut (needs q q None) Rest t r b → Retained t (hidden_patch q) r
    near_release r (Err _) short = absurd (never_short short)
    near_release r (Ok _) a = record {
      places = a.adjusted.places;
      has = λ k l. has k l ∙ both (hidden_patch q k) (has_slot t k) (serves k l);
      same = λ k l h. a.adjusted.same k l (serves k l h) (has k l ∙ h);
    }
      where
        has : (k : ℕ) → k < 2400 → has_slot r k ≡ hidden_patch q k
        has k l = a.adjusted.has k l ∙ go (a.within k) refl
          where
            go : (b : Bool) → a.within k ≡ b → cond b (needs q q None k) (has_slot t k) ≡ hidden_patch q k
            go true e = needs_still q k
            go false e =
                fits k l ∙ same_needs p q c co area was k (a.outside k l e) ch.moved only ∙ sym (same_hidden p q c co area was k (a.outside k l e))

        both : (x y : Bool) → (x ≡ true → y ≡ true) → x ≡ (x && y)
        both true y h = sym (h refl)
        both false y h = refl
