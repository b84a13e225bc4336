-- One slot given to a patch, and one given back: the table stays one.
use Rattle.std.proofs.Common.{◌≡◌, ℕ, ◌+◌, ◌-◌, ◌<◌, true, false, ◌⊎◌, List, length, get_or, set, refl, sym, ap, ◌∙◌, subst, inl, inr, ⊎_elim, arith}
use Rattle.std.specs.Prelude.{Some, None, Option, is_some, unwrap_or}
use Rattle.std.proofs.lemmas.List.{get_or-set_same, get_or-set_other}
use Rattle.std.proofs.lemmas.Option.{none-some, same_Some}
use Rattle.std.proofs.lemmas.Bool.{cases_eq, false≢true}
use Rattle.slots.specs.declared.slots.Slots.{Slots}
use Rattle.plan.specs.Counts.{passing}
use Rattle.slots.specs.Entries.{entry, Clash, Spare, Double, Reused}
use Rattle.slots.specs.Tables.{slot_of, has_slot}
use Rattle.slots.proofs.Counts.{counted_one}

-- ── What a table says of patches with a slot ──

slot_is : (o : Option ℕ) → is_some o ≡ true → o ≡ Some (unwrap_or o 0)
slot_is None h = absurd (false≢true h)
slot_is (Some s) h = refl

pub slot_low : (t : Slots) (k : ℕ) → has_slot t k ≡ true → slot_of t k < t.places
slot_low t k h = t.low k (slot_of t k) (slot_is (entry t.table k) h)

pub slots_apart : (t : Slots) (p q : ℕ) → has_slot t p ≡ true → has_slot t q ≡ true → slot_of t p ≡ slot_of t q → p ≡ q
slots_apart t p q hp hq e =
    t.apart p q (record { slot = slot_of t p; one = slot_is (entry t.table p) hp; other = slot_is (entry t.table q) hq ∙ ap (λ s. Some s) (sym e) })

-- ── One entry set ──

-- an entry of a list that is set at one place: the new value there, the old one elsewhere
abbrev SetThere : {A : Type 0} (xs : List A) (k : ℕ) (v d : A) (j : ℕ) → Type 0
SetThere xs k v d j = (j ≡ k) × (get_or (set xs k v) j d ≡ v)

abbrev NotSet : {A : Type 0} (xs : List A) (k : ℕ) (v d : A) (j : ℕ) → Type 0
NotSet xs k v d j = (j ≡ k → ⊥) × (get_or (set xs k v) j d ≡ get_or xs j d)

set_cases : {A : Type 0} (xs : List A) (k : ℕ) (v d : A) (j : ℕ) → k < length xs → SetThere xs k v d j ⊎ NotSet xs k v d j
set_cases xs k v d j h =
    ⊎_elim (λ (e : j ≡ k). inl (e, ap (λ i. get_or (set xs k v) i d) e ∙ get_or-set_same xs k v d h)) (λ (ne : j ≡ k → ⊥). inr (ne, get_or-set_other xs k j v d ne)) (cases_eq j k)

module _ (t : Slots) (k : ℕ) (there : k < 2400) (long : length t.table ≡ 2400) where
  there' : k < length t.table
  there' = subst (λ n. k < n) (sym long) there

  -- an entry of the table after, at the patch or elsewhere
  abbrev At : (Option ℕ) → ℕ → Type 0
  At v j = SetThere t.table k v None j

  abbrev Off : (Option ℕ) → ℕ → Type 0
  Off v j = NotSet t.table k v None j

  at : (v : Option ℕ) (j : ℕ) → At v j ⊎ Off v j
  at v j = set_cases t.table k v None j there'

  other : (v : Option ℕ) (j : ℕ) → (j ≡ k → ⊥) → is_some (entry (set t.table k v) j) ≡ has_slot t j
  other v j ne = ap is_some (get_or-set_other t.table k j v None ne)

  -- ── A slot is given ──

  module _ (none : has_slot t k ≡ false) (left : t.used < t.places) where
    abbrev slot : ℕ
    slot = get_or t.spare t.used 0

    abbrev table' : List (Option ℕ)
    table' = set t.table k (Some slot)

    first : Spare t.used t.places t.used
    first = record { from = omega arith; below = left }

    slot_free : (j : ℕ) → entry t.table j ≡ Some slot → ⊥
    slot_free j e = t.free t.used j (record { listed = first; same = e })

    taken_has : is_some (entry table' k) ≡ true
    taken_has = ap is_some (get_or-set_same t.table k (Some slot) None there')

    pub taken_count : t.used + 1 ≡ passing (λ j. is_some (entry table' j))
    taken_count = ap (λ n. n + 1) t.count ∙ sym (counted_one (has_slot t) (λ j. is_some (entry table' j)) 2400 k there none taken_has (λ j _ ne. sym (other (Some slot) j ne)))

    pub taken_low : (j s : ℕ) → entry table' j ≡ Some s → s < t.places
    taken_low j s e =
        ⊎_elim
        (λ (x : At (Some slot) j). let same = same_Some slot s (sym x.1 ∙ e) in let l = t.there t.used first in omega arith)
        (λ (x : Off (Some slot) j). t.low j s (sym x.1 ∙ e))
        (at (Some slot) j)

    -- a patch with the new slot is the one that it was given to
    mine : (j : ℕ) → entry table' j ≡ Some slot → j ≡ k
    mine j e = ⊎_elim (λ (x : At (Some slot) j). x.0) (λ (x : Off (Some slot) j). absurd (slot_free j (sym x.1 ∙ e))) (at (Some slot) j)

    pub taken_apart : (p q : ℕ) → Clash table' p q → p ≡ q
    taken_apart p q c =
        ⊎_elim
        (λ (x : At (Some slot) p). x.0 ∙ sym (mine q (c.other ∙ sym c.one ∙ x.1)))
        (λ (x : Off (Some slot) p).
        ⊎_elim
        (λ (y : At (Some slot) q). mine p (c.one ∙ sym c.other ∙ y.1) ∙ sym y.0)
        (λ (y : Off (Some slot) q). t.apart p q (record { slot = c.slot; one = sym x.1 ∙ c.one; other = sym y.1 ∙ c.other }))
        (at (Some slot) q))
        (at (Some slot) p)

    -- what is free still was free
    still : (i : ℕ) → Spare (t.used + 1) t.places i → Spare t.used t.places i
    still i s = record { from = let h = s.from in omega arith; below = s.below }

    pub taken_there : (i : ℕ) → Spare (t.used + 1) t.places i → get_or t.spare i 0 < t.places
    taken_there i s = t.there i (still i s)

    pub taken_once : (i j : ℕ) → Double (t.used + 1) t.places t.spare i j → i ≡ j
    taken_once i j d = t.once i j (record { one = still i d.one; other = still j d.other; same = d.same })

    pub taken_free : (i j : ℕ) → Reused (t.used + 1) t.places t.spare table' i j → ⊥
    taken_free i j r =
        ⊎_elim
        (λ (x : At (Some slot) j).
        let e = t.once t.used i (record { one = first; other = still i r.listed; same = same_Some slot _ (sym x.1 ∙ r.same) }) in
        let h = r.listed.from in
        omega arith)
        (λ (x : Off (Some slot) j). t.free i j (record { listed = still i r.listed; same = sym x.1 ∙ r.same }))
        (at (Some slot) j)

  -- ── A slot is given back ──

  module _ (own : ℕ) (had : entry t.table k ≡ Some own) (wide : length t.spare ≡ 4096) where
    abbrev table'' : List (Option ℕ)
    table'' = set t.table k None

    back_none : is_some (entry table'' k) ≡ false
    back_none = ap is_some (get_or-set_same t.table k None None there')

    back_counted : t.used ≡ passing (λ j. is_some (entry table'' j)) + 1
    back_counted = t.count ∙ counted_one (λ j. is_some (entry table'' j)) (has_slot t) 2400 k there back_none (ap is_some had) (λ j _ ne. other None j ne)

    pub back_some : 0 < t.used
    back_some = omega (arith, back_counted)

    pub back_count : t.used - 1 ≡ passing (λ j. is_some (entry table'' j))
    back_count = omega (arith, back_counted)

    -- a patch with a slot in the table after is another one, and had it
    kept : (j s : ℕ) → entry table'' j ≡ Some s → (j ≡ k → ⊥) × (entry t.table j ≡ Some s)
    kept j s e = ⊎_elim (λ (x : At None j). absurd (none-some s (sym x.1 ∙ e))) (λ (x : Off None j). (x.0, sym x.1 ∙ e)) (at None j)

    pub back_low : (j s : ℕ) → entry table'' j ≡ Some s → s < t.places
    back_low j s e = t.low j s (kept j s e).1

    pub back_apart : (p q : ℕ) → Clash table'' p q → p ≡ q
    back_apart p q c = t.apart p q (record { slot = c.slot; one = (kept p c.slot c.one).1; other = (kept q c.slot c.other).1 })

    abbrev spare' : List ℕ
    spare' = set t.spare (t.used - 1) own

    abbrev Freed : ℕ → Type 0
    Freed i = SetThere t.spare (t.used - 1) own 0 i

    abbrev Listed : ℕ → Type 0
    Listed i = NotSet t.spare (t.used - 1) own 0 i

    freed : (i : ℕ) → Freed i ⊎ Listed i
    freed i = set_cases t.spare (t.used - 1) own 0 i (let m = t.most in let r = t.room in let b = back_some in omega arith)

    -- a free slot other than the one given back was free
    older : (i : ℕ) → Spare (t.used - 1) t.places i → (i ≡ t.used - 1 → ⊥) → Spare t.used t.places i
    older i s ne = record { from = let f = s.from in let b = back_some in omega arith; below = s.below }

    pub back_there : (i : ℕ) → Spare (t.used - 1) t.places i → get_or spare' i 0 < t.places
    back_there i s =
        ⊎_elim
        (λ (x : Freed i). let l = t.low k own had in let e = x.1 in omega arith)
        (λ (x : Listed i). let l = t.there i (older i s x.0) in let e = x.1 in omega arith)
        (freed i)

    pub back_free : (i j : ℕ) → Reused (t.used - 1) t.places spare' table'' i j → ⊥
    back_free i j r =
        let x = kept j _ r.same in
        ⊎_elim
        (λ (y : Freed i). x.0 (t.apart j k (record { slot = own; one = x.1 ∙ ap (λ s. Some s) y.1; other = had })))
        (λ (y : Listed i). t.free i j (record { listed = older i r.listed y.0; same = x.1 ∙ ap (λ s. Some s) y.1 }))
        (freed i)

    -- the slot given back was not free
    not_free : (i : ℕ) → Spare t.used t.places i → own ≡ get_or t.spare i 0 → ⊥
    not_free i s e = t.free i k (record { listed = s; same = had ∙ ap (λ s. Some s) e })

    pub back_once : (i j : ℕ) → Double (t.used - 1) t.places spare' i j → i ≡ j
    back_once i j d =
        ⊎_elim
        (λ (x : Freed i).
        ⊎_elim (λ (y : Freed j). x.0 ∙ sym y.0) (λ (y : Listed j). absurd (not_free j (older j d.other y.0) (sym x.1 ∙ d.same ∙ y.1))) (freed j))
        (λ (x : Listed i).
        ⊎_elim
        (λ (y : Freed j). absurd (not_free i (older i d.one x.0) (sym y.1 ∙ sym d.same ∙ x.1)))
        (λ (y : Listed j). t.once i j (record { one = older i d.one x.0; other = older j d.other y.0; same = sym x.1 ∙ d.same ∙ y.1 }))
        (freed j))
        (freed i)
