-- Tables of slots, changed for some patches.
use Rattle.std.specs.Prelude.{◌≡◌, ℕ, ◌<◌, ◌≤◌, Bool, true, ◌&&◌, Some, None, Option, ◌≢◌}
use Rattle.slots.specs.declared.slots.Slots.{Slots}
use Rattle.plan.specs.Counts.{passing}
use Rattle.slots.specs.Entries.{entry}
use Rattle.slots.specs.Tables.{slot_of, has_slot}

-- All patches but one have the slots that they had.
pub record OtherSlots (patch : ℕ) (t r : Slots) : Type 0 where
  pub places : r.places ≡ t.places
  pub same : (k : ℕ) → (k ≢ patch) → entry r.table k ≡ entry t.table k

-- Of the patches with a slot in t, those that pass a test have it in r too, and no others have one.
pub record Retained (t : Slots) (test : ℕ → Bool) (r : Slots) : Type 0 where
  pub places : r.places ≡ t.places
  pub has : (k : ℕ) → k < 2400 → has_slot r k ≡ (test k && has_slot t k)
  pub same : (k : ℕ) → k < 2400 → test k ≡ true → slot_of r k ≡ slot_of t k

-- The patches that pass a test have a slot in r, and no others; those with a slot in t keep it.
pub record Supplied (t : Slots) (test : ℕ → Bool) (r : Slots) : Type 0 where
  pub places : r.places ≡ t.places
  pub has : (k : ℕ) → k < 2400 → has_slot r k ≡ test k
  pub same : (k : ℕ) → k < 2400 → test k ≡ true → has_slot t k ≡ true → slot_of r k ≡ slot_of t k

-- Such a table, or none exactly if more patches pass the test than there are slots.
abbrev pub Allotted : Slots → (ℕ → Bool) → Option Slots → Type 0
Allotted t test None = t.places < passing test
Allotted t test (Some r) = (passing test ≤ t.places) × Supplied t test r
