-- Which slot a patch has.
use Rattle.std.specs.Prelude.{◌≡◌, ℕ, ◌<◌, Bool, is_some, unwrap_or}
use Rattle.plan.specs.declared.plan.Plan.{Plan}
use Rattle.plan.specs.Plans.{hidden_patch}
use Rattle.slots.specs.declared.slots.Slots.{Slots}
use Rattle.slots.specs.Entries.{entry}

-- The slot of a patch, 0 if it has none, and whether it has one.
abbrev pub slot_of : Slots → ℕ → ℕ
slot_of t k = unwrap_or (entry t.table k) 0

abbrev pub has_slot : Slots → ℕ → Bool
has_slot t k = is_some (entry t.table k)

-- A table fits an arrangement: a patch has a slot exactly if it is hidden.
abbrev pub Fits : Plan → Slots → Type 0
Fits p t = (k : ℕ) → k < 2400 → has_slot t k ≡ hidden_patch p k
