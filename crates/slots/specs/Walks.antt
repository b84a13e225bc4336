-- Tables of slots, adjusted patch by patch.
use Rattle.std.specs.Prelude.{◌≡◌, ℕ, ◌/◌, ◌<◌, Bool, true, false, cond, ◌||◌, Ok, Err, Result, ◌==◌}
use Rattle.raster.specs.declared.rectangle.Rectangle.{Rectangle}
use Rattle.plan.specs.declared.plan.Plan.{Plan}
use Rattle.plan.specs.Frames.{has}
use Rattle.plan.specs.Plans.{listed, frame_in}
use Rattle.slots.specs.declared.single.NoSlot.{NoSlot}
use Rattle.slots.specs.declared.slots.Slots.{Slots}
use Rattle.slots.specs.Blocks.{InFrame, patch_met}
use Rattle.plan.specs.Counts.{passing}
use Rattle.slots.specs.Tables.{slot_of, has_slot}

-- The patches of a region have a slot in r exactly if they pass a test, and the others if they have one in t; a patch that has one in both has
-- the same.
pub record Adjusted (test within : ℕ → Bool) (t r : Slots) : Type 0 where
  pub places : r.places ≡ t.places
  pub has : (k : ℕ) → k < 2400 → has_slot r k ≡ cond (within k) (test k) (has_slot t k)
  pub same : (k : ℕ) → k < 2400 → has_slot t k ≡ true → has_slot r k ≡ true → slot_of r k ≡ slot_of t k

-- There are fewer slots than patches that have one or pass a test.
abbrev pub Short : (ℕ → Bool) → Slots → Type 0
Short test t = t.places < passing (λ k. has_slot t k || test k)

-- The table was adjusted in a region, or there are too few slots.
abbrev pub Adjusts : (test within : ℕ → Bool) (t r : Slots) → Result (Unit {0}) NoSlot → Type 0
Adjusts test within t r (Err _) = Short test t
Adjusts test within t r (Ok _) = Adjusted test within t r

-- The patch of a number is one of an open layer, or of a client's layer, in an arrangement.
pub record InLayer (q : Plan) (c k : ℕ) : Type 0 where
  pub opened : (has (k / 300) (listed q) || k / 300 == c) ≡ true
  pub inside : InFrame (frame_in q (k / 300)) k

-- A patch that meets neither of two areas: another one, and the frame of the client's layer.
pub record Clear (q : Plan) (c : ℕ) (area : Rectangle) (k : ℕ) : Type 0 where
  pub other : patch_met area (frame_in q (k / 300)) k ≡ false
  pub own : patch_met (frame_in q c) (frame_in q (k / 300)) k ≡ false

-- The table was adjusted in a region, and every patch outside it is as it is said.
pub record AdjustedBut (test : ℕ → Bool) (rest : ℕ → Type 0) (t r : Slots) : Type 0 where
  pub within : ℕ → Bool
  pub adjusted : Adjusted test within t r
  pub outside : (k : ℕ) → k < 2400 → within k ≡ false → rest k

abbrev pub AdjustsBut : (test : ℕ → Bool) (rest : ℕ → Type 0) (t r : Slots) → Result (Unit {0}) NoSlot → Type 0
AdjustsBut test rest t r (Err _) = Short test t
AdjustsBut test rest t r (Ok _) = AdjustedBut test rest t r
