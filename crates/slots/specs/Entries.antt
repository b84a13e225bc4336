-- Tables of slots and lists of free slots, as plain lists.
use Rattle.std.specs.Prelude.{◌≡◌, ℕ, ◌<◌, ◌≤◌, List, Some, None, Option, slice_index, slice_index_or}

-- The slot of a patch, if it has one.
abbrev pub entry : List (Option ℕ) → ℕ → Option ℕ
entry table k = slice_index_or table k None

-- Two patches with one slot.
pub record Clash (table : List (Option ℕ)) (p q : ℕ) : Type 0 where
  pub slot : ℕ
  pub one : entry table p ≡ Some slot
  pub other : entry table q ≡ Some slot

-- An entry of the list of free slots that counts: they stand from `used` up to `places`.
pub record Spare (used places i : ℕ) : Type 0 where
  pub from : used ≤ i
  pub below : i < places

-- One free slot, listed twice.
pub record Double (used places : ℕ) (spare : List ℕ) (i j : ℕ) : Type 0 where
  pub one : Spare used places i
  pub other : Spare used places j
  pub same : slice_index_or spare i 0 ≡ slice_index spare j

-- A slot that is listed as free, and that a patch has.
pub record Reused (used places : ℕ) (spare : List ℕ) (table : List (Option ℕ)) (i k : ℕ) : Type 0 where
  pub listed : Spare used places i
  pub same : entry table k ≡ Some (slice_index spare i)
