-- The worked examples hold, by computation.
use Rattle.std.proofs.Common.{◌≡◌, ℕ, eqb, ltb, [], ◌∷◌, ℤ, Ok, Err, refl, ap}
use mathlib.Core.Bool.{or-true}
use Rattle.raster.specs.Calls.{refuse_if, first_fault, unless}
use Rattle.raster.specs.declared.refusal.Refusal.TheVariants.{TooFewSlots}
use Rattle.paper.specs.Layers.{alter, at_corner}
use Rattle.paper.specs.Slots.{hidden, hidden_count, slots_needed}
use Rattle.paper.specs.Desk.{move_layer, because, Answer, answer}
use Rattle.paper.specs.Examples.{DeskExamples, layer, desk}

-- a moved layer's patches count, hidden or not
needs_wide : (x y : ℤ) → slots_needed (eqb 1) (desk 1 (layer 1 0 0 17 16 ∷ [])) (desk 1 (alter 1 (at_corner x y) (layer 1 0 0 17 16 ∷ []))) ≡ 2
unfolding slots_needed
needs_wide x y = simp or-true

needs_narrow : (x y : ℤ) → slots_needed (eqb 1) (desk 1 (layer 1 0 0 16 16 ∷ [])) (desk 1 (alter 1 (at_corner x y) (layer 1 0 0 16 16 ∷ []))) ≡ 1
unfolding slots_needed
needs_narrow x y = simp or-true

-- the answer where one slot is there and n are needed
abbrev by_need : ℕ → Answer
by_need n = unless (first_fault (refuse_if (ltb 1 n) (because TooFewSlots 1) ∷ [])) 0

wide_move : (x y : ℤ) → answer (desk 1 (layer 1 0 0 17 16 ∷ [])) (move_layer 1 x y) ≡ Err (because TooFewSlots 1)
unfolding answer
wide_move x y = ap by_need (needs_wide x y)

narrow_move : (x y : ℤ) → answer (desk 1 (layer 1 0 0 16 16 ∷ [])) (move_layer 1 x y) ≡ Ok 0
unfolding answer
narrow_move x y = ap by_need (needs_narrow x y)

pub desk_examples : DeskExamples
unfolding hidden hidden_count
desk_examples = record {
  one_slot = refl;
  two_slots = refl;
  at_the_edge = refl;
  over_the_edge = refl;
  wide_move = wide_move;
  narrow_move = narrow_move;
}
