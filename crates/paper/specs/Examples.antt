-- Worked examples of patches, slots and moves.
use Rattle.std.specs.Prelude.{◌≡◌, ℕ, List, [], ◌∷◌, ℤ, pos, Ok, Err}
use Rattle.raster.specs.declared.refusal.Refusal.TheVariants.{TooFewSlots}
use Rattle.paper.specs.Layers.{Desk, Layer}
use Rattle.paper.specs.Slots.{hidden_count}
use Rattle.paper.specs.Desk.{move_layer, new_layer, because, answer}

abbrev pub layer : (client : ℕ) (x y w h : ℕ) → Layer
layer c x y w h = new_layer 2 c (pos x) (pos y) w h

-- A desk on a screen of 320 by 240.
abbrev pub desk : (slots : ℕ) → List Layer → Desk
desk slots ls = record { size = record { width = 320; height = 240; depth = 2 }; slots = slots; layers = ls }

pub record DeskExamples : Type 0 where
  pub one_slot : hidden_count (desk 64 (layer 1 0 0 16 16 ∷ layer 2 15 15 16 16 ∷ [])) ≡ 1
  pub two_slots : hidden_count (desk 64 (layer 1 0 0 17 16 ∷ layer 2 15 15 16 16 ∷ [])) ≡ 2
  pub at_the_edge : hidden_count (desk 64 (layer 1 304 0 16 16 ∷ [])) ≡ 0
  pub over_the_edge : hidden_count (desk 64 (layer 1 305 0 16 16 ∷ [])) ≡ 1
  pub wide_move : (x y : ℤ) → answer (desk 1 (layer 1 0 0 17 16 ∷ [])) (move_layer 1 x y) ≡ Err (because TooFewSlots 1)
  pub narrow_move : (x y : ℤ) → answer (desk 1 (layer 1 0 0 16 16 ∷ [])) (move_layer 1 x y) ≡ Ok 0
