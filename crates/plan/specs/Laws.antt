-- Patches counted by their numbers are those that a desk on paper counts.
use Rattle.std.specs.Prelude.{◌≡◌, ℕ, true, false, Some, None, nat_eq}
use Rattle.paper.specs.Layers.{Desk}
use Rattle.paper.specs.Slots.{hidden_count, slots_needed}
use Rattle.plan.specs.declared.plan.Plan.{Plan}
use Rattle.plan.specs.Frames.{has}
use Rattle.plan.specs.Plans.{listed, layers_in, frame_in, hidden_patch, needs}
use Rattle.plan.specs.Counts.{passing}

-- An arrangement as a desk on paper, of which every pixel is 0.
abbrev pub desk_in : Plan → (slots : ℕ) → Desk
desk_in p slots = record { size = p.screen; slots = slots; layers = layers_in p }

-- A client with an open layer before has one after, of the same size.
pub record StillOpen (before after : Plan) (c : ℕ) : Type 0 where
  pub listed_after : has c (listed after) ≡ true
  pub wide : (frame_in before c).w ≡ (frame_in after c).w
  pub high : (frame_in before c).h ≡ (frame_in after c).h

abbrev pub AllStillOpen : (before after : Plan) → Type 0
AllStillOpen before after = (c : ℕ) → has c (listed before) ≡ true → StillOpen before after c

-- As many patches are hidden as the desk counts, and as many need a slot: where a client's layer is moved, and where none is.
pub record PlanLaws : Type 0 where
  pub hidden : (p : Plan) (slots : ℕ) → passing (hidden_patch p) ≡ hidden_count (desk_in p slots)
  pub moved : (before after : Plan) (client slots : ℕ) → AllStillOpen before after
      → passing (needs before after (Some client)) ≡ slots_needed (λ c. nat_eq client c) (desk_in before slots) (desk_in after slots)
  pub unmoved : (before after : Plan) (slots : ℕ) → AllStillOpen before after
      → passing (needs before after None) ≡ slots_needed (λ _. false) (desk_in before slots) (desk_in after slots)
