-- What stowing, repainting and blanking come to: the desk on paper after a call, and its screen.
use Rattle.std.specs.Prelude.{Some, Option, ◌≡◌, ℕ, ◌<◌, true, not, ◌&&◌, ◌||◌, [], ◌∷◌, ◌++◌, ℤ, ◌==◌}
use Rattle.raster.specs.Picture.{Picture, Sound}
use Rattle.raster.specs.Calls.{fill_with, bitmap_after}
use Rattle.paper.specs.Layers.{Desk, only, without, alter, at_corner, screen_after}
use Rattle.paper.specs.Desk.{change, open_layer, close_layer, raise_layer, lower_layer, move_layer}
use Rattle.raster.specs.declared.rectangle.Rectangle.{Rectangle}
use Rattle.plan.specs.declared.plan.Plan.{Plan}
use Rattle.slots.specs.declared.slots.Slots.{Slots}
use Rattle.plan.specs.Frames.{has}
use Rattle.plan.specs.Plans.{outline, listed, layers_in, frame_in, hidden_patch, patch_of, needs}
use Rattle.slots.specs.Tables.{has_slot, Fits}
use Rattle.slots.specs.Allots.{Supplied, Retained}
use Rattle.plan.specs.Arranged.{Arranged, SameFrames, OtherFrames, cornered, can_open}
use Rattle.hold.specs.Held.{paper_of}
use Rattle.moving.specs.Phases.{Fitting, on_screen, Stowed, repainted, Blanked}
use Rattle.moving.specs.Moves.{Slotted}

-- Where a call begins: a screen s and a store m with the arrangement p and the table t, and the arrangement q and the tables t' and t'' that follow.
pub record Begins (s m : Picture) (p q : Plan) (t t' t'' : Slots) : Type 0 where
  pub sound : Sound s
  pub fitting : Fitting s m p t
  pub slots : Slotted p q t t' t''

-- What a call leaves on the screen s' and in the store m': the desk d on paper, and the screen that it should leave.
pub record Leaves (s m : Picture) (p : Plan) (t : Slots) (s' m' : Picture) (q : Plan) (t'' : Slots) (d : Desk) : Type 0 where
  pub paper : paper_of s' m' q t'' ≡ d
  pub screen : s' ≡ screen_after s (paper_of s m p t) d

pub record MovingLaws : Type 0 where
  -- A table that serves the patches in need, and what is left of it for those hidden after, are the tables of a call. A move has a slot for
  -- each patch of the layer, and a close needs no other slots.
  pub supplied : (p q : Plan) (t t' t'' : Slots) (moved : Option ℕ) → Fits p t → Supplied t (needs p q moved) t' → Retained t' (hidden_patch q) t'' → Slotted p q t t' t'' × Fits q t''
  pub all_supplied : (p q : Plan) (t t' : Slots) (c : ℕ) → Supplied t (needs p q (Some c)) t' → (k : ℕ) → k < 2400 → patch_of q c k ≡ true → has_slot t' k ≡ true
  pub none_supplied : (p q : Plan) (t t'' : Slots) (c : ℕ) → Fits p t → q.screen ≡ p.screen → layers_in q ≡ without c (layers_in p) → Retained t (hidden_patch q) t''
      → Slotted p q t t t'' × Fits q t''
  -- Raise, lower and close: stow the client's frame, and repaint it.
  pub raised : (s m s' m' : Picture) (p q : Plan) (t t' t'' : Slots) (c : ℕ) → Begins s m p q t t' t'' → has c (listed p) ≡ true
      → Arranged p q (without c (layers_in p) ++ only c (layers_in p)) (λ d. has d (listed p)) → SameFrames p q
      → Stowed s p t' (on_screen p.screen (frame_in p c)) m m' → s' ≡ repainted m' q t' (on_screen q.screen (frame_in p c)) s
      → Leaves s m p t s' m' q t'' (change (paper_of s m p t) (raise_layer c))
  pub lowered : (s m s' m' : Picture) (p q : Plan) (t t' t'' : Slots) (c : ℕ) → Begins s m p q t t' t'' → has c (listed p) ≡ true
      → Arranged p q (only c (layers_in p) ++ without c (layers_in p)) (λ d. has d (listed p)) → SameFrames p q
      → Stowed s p t' (on_screen p.screen (frame_in p c)) m m' → s' ≡ repainted m' q t' (on_screen q.screen (frame_in p c)) s
      → Leaves s m p t s' m' q t'' (change (paper_of s m p t) (lower_layer c))
  pub closed : (s m s' m' : Picture) (p q : Plan) (t t' t'' : Slots) (c : ℕ) → Begins s m p q t t' t'' → has c (listed p) ≡ true
      → Arranged p q (without c (layers_in p)) (λ d. has d (listed p) && not (c == d)) → SameFrames p q
      → Stowed s p t' (on_screen p.screen (frame_in p c)) m m' → s' ≡ repainted m' q t' (on_screen q.screen (frame_in p c)) s
      → Leaves s m p t s' m' q t'' (change (paper_of s m p t) (close_layer c))
  -- Move, with a slot for each patch of the layer: stow its frame before and its frame after, and repaint both.
  pub moved : (s m s₁ m₁ s' m' : Picture) (p q : Plan) (t t' t'' : Slots) (c : ℕ) (x y : ℤ) → Begins s m p q t t' t'' → has c (listed p) ≡ true
      → Arranged p q (alter c (at_corner x y) (layers_in p)) (λ d. has d (listed p)) → OtherFrames c p q → frame_in q c ≡ cornered x y (frame_in p c)
      → ((k : ℕ) → k < 2400 → patch_of q c k ≡ true → has_slot t' k ≡ true)
      → Stowed s p t' (on_screen p.screen (frame_in p c)) m m₁ → Stowed s p t' (on_screen p.screen (frame_in q c)) m₁ m'
      → s₁ ≡ repainted m' q t' (on_screen q.screen (frame_in p c)) s → s' ≡ repainted m' q t' (on_screen q.screen (frame_in q c)) s₁
      → Leaves s m p t s' m' q t'' (change (paper_of s m p t) (move_layer c x y))
  -- Open: stow the new layer's frame, blank its slots, and fill its part of the screen with 0.
  pub opened : (s m m₁ s' m' : Picture) (p q : Plan) (t t' t'' : Slots) (c : ℕ) (f : Rectangle) → Begins s m p q t t' t'' → can_open p c f ≡ true
      → Arranged p q (layers_in p ++ (outline c f ∷ [])) (λ d. has d (listed p) || c == d) → OtherFrames c p q → frame_in q c ≡ f
      → Stowed s p t' (on_screen p.screen f) m m₁ → Blanked t' c m₁ m' → s' ≡ bitmap_after s (fill_with 3 0 f.x f.y f.w f.h)
      → Leaves s m p t s' m' q t'' (change (paper_of s m p t) (open_layer c f.x f.y f.w f.h))
