-- Changes of an arrangement: which patches need a slot for them, and which concern one client's layer.
use Rattle.std.specs.Prelude.{◌≡◌, ℕ, Bool, true, ◌≢◌}
use Rattle.paper.specs.Layers.{without}
use Rattle.plan.specs.declared.change.Change.{Change}
use Rattle.plan.specs.declared.plan.Plan.{Plan}
use Rattle.plan.specs.Frames.{has}
use Rattle.plan.specs.Plans.{listed, layers_in, frame_in, needs}
use Rattle.plan.specs.Arranged.{OtherFrames}

-- The patches that need a slot for a change.
abbrev pub needed : Change → ℕ → Bool
needed c = needs c.before.now c.after.now c.moved

-- Two arrangements on one screen differ in a client's layer alone: all other layers have the same frames and the same order. If the client's
-- layer was open, its size stays.
pub record Concerns (p q : Plan) (c : ℕ) : Type 0 where
  pub screen : q.screen ≡ p.screen
  pub layers : without c (layers_in q) ≡ without c (layers_in p)
  pub frames : OtherFrames c p q
  pub clients : (d : ℕ) → (d ≢ c) → has d (listed q) ≡ has d (listed p)
  pub wide : has c (listed p) ≡ true → (frame_in q c).w ≡ (frame_in p c).w
  pub high : has c (listed p) ≡ true → (frame_in q c).h ≡ (frame_in p c).h
