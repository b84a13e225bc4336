-- What becomes of an arrangement when layers are opened, closed, moved or put in another order.
use Rattle.std.specs.Prelude.{◌≡◌, ℕ, Bool, not, ◌&&◌, List, ℤ, ◌≢◌, nat_lt}
use Rattle.paper.specs.Layers.{Layer}
use Rattle.raster.specs.declared.rectangle.Rectangle.{Rectangle}
use Rattle.plan.specs.declared.plan.Plan.{Plan}
use Rattle.plan.specs.Frames.{has}
use Rattle.plan.specs.Plans.{listed, layers_in, frame_in}

-- The arrangement r has the layers `after` on the screen of p. The clients that `opens` picks are open.
pub record Arranged (p r : Plan) (after : List Layer) (opens : ℕ → Bool) : Type 0 where
  pub screen : r.screen ≡ p.screen
  pub layers : layers_in r ≡ after
  pub clients : (d : ℕ) → has d (listed r) ≡ opens d

-- All frames are the same, and all but a client's.
abbrev pub SameFrames : (p r : Plan) → Type 0
SameFrames p r = (d : ℕ) → frame_in r d ≡ frame_in p d

abbrev pub OtherFrames : (client : ℕ) (p r : Plan) → Type 0
OtherFrames c p r = (d : ℕ) → (d ≢ c) → frame_in r d ≡ frame_in p d

-- A frame at another corner.
abbrev pub cornered : ℤ → ℤ → Rectangle → Rectangle
cornered x y f = record { x = x; y = y; w = f.w; h = f.h }

-- A layer of a client can be opened: there is such a client, its layer is not open, and the frame is not too large.
abbrev pub can_open : Plan → ℕ → Rectangle → Bool
can_open p c f = nat_lt c 8 && (not (has c (listed p)) && (nat_lt f.w 321 && nat_lt f.h 241))
