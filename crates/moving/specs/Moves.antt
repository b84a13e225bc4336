-- What has to hold of two arrangements, of the tables of slots on the way from one to the other, and of the places worked on.
use Rattle.std.specs.Prelude.{◌≡◌, ℕ, ◌<◌, Bool, true, false, cond, ◌||◌, pos, ◌==◌}
use Rattle.raster.specs.Picture.{Picture, sizes}
use Rattle.raster.specs.Blt.{inside}
use Rattle.paper.specs.Layers.{Desk, covered, topmost}
use Rattle.paper.specs.Slots.{slots_of}
use Rattle.plan.specs.declared.plan.Plan.{Plan}
use Rattle.slots.specs.declared.slots.Slots.{Slots}
use Rattle.plan.specs.Frames.{has}
use Rattle.plan.specs.Plans.{listed, layers_in, frame_in, hidden_patch}
use Rattle.slots.specs.Tables.{slot_of, has_slot, Fits}
use Rattle.hold.specs.Held.{Pixels, layers_with}
use Rattle.moving.specs.Phases.{in_store}

-- The desk on paper of an arrangement with some pixels, on a screen and with a store of these sizes.
abbrev pub desk_with : (screen store : Picture) → Plan → Pixels → Desk
desk_with screen store p px = record {
  size = sizes screen;
  slots = slots_of (sizes store) screen.depth;
  layers = layers_with screen.depth p px (listed p);
}

-- The same pixels, but for those of a client with a new layer, which are 0.
abbrev pub fresh : (client : ℕ) → Pixels → Pixels
fresh c px d u v = cond (d == c) 0 (px d u v)

-- A client's layer was there, in the same size; if a pixel of it has no slot on the way, it has not been moved.
pub record Stays (p q : Plan) (t' : Slots) (d : ℕ) : Type 0 where
  pub was : has d (listed p) ≡ true
  pub width : (frame_in q d).w ≡ (frame_in p d).w
  pub height : (frame_in q d).h ≡ (frame_in p d).h
  pub fixed : (u v : ℕ) → u < (frame_in p d).w → v < (frame_in p d).h → in_store t' d u v ≡ false
      → ((frame_in q d).x ≡ (frame_in p d).x) × ((frame_in q d).y ≡ (frame_in p d).y)

-- The slots on the way from arrangement p with the table t to arrangement q with the table t'': in t' every patch has one that is
-- hidden before or after, those of t are kept, and t'' keeps those of the patches hidden after.
pub record Slotted (p q : Plan) (t t' t'' : Slots) : Type 0 where
  pub fits : Fits p t
  pub given : (k : ℕ) → k < 2400 → (hidden_patch p k || hidden_patch q k) ≡ true → has_slot t' k ≡ true
  pub kept : (k : ℕ) → k < 2400 → has_slot t k ≡ true → slot_of t' k ≡ slot_of t k
  pub left : (k : ℕ) → k < 2400 → hidden_patch q k ≡ true → slot_of t'' k ≡ slot_of t' k

-- The places worked on: they are on the screen, and some layer covers them before or after; at every other place of the screen the same layer is
-- topmost before and after, at the same place.
pub record Worked (p q : Plan) (at : ℕ → ℕ → Bool) : Type 0 where
  pub same_screen : q.screen ≡ p.screen
  pub on : (x y : ℕ) → at x y ≡ true → inside p.screen (pos x) (pos y) ≡ true
  pub under : (x y : ℕ) → at x y ≡ true → (covered (layers_in p) (pos x) (pos y) || covered (layers_in q) (pos x) (pos y)) ≡ true
  pub off : (x y : ℕ) → inside p.screen (pos x) (pos y) ≡ true → at x y ≡ false
      → topmost (layers_in q) (pos x) (pos y) ≡ topmost (layers_in p) (pos x) (pos y)
