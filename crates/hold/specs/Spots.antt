-- Where a pixel of a layer lies, and what is held there.
use Rattle.std.specs.Prelude.{ℕ, ◌+◌, ◌*◌, ◌/◌, ◌%◌, ◌^◌, ◌<◌, cond, pos, ◌+ℤ◌, unsigned_abs}
use Rattle.raster.specs.Picture.{Picture, with_pixel}
use Rattle.plan.specs.declared.plan.Plan.{Plan}
use Rattle.slots.specs.declared.slots.Slots.{Slots}
use Rattle.plan.specs.Plans.{frame_in, seen, patch_at}
use Rattle.slots.specs.Tables.{slot_of}
use Rattle.hold.specs.declared.spot.Spot.{Spot}
use Rattle.hold.specs.declared.spot.Spot.TheVariants.{Screen, Store}

-- The slots of a store are its squares of 16 by 16, numbered along its rows of width / 16: the corner of slot k.
abbrev pub slot_x : (width k : ℕ) → ℕ
slot_x width k = 16 * (k % (width / 16))

abbrev pub slot_y : (width k : ℕ) → ℕ
slot_y width k = 16 * (k / (width / 16))

-- The slot of the patch that the pixel (u, v) of a client's layer is in.
abbrev pub own_slot : Slots → (client u v : ℕ) → ℕ
own_slot t c u v = slot_of t (patch_at c (u / 16) (v / 16))

-- The screen place of a pixel, where it is on the screen; and its place in a store of a width.
abbrev pub screen_spot : Plan → (client u v : ℕ) → Spot
screen_spot p c u v = Screen (unsigned_abs ((frame_in p c).x +ℤ pos u)) (unsigned_abs ((frame_in p c).y +ℤ pos v))

abbrev pub store_spot : (width : ℕ) → Slots → (client u v : ℕ) → Spot
store_spot width t c u v = Store (slot_x width (own_slot t c u v) + u % 16) (slot_y width (own_slot t c u v) + v % 16)

-- A visible pixel lies on the screen, an obscured one in its slot.
unfoldable pub spot_of : (width : ℕ) → Plan → Slots → (client u v : ℕ) → Spot
spot_of width p t c u v = cond (seen p c u v) (screen_spot p c u v) (store_spot width t c u v)

-- What is held at a spot. A value in the store counts modulo 2^depth of the screen.
abbrev pub look : (screen store : Picture) → Spot → ℕ
look screen store (Screen x y) = screen.at x y
look screen store (Store x y) = store.at x y % 2 ^ screen.depth

-- A picture has the pixel (x, y), and it can have the value.
pub record Settable (p : Picture) (x y value : ℕ) : Type 0 where
  pub across : x < p.width
  pub down : y < p.height
  pub small : value < 2 ^ p.depth

-- Screen and store with a value at a spot.
abbrev pub screen_with : Picture → Spot → ℕ → Picture
screen_with screen (Screen x y) value = with_pixel screen x y value
screen_with screen (Store x y) value = screen

abbrev pub store_with : Picture → Spot → ℕ → Picture
store_with store (Screen x y) value = store
store_with store (Store x y) value = with_pixel store x y value
