-- What stands behind a screen place, and what stowing, repainting and blanking leave.
use Rattle.std.specs.Prelude.{◌≡◌, ℕ, ◌+◌, ◌/◌, ◌%◌, ◌^◌, ◌<◌, Bool, true, false, cond, ◌&&◌, ◌||◌, not, nat_le, nat_lt, ℤ, pos, ◌-ℤ◌, Some, None, Option, ◌==◌, ◌≢◌, unsigned_abs}
use Rattle.raster.specs.Picture.{Picture, sizes, painted}
use Rattle.raster.specs.Blt.{in_rectangle, inside}
use Rattle.raster.specs.Blits.{between}
use Rattle.raster.specs.declared.size.Size.{Size}
use Rattle.paper.specs.Layers.{Layer, topmost}
use Rattle.paper.specs.Slots.{slots_of}
use Rattle.raster.specs.declared.rectangle.Rectangle.{Rectangle}
use Rattle.plan.specs.declared.plan.Plan.{Plan}
use Rattle.slots.specs.declared.slots.Slots.{Slots}
use Rattle.plan.specs.Plans.{layers_in, patch_at}
use Rattle.slots.specs.Tables.{has_slot}
use Rattle.hold.specs.Spots.{slot_x, slot_y, own_slot}
use Rattle.moving.specs.declared.walk.Places.{Places}
use Rattle.moving.specs.declared.backing.Backing.{Backing}
use Rattle.moving.specs.declared.backing.Backing.TheVariants.{Bare, Alone, Kept}

-- The arrangement is one of this screen, and the table is one of this store.
pub record Fitting (screen store : Picture) (p : Plan) (t : Slots) : Type 0 where
  pub sized : p.screen ≡ sizes screen
  pub places : t.places ≡ slots_of (sizes store) screen.depth

-- The screen places of a rectangle.
abbrev pub on_screen : Size → Rectangle → (x y : ℕ) → Bool
on_screen s f x y = in_rectangle f.x f.y f.w f.h (pos x) (pos y) && inside s (pos x) (pos y)

-- The one place (x, y).
abbrev pub just : (x y : ℕ) → ℕ → ℕ → Bool
just x y a b = a == x && b == y

-- The places of a walk that are still ahead: those of its row from its column on, and the rows after it.
abbrev pub ahead : Places → (x y : ℕ) → Bool
ahead w x y = nat_lt x w.right && nat_lt y w.bottom && ((y == w.y && nat_le w.x x) || (nat_lt w.y y && nat_le w.left x))

-- A step of a walk gives one of the places ahead, and leaves the others; it gives none where none is ahead.
abbrev pub Gives : Places → Option (ℕ × ℕ) → Places → Type 0
Gives w None w' = (x y : ℕ) → ahead w x y ≡ false
Gives w (Some p) w' = (ahead w p.0 p.1 ≡ true) × ((x y : ℕ) → ahead w' x y ≡ (ahead w x y && not (just p.0 p.1 x y)))

-- The place in a store of the pixel (u, v) of a client's layer, if its patch has a slot.
abbrev pub store_x : (width : ℕ) → Slots → (client u v : ℕ) → ℕ
store_x width t c u v = slot_x width (own_slot t c u v) + u % 16

abbrev pub store_y : (width : ℕ) → Slots → (client u v : ℕ) → ℕ
store_y width t c u v = slot_y width (own_slot t c u v) + v % 16

-- The patch of that pixel has a slot.
abbrev pub in_store : Slots → (client u v : ℕ) → Bool
in_store t c u v = has_slot t (patch_at c (u / 16) (v / 16))

abbrev pub kept_pixel : (width : ℕ) → Slots → (client u v : ℕ) → Backing
kept_pixel width t c u v = cond (in_store t c u v) (Kept (store_x width t c u v) (store_y width t c u v)) Alone

-- A place counted from the corner of a layer that covers it.
abbrev pub from_corner : ℤ → ℕ → ℕ
from_corner a x = unsigned_abs (pos x -ℤ a)

-- What stands behind the place (x, y), where a layer is topmost or none.
abbrev pub backed : (width : ℕ) → Slots → Option Layer → (x y : ℕ) → Backing
backed width t None x y = Bare
backed width t (Some l) x y = kept_pixel width t l.client (from_corner l.x x) (from_corner l.y y)

unfoldable pub behind : (width : ℕ) → Plan → Slots → (x y : ℕ) → Backing
behind width p t x y = backed width t (topmost (layers_in p) (pos x) (pos y)) x y

-- The store after the pixels that show at some screen places were copied to their places in it: those have the pixel, every other
-- place has what it had.
pub record Stowed (screen : Picture) (p : Plan) (t : Slots) (at : ℕ → ℕ → Bool) (before after : Picture) : Type 0 where
  pub size : sizes after ≡ sizes before
  pub copied : (x y a b : ℕ) → at x y ≡ true → behind before.width p t x y ≡ Kept a b → after.at a b ≡ screen.at x y
  pub others : (a b : ℕ) → ((x y : ℕ) → at x y ≡ true → behind before.width p t x y ≢ Kept a b) → after.at a b ≡ before.at a b

-- What repainting changes, and to what.
abbrev pub changes : Backing → Bool
changes Bare = true
changes Alone = false
changes (Kept a b) = true

abbrev pub taken : (depth : ℕ) (store : Picture) → Backing → ℕ
taken depth store Bare = 0
taken depth store Alone = 0
taken depth store (Kept a b) = store.at a b % 2 ^ depth

-- The screen after some of its places got what the store has for them, or 0 where no layer is.
unfoldable pub repainted : (store : Picture) → Plan → Slots → (at : ℕ → ℕ → Bool) → Picture → Picture
repainted store p t at screen =
    painted screen (λ x y. at x y && changes (behind store.width p t x y)) (λ x y. taken screen.depth store (behind store.width p t x y))

-- The square of slot k.
abbrev pub in_slot : (width k : ℕ) → ℕ → ℕ → Bool
in_slot width k a b = between (slot_x width k) 16 a && between (slot_y width k) 16 b

-- The store after the slots of a client's patches were set to 0, each a whole square.
pub record Blanked (t : Slots) (c : ℕ) (before after : Picture) : Type 0 where
  pub size : sizes after ≡ sizes before
  pub cleared : (u v : ℕ) → u < 320 → v < 240 → in_store t c u v ≡ true → after.at (store_x before.width t c u v) (store_y before.width t c u v) ≡ 0
  pub others : (a b : ℕ) → ((u v : ℕ) → u < 320 → v < 240 → in_store t c u v ≡ true → a ≡ store_x before.width t c u v → b ≢ store_y before.width t c u v)
      → after.at a b ≡ before.at a b
