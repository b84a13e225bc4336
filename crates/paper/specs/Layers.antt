-- Layers and desks on paper, and what a desk's screen shows.
use Rattle.std.specs.Prelude.{ℕ, Bool, false, cond, not, ◌&&◌, ◌||◌, List, [], ◌∷◌, ℤ, pos, ◌-ℤ◌, is_some, Some, None, Option, ◌==◌, nat_eq, unsigned_abs}
use Rattle.raster.specs.Picture.{Picture, sizes, painted}
use Rattle.raster.specs.Blt.{in_rectangle, inside}
use Rattle.raster.specs.declared.size.Size.{Size}

-- A layer: its client, its corner on the screen or off it, and its own pixels with their size.
pub record Layer : Type 0 where
  pub client : ℕ
  pub x : ℤ
  pub y : ℤ
  pub pixels : Picture

-- A desk on paper: the size and depth of its screen, the number of slots, and the layers from bottom to top.
-- Its depth is the screen's.
pub record Desk : Type 0 where
  pub size : Size
  pub slots : ℕ
  pub layers : List Layer

-- A new desk has no layers.
abbrev pub new_desk : Size → (slots : ℕ) → Desk
new_desk size slots = record { size = size; slots = slots; layers = [] }

abbrev pub with_layers : Desk → List Layer → Desk
with_layers d ls = record { size = d.size; slots = d.slots; layers = ls }

-- The picture that is 0 everywhere.
abbrev pub blank : (width height depth : ℕ) → Picture
blank width height depth = record { width = width; height = height; depth = depth; at = λ _ _. 0 }

-- the first of two, or else the second
abbrev pub or_else : {A : Type 0} → Option A → Option A → Option A
or_else (Some a) o = Some a
or_else None o = o

-- ── The screen ──

-- A layer covers the screen place (x, y).
abbrev pub covers : Layer → ℤ → ℤ → Bool
covers l x y = in_rectangle l.x l.y l.pixels.width l.pixels.height x y

-- One of some layers covers (x, y).
abbrev pub covered : List Layer → ℤ → ℤ → Bool
covered [] x y = false
covered (l ∷ ls) x y = covers l x y || covered ls x y

-- The topmost of some layers, from bottom to top, that covers (x, y).
abbrev pub topmost : List Layer → ℤ → ℤ → Option Layer
topmost [] x y = None
topmost (l ∷ ls) x y = or_else (topmost ls x y) (cond (covers l x y) (Some l) None)

-- The pixel of a layer at a screen place that it covers; 0 if there is no layer.
abbrev pub pixel_of : Option Layer → ℤ → ℤ → ℕ
pixel_of (Some l) x y = l.pixels.at (unsigned_abs (x -ℤ l.x)) (unsigned_abs (y -ℤ l.y))
pixel_of None x y = 0

-- The screen rule: a screen place shows the topmost layer that covers it, or 0.
abbrev pub shown : List Layer → ℤ → ℤ → ℕ
shown ls x y = pixel_of (topmost ls x y) x y

-- The screen by the screen rule, with 0 outside it.
unfoldable pub screen_of : Desk → Picture
screen_of d = record {
  width = d.size.width;
  height = d.size.height;
  depth = d.size.depth;
  at = λ x y. cond (inside d.size (pos x) (pos y)) (shown d.layers (pos x) (pos y)) 0;
}

-- What a call leaves on the screen, told from what stood there: a place that a layer covers after the call has
-- the topmost layer's pixel, one that was covered before and is not after has 0, and every other stays as it was.
-- So where some layer covered before or covers after, the place has what the screen rule shows after the call.
unfoldable pub screen_after : (screen : Picture) (before after : Desk) → Picture
screen_after screen before after =
    painted screen
    (λ x y. inside (sizes screen) (pos x) (pos y) && (covered before.layers (pos x) (pos y) || covered after.layers (pos x) (pos y)))
    (λ x y. shown after.layers (pos x) (pos y))

-- ── Layers by client ──

-- The pixels of a client's layer, if it is open.
abbrev pub pixels_of : ℕ → List Layer → Option Picture
pixels_of c [] = None
pixels_of c (l ∷ ls) = cond (l.client == c) (Some l.pixels) (pixels_of c ls)

abbrev pub is_open : ℕ → Desk → Bool
is_open c d = is_some (pixels_of c d.layers)

-- A client's pane: its layer as a bitmap. It is 0 by 0, at the desk's depth, if the client has no open layer;
-- a client above 7 never has one.
abbrev pub or_blank : (depth : ℕ) → Option Picture → Picture
or_blank depth (Some p) = p
or_blank depth None = blank 0 0 depth

abbrev pub pane : ℕ → Desk → Picture
pane c d = or_blank d.size.depth (pixels_of c d.layers)

-- The layers whose client passes a test, in their order: a client's own layer, and all others.
abbrev pub keep : (ℕ → Bool) → List Layer → List Layer
keep test [] = []
keep test (l ∷ ls) = cond (test l.client) (l ∷ keep test ls) (keep test ls)

abbrev pub only : ℕ → List Layer → List Layer
only c ls = keep (λ k. nat_eq c k) ls

abbrev pub without : ℕ → List Layer → List Layer
without c ls = keep (λ k. not (c == k)) ls

-- A client's layer is altered; the order is kept.
abbrev pub alter : ℕ → (Layer → Layer) → List Layer → List Layer
alter c f [] = []
alter c f (l ∷ ls) = cond (l.client == c) (f l ∷ ls) (l ∷ alter c f ls)

-- The same layer with other pixels, or at another corner.
abbrev pub with_pixels : Picture → Layer → Layer
with_pixels p l = record { client = l.client; x = l.x; y = l.y; pixels = p }

abbrev pub at_corner : ℤ → ℤ → Layer → Layer
at_corner x y l = record { client = l.client; x = x; y = y; pixels = l.pixels }
