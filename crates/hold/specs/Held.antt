-- The desk on paper that a screen, a store, an arrangement and a table of slots hold together.
use Rattle.std.specs.Prelude.{◌≡◌, ℕ, ◌<◌, true, cond, ◌&&◌, List, [], ◌∷◌, ◌==◌, nat_lt}
use Rattle.raster.specs.Picture.{Picture, sizes, with_pixel}
use Rattle.paper.specs.Layers.{Layer, Desk, pane, screen_after}
use Rattle.paper.specs.Slots.{slots_of}
use Rattle.paper.specs.Desk.{repaint}
use Rattle.plan.specs.declared.plan.Plan.{Plan}
use Rattle.slots.specs.declared.slots.Slots.{Slots}
use Rattle.plan.specs.Frames.{has}
use Rattle.plan.specs.Plans.{listed, frame_in}
use Rattle.slots.specs.Tables.{Fits}
use Rattle.hold.specs.Spots.{spot_of, look, screen_with, store_with}

-- The value of each pixel of each client's layer, by a function of client, column and row.
abbrev pub Pixels : Type 0
Pixels = (client u v : ℕ) → ℕ

-- The same but for one pixel.
abbrev pub with_one : Pixels → (client u v value : ℕ) → Pixels
with_one px c u v value d a b = cond (d == c && (a == u && b == v)) value (px d a b)

-- A client's layer in an arrangement, with pixels by such a function; outside its size they are 0.
abbrev pub layer_with : (depth : ℕ) → Plan → Pixels → ℕ → Layer
layer_with depth p px c = record {
  client = c;
  x = (frame_in p c).x;
  y = (frame_in p c).y;
  pixels = record {
    width = (frame_in p c).w;
    height = (frame_in p c).h;
    depth = depth;
    at = λ u v. cond (nat_lt u (frame_in p c).w && nat_lt v (frame_in p c).h) (px c u v) 0;
  };
}

abbrev pub layers_with : (depth : ℕ) → Plan → Pixels → List ℕ → List Layer
layers_with depth p px [] = []
layers_with depth p px (c ∷ cs) = layer_with depth p px c ∷ layers_with depth p px cs

-- The pixels that screen and store hold.
abbrev pub held : (screen store : Picture) → Plan → Slots → Pixels
held screen store p t c u v = look screen store (spot_of store.width p t c u v)

-- The desk on paper that they hold.
unfoldable pub paper_of : (screen store : Picture) → Plan → Slots → Desk
paper_of screen store p t = record {
  size = sizes screen;
  slots = slots_of (sizes store) screen.depth;
  layers = layers_with screen.depth p (held screen store p t) (listed p);
}

-- The picture of a client's layer.
abbrev pub layer_held : (screen store : Picture) → Plan → Slots → (client : ℕ) → Picture
layer_held screen store p t c = pane c (paper_of screen store p t)

-- Each pixel of each open layer is where its spot says.
abbrev pub Holds : (screen store : Picture) → Plan → Slots → Pixels → Type 0
Holds screen store p t px =
    (c : ℕ) → has c (listed p) ≡ true → (u v : ℕ) → u < (frame_in p c).w → v < (frame_in p c).h → held screen store p t c u v ≡ px c u v

-- Screen and store suit an arrangement and a table of slots: it is an arrangement on that screen, the table has the slots of
-- that store, and a patch has a slot exactly if it is hidden.
pub record Fitting (screen store : Picture) (p : Plan) (t : Slots) : Type 0 where
  pub size : p.screen ≡ sizes screen
  pub places : t.places ≡ slots_of (sizes store) screen.depth
  pub fits : Fits p t

-- (u, v) is a pixel of an open layer of the client.
pub record OwnPixel (p : Plan) (c u v : ℕ) : Type 0 where
  pub opened : has c (listed p) ≡ true
  pub across : u < (frame_in p c).w
  pub down : v < (frame_in p c).h

-- The client's layer became the picture q and all other layers stayed, and the screen followed the screen rule.
pub record Drawn (p : Plan) (t : Slots) (screen store screen' store' : Picture) (c : ℕ) (q : Picture) : Type 0 where
  pub screen_size : sizes screen' ≡ sizes screen
  pub store_size : sizes store' ≡ sizes store
  pub paper : paper_of screen' store' p t ≡ repaint c q (paper_of screen store p t)
  pub shows : screen' ≡ screen_after screen (paper_of screen store p t) (paper_of screen' store' p t)

-- One pixel of a client's layer was set, where it lies, and nothing else.
pub record PixelPut (p : Plan) (t : Slots) (screen store screen' store' : Picture) (c u v value : ℕ) : Type 0 where
  pub on_screen : screen' ≡ screen_with screen (spot_of store.width p t c u v) value
  pub in_store : store' ≡ store_with store (spot_of store.width p t c u v) value
  pub fitting : Fitting screen' store' p t
  pub pixels : Holds screen' store' p t (with_one (held screen store p t) c u v value)
  pub drawn : Drawn p t screen store screen' store' c (with_pixel (layer_held screen store p t c) u v value)
