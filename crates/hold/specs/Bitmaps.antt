-- Drawing, told of bitmaps of any two kinds: a screen and a store.
use Rattle.std.specs.Prelude.{ℕ}
use Rattle.raster.specs.Picture.{Picture}
use Rattle.raster.specs.declared.bitmap.Bitmap.{Ghosts}
use Rattle.hold.specs.declared.layer.Layout.{Layout}
use Rattle.hold.specs.declared.layer.Layer.{Layer}
use Rattle.hold.specs.Held.{held, layer_held, Fitting, OwnPixel, Drawn, PixelPut}

-- The layer is open, and (u, v) is one of its pixels.
abbrev pub HasPixel : Layer → (u v : ℕ) → Type 0
HasPixel l u v = OwnPixel l.layout.plan.now l.client u v

module _ {S T : Type 0} (s : Ghosts S) (t : Ghosts T) where
  -- Screen and store suit a layout.
  abbrev pub Suits : Layout → (screen : S) (store : T) → Type 0
  Suits l screen store = Fitting (s.picture screen) (t.picture store) l.plan.now l.slots.now

  -- A pixel of a layer, and the picture of the layer.
  abbrev pub pixel_on : Layer → (screen : S) (store : T) → (u v : ℕ) → ℕ
  pixel_on l screen store u v = held (s.picture screen) (t.picture store) l.layout.plan.now l.layout.slots.now l.client u v

  abbrev pub layer_on : Layer → (screen : S) (store : T) → Picture
  layer_on l screen store = layer_held (s.picture screen) (t.picture store) l.layout.plan.now l.layout.slots.now l.client

  -- One pixel of a layer was set, where it lies, and nothing else.
  abbrev pub Puts : Layer → (screen : S) (store : T) (screen' : S) (store' : T) → (u v value : ℕ) → Type 0
  Puts l screen store screen' store' u v value =
      PixelPut l.layout.plan.now l.layout.slots.now (s.picture screen) (t.picture store) (s.picture screen') (t.picture store') l.client u v value

  -- If they suit, the layer became f of what it was, all other layers stayed, and the screen followed.
  abbrev pub Draws : Layer → (screen : S) (store : T) (screen' : S) (store' : T) → (f : Picture → Picture) → Type 0
  Draws l screen store screen' store' f =
      Suits l.layout screen store
      → Drawn l.layout.plan.now l.layout.slots.now (s.picture screen) (t.picture store) (s.picture screen') (t.picture store') l.client (f (layer_on l screen store))

  -- A drawing on a layer: if it lies in the layer (`within`), the layer became f of what it was; what is no pixel of screen and store stays.
  pub record Drawing (within : Type 0) (l : Layer) (s0 : S) (t0 : T) (s1 : S) (t1 : T) (f : Picture → Picture) : Type 0 where
    pub drawn : within → Draws l s0 t0 s1 t1 f
    pub screen : s.keeps s0 s1
    pub store : t.keeps t0 t1
