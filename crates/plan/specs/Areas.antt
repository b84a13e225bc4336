-- Areas: rectangles of places from left to right and from top to bottom, the right column and the bottom row not counted.
use Rattle.std.specs.Prelude.{ℕ, ◌+◌, min, Bool, false, not, ◌&&◌, ◌||◌, List, [], ◌∷◌, ℤ, pos, ◌+ℤ◌, int_le, int_lt, nat_lt}
use Rattle.raster.specs.declared.size.Size.{Size}
use Rattle.paper.specs.Layers.{Layer}
use Rattle.raster.specs.declared.rectangle.Rectangle.{Rectangle}

-- One of the n numbers from `from` on lies from a up to b, where a < b.
abbrev pub reaches : (from : ℤ) (n : ℕ) (a b : ℤ) → Bool
reaches from n a b = nat_lt 0 n && (int_lt from b && int_lt a (from +ℤ pos n))

-- The rectangle at (x, y), w by h, has a place in an area.
abbrev pub meets : (x y : ℤ) (w h : ℕ) (left top right bottom : ℤ) → Bool
meets x y w h left top right bottom = reaches x w left right && reaches y h top bottom

-- One of some layers has a place in an area.
abbrev pub met : List Layer → (left top right bottom : ℤ) → Bool
met [] left top right bottom = false
met (l ∷ ls) left top right bottom =
    meets l.x l.y l.pixels.width l.pixels.height left top right bottom || met ls left top right bottom

-- An area lies on a screen as a whole.
abbrev pub within : (a b : ℤ) (n : ℕ) → Bool
within a b n = int_le (pos 0) a && int_le b (pos n)

abbrev pub on_screen : Size → (left top right bottom : ℤ) → Bool
on_screen s left top right bottom = within left right s.width && within top bottom s.height

-- A patch at the pixel (u, v) of a layer has a pixel, and, cut to the layer, it is not on the screen as a whole or has a place that a higher
-- layer has too.
unfoldable pub hidden_area : (screen : Size) (higher : List Layer) → Rectangle → (u v : ℕ) → Bool
hidden_area screen higher f u v =
    (nat_lt u f.w && nat_lt v f.h)
    && (not (on_screen screen (f.x +ℤ pos u) (f.y +ℤ pos v) (f.x +ℤ pos (min (u + 16) f.w)) (f.y +ℤ pos (min (v + 16) f.h)))
    || met higher (f.x +ℤ pos u) (f.y +ℤ pos v) (f.x +ℤ pos (min (u + 16) f.w)) (f.y +ℤ pos (min (v + 16) f.h)))
