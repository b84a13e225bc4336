-- Patches and slots: which patches of a layer are hidden, and how many slots a desk needs.
use Rattle.std.specs.Prelude.{ℕ, ◌+◌, ◌*◌, ◌/◌, Bool, false, cond, not, ◌&&◌, ◌||◌, List, [], ◌∷◌, pos, ◌+ℤ◌, ◌==◌, nat_lt}
use Rattle.raster.specs.Rules.{total}
use Rattle.raster.specs.Blt.{inside}
use Rattle.raster.specs.Calls.{any_below}
use Rattle.raster.specs.declared.size.Size.{Size}
use Rattle.paper.specs.Layers.{Desk, Layer, covered}

-- A slot is a square of 16 by 16 of the store. A store that is less deep than the screen has none.
abbrev pub slots_of : (store : Size) (depth : ℕ) → ℕ
slots_of store depth = cond (nat_lt store.depth depth) 0 ((store.width / 16) * (store.height / 16))

-- A layer's pixel (u, v), counted from its corner, is visible if its screen place is on the screen and no higher
-- layer covers it; else it is obscured, and held in the store.
abbrev pub visible : (screen : Size) (higher : List Layer) → Layer → (u v : ℕ) → Bool
visible screen higher l u v =
    inside screen (l.x +ℤ pos u) (l.y +ℤ pos v) && not (covered higher (l.x +ℤ pos u) (l.y +ℤ pos v))

-- The layer has the pixel (u, v), and it is obscured.
abbrev pub obscured : (screen : Size) (higher : List Layer) → Layer → (u v : ℕ) → Bool
obscured screen higher l u v = (nat_lt u l.pixels.width && nat_lt v l.pixels.height) && not (visible screen higher l u v)

-- A layer is cut from its corner into patches of 16 by 16, smaller at the right and bottom edge.
-- The patch in column i and row j is hidden if at least one of its pixels is obscured.
unfoldable pub hidden : (screen : Size) (higher : List Layer) → Layer → (i j : ℕ) → Bool
hidden screen higher l i j =
    any_below (λ v. any_below (λ u. obscured screen higher l (16 * i + u) (16 * j + v)) 16) 16

-- The same of a client's layer, among layers from bottom to top.
abbrev pub hidden_in : (screen : Size) → List Layer → (client i j : ℕ) → Bool
hidden_in screen [] c i j = false
hidden_in screen (l ∷ ls) c i j = cond (l.client == c) (hidden screen ls l i j) (hidden_in screen ls c i j)

-- How many patches a width or a height is cut into.
abbrev pub patches_along : ℕ → ℕ
patches_along n = (n + 15) / 16

-- How many patches of a layer pass a test on column and row.
abbrev pub patches_in : (ℕ → ℕ → Bool) → Layer → ℕ
patches_in test l =
    total (λ j. total (λ i. cond (test i j) 1 0) (patches_along l.pixels.width)) (patches_along l.pixels.height)

-- How many patches of some layers pass a test on client, column and row.
abbrev pub count_patches : (ℕ → ℕ → ℕ → Bool) → List Layer → ℕ
count_patches test [] = 0
count_patches test (l ∷ ls) = patches_in (test l.client) l + count_patches test ls

-- The hidden patches of a desk: as many slots are in use.
unfoldable pub hidden_count : Desk → ℕ
hidden_count d = count_patches (hidden_in d.size d.layers) d.layers

-- The patches that need a slot while a call turns the one desk into the other: those hidden before or after it,
-- each counted once, and those of the clients that `also` picks. Every layer before is one after, of the same size.
unfoldable pub slots_needed : (also : ℕ → Bool) (before after : Desk) → ℕ
slots_needed also before after =
    count_patches (λ c i j. hidden_in before.size before.layers c i j || (hidden_in after.size after.layers c i j || also c))
    after.layers
