-- Arrangements of layers, and which of their patches are hidden and need slots, over the definitions of the desk on paper.
use Rattle.std.specs.Prelude.{ℕ, ◌+◌, ◌*◌, ◌/◌, ◌%◌, Bool, false, cond, ◌&&◌, ◌||◌, List, [], ◌∷◌, take, Some, None, Option, ◌==◌, nat_lt, slice_index_or}
use Rattle.paper.specs.Layers.{Layer}
use Rattle.paper.specs.Slots.{visible, hidden_in}
use Rattle.paper.specs.Desk.{new_layer}
use Rattle.raster.specs.declared.rectangle.Rectangle.{Rectangle}
use Rattle.plan.specs.declared.plan.Plan.{Plan}
use Rattle.plan.specs.Frames.{no_frame, has}

-- A layer by its client, corner and size alone: what is visible, hidden and topmost depends on nothing else. Its pixels are 0.
abbrev pub outline : (client : ℕ) → Rectangle → Layer
outline c f = new_layer 1 c f.x f.y f.w f.h

abbrev pub outlines : List ℕ → List Rectangle → List Layer
outlines [] fs = []
outlines (c ∷ cs) fs = outline c (slice_index_or fs c no_frame) ∷ outlines cs fs

-- The clients of an arrangement from bottom to top, and their layers.
abbrev pub listed : Plan → List ℕ
listed p = take p.count p.order

abbrev pub layers_in : Plan → List Layer
layers_in p = outlines (listed p) p.frames

-- the frame of a client's layer
abbrev pub frame_in : Plan → ℕ → Rectangle
frame_in p c = slice_index_or p.frames c no_frame

-- the layers above a client's
abbrev pub above : ℕ → List Layer → List Layer
above c [] = []
above c (l ∷ ls) = cond (l.client == c) ls (above c ls)

-- The pixel (u, v) of a client's layer is visible.
abbrev pub seen : Plan → (client u v : ℕ) → Bool
seen p c u v = visible p.screen (above c (layers_in p)) (outline c (frame_in p c)) u v

-- The number of a patch, and whether the patch of a number is hidden.
abbrev pub patch_at : (client column row : ℕ) → ℕ
patch_at c i j = 300 * c + 20 * j + i

abbrev pub hidden_patch : Plan → ℕ → Bool
hidden_patch p k = hidden_in p.screen (layers_in p) (k / 300) (k % 300 % 20) (k % 300 / 20)

-- The patch of a number is one of the client's layer.
abbrev pub patch_of : Plan → (client : ℕ) → ℕ → Bool
patch_of p c k = has c (listed p) && (k / 300 == c && (nat_lt (16 * (k % 300 % 20)) (frame_in p c).w && nat_lt (16 * (k % 300 / 20)) (frame_in p c).h))

-- The patch of a number is one of the layer that is moved, if one is.
abbrev pub moved_patch : Plan → (moved : Option ℕ) → ℕ → Bool
moved_patch p None k = false
moved_patch p (Some c) k = patch_of p c k

-- The patches that need a slot while one arrangement becomes another: those hidden in the one or in the other, and, where the
-- layer of a client is moved, all of that.
abbrev pub needs : (before after : Plan) (moved : Option ℕ) → ℕ → Bool
needs before after moved k = hidden_patch before k || (hidden_patch after k || moved_patch after moved k)
