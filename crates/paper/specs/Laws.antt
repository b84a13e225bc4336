-- Laws of a desk.
use Rattle.std.specs.Prelude.{◌≡◌, ℕ, ◌<◌, ◌≤◌, true, false, cond, List, [], ◌∷◌, ◌++◌, length, ℤ, pos, ◌+ℤ◌, Some, None, Ok, Err, Option, ◌==◌}
use Rattle.raster.specs.Picture.{Picture, sizes}
use Rattle.raster.specs.Blt.{inside}
use Rattle.raster.specs.declared.size.Size.{Size}
use Rattle.paper.specs.declared.DeskFault.{DeskFault}
use Rattle.paper.specs.Layers.{Desk, Layer, covers, covered, shown, screen_after, is_open, only}
use Rattle.paper.specs.Slots.{visible, hidden}
use Rattle.paper.specs.Desk.{Call, open_layer, close_layer, raise_layer, lower_layer, move_layer, change, answer, after}
use Rattle.paper.specs.Run.{new_state, Step, end_of, Run}

-- The corner of a client's layer, if it is open.
abbrev pub corner_of : ℕ → List Layer → Option (ℤ × ℤ)
corner_of c [] = None
corner_of c (l ∷ ls) = cond (l.client == c) (Some (l.x, l.y)) (corner_of c ls)

-- No patch of a layer below the layers `higher` is hidden.
abbrev pub NoneHidden : (screen : Size) (higher : List Layer) → Layer → Type 0
NoneHidden screen higher l = (i j : ℕ) → hidden screen higher l i j ≡ false

-- A layer is wholly on the screen, and no higher layer meets it.
abbrev pub Clear : (screen : Size) (higher : List Layer) → Layer → Type 0
Clear screen higher l = (x y : ℤ) → covers l x y ≡ true → (inside screen x y ≡ true) × (covered higher x y ≡ false)

pub record DeskLaws : Type 0 where
  -- a refused call leaves the desk as it was
  pub refused_stays : (d : Desk) (call : Call) (f : DeskFault) → answer d call ≡ Err f → after d call ≡ d
  -- no patch of a layer is hidden exactly if it is wholly on the screen and nothing above meets it
  pub clear_shows : (screen : Size) (higher : List Layer) (l : Layer) → Clear screen higher l → NoneHidden screen higher l
  pub shown_clear : (screen : Size) (higher : List Layer) (l : Layer) → NoneHidden screen higher l → Clear screen higher l
  -- a visible pixel of a layer is what the screen rule shows at its place
  pub visible_shows : (screen : Size) (lower higher : List Layer) (l : Layer) (u v : ℕ) → u < l.pixels.width → v < l.pixels.height
      → visible screen higher l u v ≡ true → shown (lower ++ (l ∷ higher)) (l.x +ℤ pos u) (l.y +ℤ pos v) ≡ l.pixels.at u v
  -- to raise twice is to raise once, and to raise and then lower is to lower
  pub raise_twice : (d : Desk) (c : ℕ) → change (change d (raise_layer c)) (raise_layer c) ≡ change d (raise_layer c)
  pub raise_lower : (d : Desk) (c : ℕ) → change (change d (raise_layer c)) (lower_layer c) ≡ change d (lower_layer c)
  -- a move there and back restores the desk
  pub there_and_back : (d : Desk) (c : ℕ) (x y a b : ℤ) → corner_of c d.layers ≡ Some (a, b)
      → change (change d (move_layer c x y)) (move_layer c a b) ≡ d
  -- a close after an accepted open restores the desk
  pub open_close : (d : Desk) (c : ℕ) (x y : ℤ) (w h n : ℕ) → answer d (open_layer c x y w h) ≡ Ok n
      → after (after d (open_layer c x y w h)) (close_layer c) ≡ d
  -- what a call leaves on the screen: a place that a layer covers after it shows the topmost layer, one that was covered
  -- before and is not after is 0, every other is as it was
  pub covered_shows : (screen : Picture) (before after : Desk) (x y : ℕ) → inside (sizes screen) (pos x) (pos y) ≡ true
      → covered after.layers (pos x) (pos y) ≡ true
      → (screen_after screen before after).at x y ≡ shown after.layers (pos x) (pos y)
  pub uncovered_clears : (screen : Picture) (before after : Desk) (x y : ℕ) → inside (sizes screen) (pos x) (pos y) ≡ true
      → covered before.layers (pos x) (pos y) ≡ true → covered after.layers (pos x) (pos y) ≡ false
      → (screen_after screen before after).at x y ≡ 0
  pub untouched_stays : (screen : Picture) (before after : Desk) (x y : ℕ)
      → covered before.layers (pos x) (pos y) ≡ false → covered after.layers (pos x) (pos y) ≡ false
      → (screen_after screen before after).at x y ≡ screen.at x y
  pub outside_stays : (screen : Picture) (before after : Desk) (x y : ℕ) → inside (sizes screen) (pos x) (pos y) ≡ false
      → (screen_after screen before after).at x y ≡ screen.at x y
  -- in every run of a new desk no client above 7 has a layer, a client has at most one, and the slots in use are at
  -- most those there are
  pub known_clients : (size : Size) (slots : ℕ) (steps : List Step) → Run (new_state size slots) steps
      → (c : ℕ) → 7 < c → is_open c (end_of (new_state size slots) steps).paper ≡ false
  pub one_layer : (size : Size) (slots : ℕ) (steps : List Step) → Run (new_state size slots) steps
      → (c : ℕ) → length (only c (end_of (new_state size slots) steps).paper.layers) ≤ 1
  pub enough_slots : (size : Size) (slots : ℕ) (steps : List Step) → Run (new_state size slots) steps
      → (end_of (new_state size slots) steps).used ≤ slots
