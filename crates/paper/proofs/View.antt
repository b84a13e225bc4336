-- What one call answers and leaves, seen by one client: it depends on the client's own pixels and the depth alone.
use Rattle.std.proofs.Common.{◌≡◌, ℕ, Bool, false, cond, not, eqb, ltb, List, [], ◌∷◌, ◌++◌, is_some, Some, None, Ok, Err, Option, refl, ap, ◌∙◌}
use Rattle.std.proofs.lemmas.Bool.{eq-eqb}
use Rattle.raster.specs.Picture.{Picture, sizes}
use Rattle.raster.specs.Blt.{from_picture, count, blt}
use Rattle.raster.specs.Calls.{BitmapCall, read_at, fill_with, scroll_by, refuse_if, first_fault, unless, if_refused, bitmap_fault, bitmap_value, bitmap_change}
use Rattle.raster.specs.declared.refusal.Refusal.TheVariants.{NotOpen, ValueTooLarge}
use Rattle.paper.specs.declared.DeskFault.{DeskFault}
use Rattle.paper.specs.Layers.{Desk, Layer, with_layers, blank, or_else, or_blank, pixels_of, pane}
use Rattle.paper.specs.Desk.{Call, open_layer, close_layer, raise_layer, lower_layer, move_layer, fill_layer, scroll_layer, stamp_layer, read_layer, client_of, new_layer, repaint, change, accepted_value, because, carried, no_client, no_rule, fault_of, Answer, answer, after}
use Rattle.paper.specs.Run.{accepted, if_drawing}
use Rattle.paper.proofs.Layers.{repainted, pixels-++, without_same, without_other, paint_same, paint_other, place_any, raised_any, lowered_any, or_else_none}

-- ── Told from the client's own pixels ──

abbrev own_not_open : ℕ → Option Picture → Option DeskFault
own_not_open c o = refuse_if (not (is_some o)) (because NotOpen c)

abbrev own_carried : ℕ → ℕ → Option Picture → BitmapCall → Option DeskFault
own_carried depth c o call = carried c (bitmap_fault (sizes (or_blank depth o)) call)

-- The fault of a close, a fill, a scroll, a stamp or a read.
abbrev pub own_fault : ℕ → Option Picture → Call → Option DeskFault
own_fault depth o (open_layer c x y w h) = None
own_fault depth o (close_layer c) = first_fault (no_client c ∷ own_not_open c o ∷ [])
own_fault depth o (raise_layer c) = None
own_fault depth o (lower_layer c) = None
own_fault depth o (move_layer c x y) = None
own_fault depth o (fill_layer c rule v x y w h) = first_fault (no_client c ∷ own_not_open c o ∷ own_carried depth c o (fill_with rule v x y w h) ∷ [])
own_fault depth o (scroll_layer c t) = first_fault (no_client c ∷ own_not_open c o ∷ own_carried depth c o (scroll_by t) ∷ [])
own_fault depth o (stamp_layer c t source) =
    first_fault (no_client c ∷ own_not_open c o ∷ no_rule c t.rule ∷ refuse_if (ltb depth source.depth) (because ValueTooLarge c) ∷ [])
own_fault depth o (read_layer c x y) = first_fault (no_client c ∷ own_not_open c o ∷ own_carried depth c o (read_at x y) ∷ [])

-- The answers of a call that draws, reads or closes.
abbrev pub own_answers : ℕ → Option Picture → Call → List Answer
own_answers depth o (open_layer c x y w h) = []
own_answers depth o (close_layer c) = unless (own_fault depth o (close_layer c)) 0 ∷ []
own_answers depth o (raise_layer c) = []
own_answers depth o (lower_layer c) = []
own_answers depth o (move_layer c x y) = []
own_answers depth o (fill_layer c rule v x y w h) =
    unless (own_fault depth o (fill_layer c rule v x y w h)) (bitmap_value (or_blank depth o) (fill_with rule v x y w h)) ∷ []
own_answers depth o (scroll_layer c t) = unless (own_fault depth o (scroll_layer c t)) (bitmap_value (or_blank depth o) (scroll_by t)) ∷ []
own_answers depth o (stamp_layer c t source) =
    unless (own_fault depth o (stamp_layer c t source)) (count t (from_picture source) (sizes (or_blank depth o))) ∷ []
own_answers depth o (read_layer c x y) = unless (own_fault depth o (read_layer c x y)) (bitmap_value (or_blank depth o) (read_at x y)) ∷ []

-- The client's pixels after a call of its own; of an open it is told whether it was accepted.
abbrev pub own_next : ℕ → Option Picture → Call → Bool → Option Picture
own_next depth o (open_layer c x y w h) b = cond b (or_else o (Some (blank w h depth))) o
own_next depth o (close_layer c) b = if_refused (own_fault depth o (close_layer c)) o None
own_next depth o (raise_layer c) b = o
own_next depth o (lower_layer c) b = o
own_next depth o (move_layer c x y) b = o
own_next depth o (fill_layer c rule v x y w h) b =
    if_refused (own_fault depth o (fill_layer c rule v x y w h)) o (repainted o (bitmap_change (or_blank depth o) (fill_with rule v x y w h)))
own_next depth o (scroll_layer c t) b =
    if_refused (own_fault depth o (scroll_layer c t)) o (repainted o (bitmap_change (or_blank depth o) (scroll_by t)))
own_next depth o (stamp_layer c t source) b =
    if_refused (own_fault depth o (stamp_layer c t source)) o (repainted o (blt t (from_picture source) (or_blank depth o)))
own_next depth o (read_layer c x y) b = o

-- ── By the fault of a call ──

-- What holds of the desk before a call, and of the desk that it leaves if it is accepted, holds after it.
pub after_either : (P : Desk → Type 0) (d : Desk) (call : Call) → P d → (fault_of d call ≡ None → P (change d call)) → P (after d call)
unfolding after
after_either P d call before then = go (fault_of d call) refl
  where
    go : (f : Option DeskFault) → fault_of d call ≡ f → P (if_refused f d (change d call))
    go (Some f) e = before
    go None e = then e

module _ (d : Desk) (call : Call) where
  pub answer_refused : (f : DeskFault) → fault_of d call ≡ Some f → answer d call ≡ Err f
  unfolding answer
  answer_refused f e = ap (λ o. unless o (accepted_value d call)) e

  pub after_refused : (f : DeskFault) → fault_of d call ≡ Some f → after d call ≡ d
  unfolding after
  after_refused f e = ap (λ o. if_refused o d (change d call)) e

  pub answer_accepted : fault_of d call ≡ None → answer d call ≡ Ok (accepted_value d call)
  unfolding answer
  answer_accepted e = ap (λ o. unless o (accepted_value d call)) e

  pub after_accepted : fault_of d call ≡ None → after d call ≡ change d call
  unfolding after
  after_accepted e = ap (λ o. if_refused o d (change d call)) e

-- A part of the desk that an accepted call leaves alone is left alone by every call.
pub stay_by : {A : Type 0} (g : Desk → A) (d : Desk) (call : Call) → g (change d call) ≡ g d → g (after d call) ≡ g d
stay_by g d call h = after_either (λ e. g e ≡ g d) d call refl (λ _. h)

-- a part of one of two values
part_by : {A B F : Type 0} (g : A → B) (f : Option F) (a b : A) → g (if_refused f a b) ≡ if_refused f (g a) (g b)
part_by g (Some f) a b = refl
part_by g None a b = refl

accepted_by : {A : Type 0} (n : ℕ) (f : Option DeskFault) (a b : A) → if_refused f a b ≡ cond (accepted (unless f n)) b a
accepted_by n (Some f) a b = refl
accepted_by n None a b = refl

-- ── A call of the client's own ──

pub answers_are : (d : Desk) (call : Call) → if_drawing call (answer d call) ≡ own_answers d.size.depth (pixels_of (client_of call) d.layers) call
unfolding answer
answers_are d (open_layer c x y w h) = refl
answers_are d (close_layer c) = refl
answers_are d (raise_layer c) = refl
answers_are d (lower_layer c) = refl
answers_are d (move_layer c x y) = refl
answers_are d (fill_layer c rule v x y w h) = refl
answers_are d (scroll_layer c t) = refl
answers_are d (stamp_layer c t source) = refl
answers_are d (read_layer c x y) = refl

abbrev seen_by : ℕ → Desk → Option Picture
seen_by c d = pixels_of c d.layers

-- a change of the client's own pixels
paint_by : (c : ℕ) (d : Desk) (f : Option DeskFault) (p : Picture) → seen_by c (if_refused f d (repaint c p d)) ≡ if_refused f (seen_by c d) (repainted (seen_by c d) p)
paint_by c d f p = part_by (seen_by c) f d (repaint c p d) ∙ ap (if_refused f (seen_by c d)) (paint_same c p d.layers)

opened : (c : ℕ) (ls : List Layer) (l : Layer) → l.client ≡ c → pixels_of c (ls ++ (l ∷ [])) ≡ or_else (pixels_of c ls) (Some l.pixels)
opened c ls l e = pixels-++ c ls (l ∷ []) ∙ ap (λ b. or_else (pixels_of c ls) (cond b (Some l.pixels) None)) (eq-eqb l.client c e)

pub next_is : (d : Desk) (call : Call) → pixels_of (client_of call) (after d call).layers ≡ own_next d.size.depth (pixels_of (client_of call) d.layers) call (accepted (answer d call))
unfolding answer after
next_is d (open_layer c x y w h) =
    let f = fault_of d (open_layer c x y w h) in
    let o = pixels_of c d.layers in
    part_by (seen_by c) f d (change d (open_layer c x y w h))
    ∙ ap (if_refused f o) (opened c d.layers (new_layer d.size.depth c x y w h) refl)
    ∙ accepted_by 0 f o (or_else o (Some (blank w h d.size.depth)))
next_is d (close_layer c) =
    part_by (seen_by c) (fault_of d (close_layer c)) d (change d (close_layer c))
    ∙ ap (if_refused (fault_of d (close_layer c)) (pixels_of c d.layers)) (without_same c d.layers)
next_is d (raise_layer c) = stay_by (seen_by c) d (raise_layer c) (raised_any c c d.layers)
next_is d (lower_layer c) = stay_by (seen_by c) d (lower_layer c) (lowered_any c c d.layers)
next_is d (move_layer c x y) = stay_by (seen_by c) d (move_layer c x y) (place_any c c x y d.layers)
next_is d (fill_layer c rule v x y w h) = paint_by c d (fault_of d (fill_layer c rule v x y w h)) (bitmap_change (pane c d) (fill_with rule v x y w h))
next_is d (scroll_layer c t) = paint_by c d (fault_of d (scroll_layer c t)) (bitmap_change (pane c d) (scroll_by t))
next_is d (stamp_layer c t source) = paint_by c d (fault_of d (stamp_layer c t source)) (blt t (from_picture source) (pane c d))
next_is d (read_layer c x y) = stay_by (seen_by c) d (read_layer c x y) refl

-- ── A call of another client ──

other_change : (c : ℕ) (d : Desk) (call : Call) → eqb (client_of call) c ≡ false → pixels_of c (change d call).layers ≡ pixels_of c d.layers
other_change c d (open_layer a x y w h) n =
    pixels-++ c d.layers _
    ∙ ap (λ b. or_else (pixels_of c d.layers) (cond b (Some (blank w h d.size.depth)) None)) n
    ∙ or_else_none (pixels_of c d.layers)
other_change c d (close_layer a) n = without_other a c d.layers n
other_change c d (raise_layer a) n = raised_any a c d.layers
other_change c d (lower_layer a) n = lowered_any a c d.layers
other_change c d (move_layer a x y) n = place_any a c x y d.layers
other_change c d (fill_layer a rule v x y w h) n = paint_other a c _ d.layers n
other_change c d (scroll_layer a t) n = paint_other a c _ d.layers n
other_change c d (stamp_layer a t source) n = paint_other a c _ d.layers n
other_change c d (read_layer a x y) n = refl

pub other_stays : (c : ℕ) (d : Desk) (call : Call) → eqb (client_of call) c ≡ false → pixels_of c (after d call).layers ≡ pixels_of c d.layers
other_stays c d call n = stay_by (seen_by c) d call (other_change c d call n)

-- ── What no call changes ──

-- a part of the desk that does not depend on its layers
fixed_part : {A : Type 0} (g : Desk → A) → ((d : Desk) (ls : List Layer) → g (with_layers d ls) ≡ g d) → (d : Desk) (call : Call) → g (change d call) ≡ g d
fixed_part g h d (open_layer a x y w k) = h d _
fixed_part g h d (close_layer a) = h d _
fixed_part g h d (raise_layer a) = h d _
fixed_part g h d (lower_layer a) = h d _
fixed_part g h d (move_layer a x y) = h d _
fixed_part g h d (fill_layer a rule v x y w k) = h d _
fixed_part g h d (scroll_layer a t) = h d _
fixed_part g h d (stamp_layer a t source) = h d _
fixed_part g h d (read_layer a x y) = refl

pub size_stays : (d : Desk) (call : Call) → (after d call).size ≡ d.size
size_stays d call = stay_by (λ e. e.size) d call (fixed_part (λ e. e.size) (λ e ls. refl) d call)

pub slots_stay : (d : Desk) (call : Call) → (after d call).slots ≡ d.slots
slots_stay d call = stay_by (λ e. e.slots) d call (fixed_part (λ e. e.slots) (λ e ls. refl) d call)
