-- Runs: lists of calls to one desk, with the answer of each and what stands after it.
use Rattle.std.specs.Prelude.{◌≡◌, ℕ, zero, suc, ◌<◌, Bool, true, false, cond, List, [], ◌∷◌, ◌++◌, Ok, Err, Option, ◌==◌}
use Rattle.raster.specs.Picture.{Picture}
use Rattle.raster.specs.declared.transfer.Transfer.{Transfer}
use Rattle.raster.specs.declared.size.Size.{Size}
use Rattle.paper.specs.Layers.{Desk, Layer, new_desk, blank, pixels_of, screen_after}
use Rattle.paper.specs.Slots.{hidden_count}
use Rattle.paper.specs.Desk.{Call, open_layer, close_layer, raise_layer, lower_layer, move_layer, fill_layer, scroll_layer, stamp_layer, read_layer, client_of, Answer, answer, after}

-- What stands: the desk on paper, the pixels in its screen bitmap, and the slots in use.
pub record State : Type 0 where
  pub paper : Desk
  pub screen : Picture
  pub used : ℕ

-- A new desk: no layers, and the screen is all 0.
abbrev pub new_state : Size → (slots : ℕ) → State
new_state size slots =
    record { paper = new_desk size slots; screen = blank size.width size.height size.depth; used = 0 }

-- The desk on paper becomes d: screen and slots in use follow from that and from what stood before.
pub record Becomes (s : State) (d : Desk) (s' : State) : Type 0 where
  pub paper : s'.paper ≡ d
  pub screen : s'.screen ≡ screen_after s.screen s.paper s'.paper
  pub used : s'.used ≡ hidden_count s'.paper

-- What a call to a desk promises: its answer, and what it leaves.
pub record Does (s : State) (call : Call) (got : Answer) (s' : State) : Type 0 where
  pub answers : got ≡ answer s.paper call
  pub leaves : Becomes s (after s.paper call) s'

-- What happens, as one desk sees it: a call to it that gets an answer, or something elsewhere in its house.
pub data Event : Type 0 where
  called : Call → Answer → Event
  elsewhere : Event

-- An event, and what stands after it.
pub record Step : Type 0 where
  pub event : Event
  pub stands : State

-- What stands after the first n of some steps, and after all of them.
abbrev pub state_after : ℕ → State → List Step → State
state_after zero s steps = s
state_after (suc n) s [] = s
state_after (suc n) s (m ∷ steps) = state_after n m.stands steps

abbrev pub end_of : State → List Step → State
end_of s [] = s
end_of s (m ∷ steps) = end_of m.stands steps

-- A run of a desk: its calls one after the other, accepted or refused, from what stands.
pub data Run : State → List Step → Type 0 where
  ends : {s : State} → Run s []
  calls : {s s' : State} {call : Call} {got : Answer} {steps : List Step} → Does s call got s' → Run s' steps
      → Run s (record { event = called call got; stands = s' } ∷ steps)

-- The calls of a run.
abbrev pub call_in : Event → List Call
call_in (called call got) = call ∷ []
call_in elsewhere = []

abbrev pub calls_in : List Step → List Call
calls_in [] = []
calls_in (m ∷ steps) = call_in m.event ++ calls_in steps

-- ── A client's part in a run ──

-- The client's calls, in order.
abbrev pub own_call : ℕ → Event → List Call
own_call c (called call got) = cond (client_of call == c) (call ∷ []) []
own_call c elsewhere = []

abbrev pub calls_of : ℕ → List Step → List Call
calls_of c [] = []
calls_of c (m ∷ steps) = own_call c m.event ++ calls_of c steps

abbrev pub accepted : Answer → Bool
accepted (Ok n) = true
accepted (Err f) = false

-- Of each open of the client whether it was accepted, in order.
abbrev pub if_open : Call → Answer → List Bool
if_open (open_layer c x y w h) got = accepted got ∷ []
if_open (close_layer c) got = []
if_open (raise_layer c) got = []
if_open (lower_layer c) got = []
if_open (move_layer c x y) got = []
if_open (fill_layer c rule v x y w h) got = []
if_open (scroll_layer c t) got = []
if_open (stamp_layer c t source) got = []
if_open (read_layer c x y) got = []

abbrev pub own_open : ℕ → Event → List Bool
own_open c (called call got) = cond (client_of call == c) (if_open call got) []
own_open c elsewhere = []

abbrev pub opens_of : ℕ → List Step → List Bool
opens_of c [] = []
opens_of c (m ∷ steps) = own_open c m.event ++ opens_of c steps

-- The answers of the client's fills, scrolls, stamps, reads and closes, in order.
abbrev pub if_drawing : Call → Answer → List Answer
if_drawing (open_layer c x y w h) got = []
if_drawing (close_layer c) got = got ∷ []
if_drawing (raise_layer c) got = []
if_drawing (lower_layer c) got = []
if_drawing (move_layer c x y) got = []
if_drawing (fill_layer c rule v x y w h) got = got ∷ []
if_drawing (scroll_layer c t) got = got ∷ []
if_drawing (stamp_layer c t source) got = got ∷ []
if_drawing (read_layer c x y) got = got ∷ []

abbrev pub own_answer : ℕ → Event → List Answer
own_answer c (called call got) = cond (client_of call == c) (if_drawing call got) []
own_answer c elsewhere = []

abbrev pub answers_of : ℕ → List Step → List Answer
answers_of c [] = []
answers_of c (m ∷ steps) = own_answer c m.event ++ answers_of c steps

-- The client's layer as it stands: none, or its size and pixels.
abbrev pub layer_of : ℕ → State → Option Picture
layer_of c s = pixels_of c s.paper.layers

-- ── The same in two runs ──

-- Two pictures agree in size, in depth and at every pixel that they have.
pub record SamePicture (p q : Picture) : Type 0 where
  pub width : p.width ≡ q.width
  pub height : p.height ≡ q.height
  pub depth : p.depth ≡ q.depth
  pub pixels : (x y : ℕ) → x < p.width → y < p.height → p.at x y ≡ q.at x y

-- The same call: equal kind and arguments, a stamp's source with equal size, depth and pixels.
pub data SameCall : Call → Call → Type 0 where
  equal : {call : Call} → SameCall call call
  equal_stamp : {c : ℕ} {t : Transfer} {p q : Picture} → SamePicture p q → SameCall (stamp_layer c t p) (stamp_layer c t q)

-- The same layer: equal client, corner, size and pixels.
pub record SameLayer (l m : Layer) : Type 0 where
  pub client : l.client ≡ m.client
  pub x : l.x ≡ m.x
  pub y : l.y ≡ m.y
  pub pixels : SamePicture l.pixels m.pixels

-- Two lists agree from the first to the last.
pub data Alike {A : Type 0} (R : A → A → Type 0) : List A → List A → Type 0 where
  none : Alike R [] []
  more : {x y : A} {xs ys : List A} → R x y → Alike R xs ys → Alike R (x ∷ xs) (y ∷ ys)
