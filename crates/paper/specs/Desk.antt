-- The calls of a desk on paper: what each answers, when it is refused, and the desk that it leaves.
use Rattle.std.specs.Prelude.{ℕ, Bool, false, not, ◌||◌, List, [], ◌∷◌, ◌++◌, ℤ, Some, None, Option, Result, ◌==◌, nat_eq, nat_lt}
use Rattle.raster.specs.Picture.{Picture, sizes}
use Rattle.raster.specs.Blt.{from_picture, inside, count, blt}
use Rattle.raster.specs.declared.transfer.Transfer.{Transfer}
use Rattle.raster.specs.Calls.{BitmapCall, read_at, fill_with, scroll_by, refuse_if, first_fault, unless, if_refused, bitmap_fault, bitmap_value, bitmap_change}
use Rattle.raster.specs.declared.refusal.Refusal.{Refusal}
use Rattle.raster.specs.declared.refusal.Refusal.TheVariants.{ClientAboveSeven, NotOpen, AlreadyOpen, OpenBeyondSize, RuleAboveFifteen, ValueTooLarge, OutsideBitmap, TooFewSlots}
use Rattle.raster.specs.declared.fault.Fault.{Fault}
use Rattle.paper.specs.declared.DeskFault.{DeskFault}
use Rattle.paper.specs.Layers.{Desk, Layer, with_layers, blank, topmost, is_open, pane, only, without, alter, with_pixels, at_corner}
use Rattle.paper.specs.Slots.{hidden_count, slots_needed}

-- The calls with their arguments. A transfer has the rule, both corners and the size of a BitBlt.
pub data Call : Type 0 where
  open_layer : (client : ℕ) (x y : ℤ) (w h : ℕ) → Call
  close_layer : (client : ℕ) → Call
  raise_layer : (client : ℕ) → Call
  lower_layer : (client : ℕ) → Call
  move_layer : (client : ℕ) (x y : ℤ) → Call
  fill_layer : (client rule value : ℕ) (x y : ℤ) (w h : ℕ) → Call
  scroll_layer : (client : ℕ) → Transfer → Call
  stamp_layer : (client : ℕ) → Transfer → (source : Picture) → Call
  read_layer : (client : ℕ) (x y : ℤ) → Call

-- The client that a call names.
abbrev pub client_of : Call → ℕ
client_of (open_layer c x y w h) = c
client_of (close_layer c) = c
client_of (raise_layer c) = c
client_of (lower_layer c) = c
client_of (move_layer c x y) = c
client_of (fill_layer c rule v x y w h) = c
client_of (scroll_layer c t) = c
client_of (stamp_layer c t source) = c
client_of (read_layer c x y) = c

-- ── Accepted calls ──

-- A desk with other pixels in a client's layer.
abbrev pub repaint : ℕ → Picture → Desk → Desk
repaint c p d = with_layers d (alter c (with_pixels p) d.layers)

-- A layer of zeros.
abbrev pub new_layer : (depth client : ℕ) (x y : ℤ) (w h : ℕ) → Layer
new_layer depth c x y w h = record { client = c; x = x; y = y; pixels = blank w h depth }

-- The desk that an accepted call leaves.
abbrev pub change : Desk → Call → Desk
change d (open_layer c x y w h) = with_layers d (d.layers ++ (new_layer d.size.depth c x y w h ∷ []))
change d (close_layer c) = with_layers d (without c d.layers)
change d (raise_layer c) = with_layers d (without c d.layers ++ only c d.layers)
change d (lower_layer c) = with_layers d (only c d.layers ++ without c d.layers)
change d (move_layer c x y) = with_layers d (alter c (at_corner x y) d.layers)
change d (fill_layer c rule v x y w h) = repaint c (bitmap_change (pane c d) (fill_with rule v x y w h)) d
change d (scroll_layer c t) = repaint c (bitmap_change (pane c d) (scroll_by t)) d
change d (stamp_layer c t source) = repaint c (blt t (from_picture source) (pane c d)) d
change d (read_layer c x y) = d

-- What an accepted call answers.
abbrev pub accepted_value : Desk → Call → ℕ
accepted_value d (open_layer c x y w h) = 0
accepted_value d (close_layer c) = 0
accepted_value d (raise_layer c) = 0
accepted_value d (lower_layer c) = 0
accepted_value d (move_layer c x y) = 0
accepted_value d (fill_layer c rule v x y w h) = bitmap_value (pane c d) (fill_with rule v x y w h)
accepted_value d (scroll_layer c t) = bitmap_value (pane c d) (scroll_by t)
accepted_value d (stamp_layer c t source) = count t (from_picture source) (sizes (pane c d))
accepted_value d (read_layer c x y) = bitmap_value (pane c d) (read_at x y)

-- ── Refusals ──

-- A fault of the desk's own, without a bitmap's fault: of a call that names a client, and of one that names none.
abbrev pub because : Refusal → (client : ℕ) → DeskFault
because why c = record { refusal = why; client = Some c; bitmap = None }

abbrev pub unnamed : Refusal → DeskFault
unnamed why = record { refusal = why; client = None; bitmap = None }

-- The number that a fault reports for its client: 255 if it has none.
abbrev pub number_of : Option ℕ → ℕ
number_of (Some c) = c
number_of None = 255

abbrev pub client_number : DeskFault → ℕ
client_number f = number_of f.client

-- A bitmap's fault, carried whole.
abbrev pub carried : (client : ℕ) → Option Fault → Option DeskFault
carried c (Some f) = Some (record { refusal = f.refusal; client = Some c; bitmap = Some f })
carried c None = None

abbrev pub no_client : ℕ → Option DeskFault
no_client c = refuse_if (nat_lt 7 c) (because ClientAboveSeven c)

abbrev pub not_open : ℕ → Desk → Option DeskFault
not_open c d = refuse_if (not (is_open c d)) (because NotOpen c)

abbrev pub already_open : ℕ → Desk → Option DeskFault
already_open c d = refuse_if (is_open c d) (because AlreadyOpen c)

-- A layer is 1 to 320 wide and 1 to 240 high.
abbrev pub beyond_size : ℕ → (w h : ℕ) → Option DeskFault
beyond_size c w h = refuse_if (w == 0 || (nat_lt 320 w || (h == 0 || nat_lt 240 h))) (because OpenBeyondSize c)

-- What the client's own bitmap refuses.
abbrev pub own_bitmap : ℕ → Desk → BitmapCall → Option DeskFault
own_bitmap c d call = carried c (bitmap_fault (sizes (pane c d)) call)

abbrev pub no_rule : ℕ → (rule : ℕ) → Option DeskFault
no_rule c rule = refuse_if (nat_lt 15 rule) (because RuleAboveFifteen c)

-- A stamp's source is deeper than the desk.
abbrev pub too_deep : ℕ → Desk → Picture → Option DeskFault
too_deep c d source = refuse_if (nat_lt d.size.depth source.depth) (because ValueTooLarge c)

-- More patches would need a slot than there are slots.
abbrev pub too_few_slots : (also : ℕ → Bool) → Desk → Call → Option DeskFault
too_few_slots also d call = refuse_if (nat_lt d.slots (slots_needed also d (change d call))) (because TooFewSlots (client_of call))

-- The checks of a call, in the order of their numbers. A move needs a slot for every patch of the moved layer.
abbrev pub checks : Desk → Call → List (Option DeskFault)
checks d (open_layer c x y w h) =
    no_client c ∷ already_open c d ∷ beyond_size c w h ∷ too_few_slots (λ _. false) d (open_layer c x y w h) ∷ []
checks d (close_layer c) = no_client c ∷ not_open c d ∷ []
checks d (raise_layer c) = no_client c ∷ not_open c d ∷ too_few_slots (λ _. false) d (raise_layer c) ∷ []
checks d (lower_layer c) = no_client c ∷ not_open c d ∷ too_few_slots (λ _. false) d (lower_layer c) ∷ []
checks d (move_layer c x y) = no_client c ∷ not_open c d ∷ too_few_slots (nat_eq c) d (move_layer c x y) ∷ []
checks d (fill_layer c rule v x y w h) = no_client c ∷ not_open c d ∷ own_bitmap c d (fill_with rule v x y w h) ∷ []
checks d (scroll_layer c t) = no_client c ∷ not_open c d ∷ own_bitmap c d (scroll_by t) ∷ []
checks d (stamp_layer c t source) = no_client c ∷ not_open c d ∷ no_rule c t.rule ∷ too_deep c d source ∷ []
checks d (read_layer c x y) = no_client c ∷ not_open c d ∷ own_bitmap c d (read_at x y) ∷ []

abbrev pub fault_of : Desk → Call → Option DeskFault
fault_of d call = first_fault (checks d call)

-- ── Every call ──

abbrev pub Answer : Type 0
Answer = Result ℕ DeskFault

-- What a call answers, and the desk that it leaves: as before, if it is refused.
unfoldable pub answer : Desk → Call → Answer
answer d call = unless (fault_of d call) (accepted_value d call)

unfoldable pub after : Desk → Call → Desk
after d call = if_refused (fault_of d call) d (change d call)

-- ── Questions, which change nothing ──

abbrev pub client_if : Option Layer → Option ℕ
client_if (Some l) = Some l.client
client_if None = None

-- The client whose layer is topmost at a screen place, or none. Off the screen it is refused; it names no client.
unfoldable pub top_answer : Desk → ℤ → ℤ → Result (Option ℕ) DeskFault
top_answer d x y = unless (refuse_if (not (inside d.size x y)) (unnamed OutsideBitmap)) (client_if (topmost d.layers x y))

-- The slots in use and the slots there are.
abbrev pub slots_answer : Desk → ℕ × ℕ
slots_answer d = (hidden_count d, d.slots)
