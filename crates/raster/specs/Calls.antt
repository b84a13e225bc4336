-- The calls of a bitmap: what each answers, and the picture that it leaves.
use Rattle.std.specs.Prelude.{◌≡◌, ℕ, zero, suc, ◌^◌, Bool, false, cond, not, ◌&&◌, ◌||◌, List, [], ◌∷◌, ℤ, pos, Some, None, Ok, Err, Option, Result, ◌==◌, nat_le, nat_lt, unsigned_abs}
use Rattle.raster.specs.Picture.{Picture, sizes, with_pixel}
use Rattle.raster.specs.Blt.{transfer, from_picture, everywhere, inside, concerned, count, blt}
use Rattle.raster.specs.declared.transfer.Transfer.{Transfer}
use Rattle.raster.specs.declared.refusal.Refusal.{Refusal}
use Rattle.raster.specs.declared.refusal.Refusal.TheVariants.{RuleAboveFifteen, ValueTooLarge, OutsideBitmap}
use Rattle.raster.specs.declared.fault.Fault.{Fault}
use Rattle.raster.specs.declared.size.Size.{Size}

-- The calls with their arguments; `size` is never refused and has none.
pub data BitmapCall : Type 0 where
  read_at : (x y : ℤ) → BitmapCall
  write_at : (x y : ℤ) (value : ℕ) → BitmapCall
  fill_with : (rule value : ℕ) (x y : ℤ) (w h : ℕ) → BitmapCall
  scroll_by : Transfer → BitmapCall

-- ── Refusals ──

-- A check answers a fault where its test holds.
abbrev pub refuse_if : {F : Type 0} → Bool → F → Option F
refuse_if fails fault = cond fails (Some fault) None

-- The first fault among some checks.
abbrev pub first_fault : {F : Type 0} → List (Option F) → Option F
first_fault [] = None
first_fault (Some f ∷ checks) = Some f
first_fault (None ∷ checks) = first_fault checks

abbrev pub fault : Refusal → ℤ → ℤ → Fault
fault why x y = record { refusal = why; x = x; y = y }

abbrev pub rule_check : ℕ → Option Fault
rule_check rule = refuse_if (nat_lt 15 rule) (fault RuleAboveFifteen (pos 0) (pos 0))

abbrev pub value_check : Size → ℕ → ℤ → ℤ → Option Fault
value_check s value x y = refuse_if (nat_le (2 ^ s.depth) value) (fault ValueTooLarge x y)

abbrev pub place_check : Size → ℤ → ℤ → Option Fault
place_check s x y = refuse_if (not (inside s x y)) (fault OutsideBitmap x y)

-- The checks of a call, in the order of their numbers.
abbrev pub bitmap_checks : Size → BitmapCall → List (Option Fault)
bitmap_checks s (read_at x y) = place_check s x y ∷ []
bitmap_checks s (write_at x y value) = value_check s value x y ∷ place_check s x y ∷ []
bitmap_checks s (fill_with rule value x y w h) = rule_check rule ∷ value_check s value (pos 0) (pos 0) ∷ []
bitmap_checks s (scroll_by t) = rule_check t.rule ∷ []

unfoldable pub bitmap_fault : Size → BitmapCall → Option Fault
bitmap_fault s call = first_fault (bitmap_checks s call)

-- ── Accepted calls ──

-- Fill is BitBlt from a source that has the value everywhere; so its source corner does not matter.
abbrev pub fill_transfer : (rule : ℕ) (x y : ℤ) (w h : ℕ) → Transfer
fill_transfer rule x y w h = transfer rule (pos 0) (pos 0) x y w h

-- What an accepted call answers.
abbrev pub bitmap_value : Picture → BitmapCall → ℕ
bitmap_value p (read_at x y) = p.at (unsigned_abs x) (unsigned_abs y)
bitmap_value p (write_at x y value) = 0
bitmap_value p (fill_with rule value x y w h) = count (fill_transfer rule x y w h) (everywhere value) (sizes p)
bitmap_value p (scroll_by t) = count t (from_picture p) (sizes p)

-- The picture that an accepted call leaves.
abbrev pub bitmap_change : Picture → BitmapCall → Picture
bitmap_change p (read_at x y) = p
bitmap_change p (write_at x y value) = with_pixel p (unsigned_abs x) (unsigned_abs y) value
bitmap_change p (fill_with rule value x y w h) = blt (fill_transfer rule x y w h) (everywhere value) p
bitmap_change p (scroll_by t) = blt t (from_picture p) p

-- ── Every call ──

-- A value, unless there is a fault.
abbrev pub unless : {A F : Type 0} → Option F → A → Result A F
unless (Some f) a = Err f
unless None a = Ok a

-- One of two values, by whether there is a fault.
abbrev pub if_refused : {A F : Type 0} → Option F → (refused accepted : A) → A
if_refused (Some f) a b = a
if_refused None a b = b

-- What a call answers, and the picture that it leaves: as before, if it is refused.
unfoldable pub bitmap_answer : Picture → BitmapCall → Result ℕ Fault
bitmap_answer p call = unless (bitmap_fault (sizes p) call) (bitmap_value p call)

unfoldable pub bitmap_after : Picture → BitmapCall → Picture
bitmap_after p call = if_refused (bitmap_fault (sizes p) call) p (bitmap_change p call)

-- Where a call was refused, what it was made on is the very same value as before.
abbrev pub Unaltered : {A F X : Type 0} → Result A F → (before after : X) → Type 0
Unaltered (Ok a) before after = Unit {0}
Unaltered (Err f) before after = after ≡ before

-- What a call that may change a bitmap does, for any kind of bitmap: it answers and leaves what the call on its picture does, what is no
-- pixel stays (`keeps`), and a refused call leaves the very same value.
pub record Called {B : Type 0} (picture : B → Picture) (keeps : B → B → Type 0) (old : B) (call : BitmapCall) (result : Result ℕ Fault) (new : B) : Type 0 where
  pub answer : result ≡ bitmap_answer (picture old) call
  pub after : picture new ≡ bitmap_after (picture old) call
  pub rest : keeps old new
  pub refused : Unaltered result old new

-- ── Rows ──

-- The pixel (a, b) is concerned by a call, if it is accepted.
abbrev pub concerns : Picture → BitmapCall → ℕ → ℕ → Bool
concerns p (read_at x y) a b = false
concerns p (write_at x y value) a b = a == unsigned_abs x && b == unsigned_abs y
concerns p (fill_with rule value x y w h) a b = concerned (fill_transfer rule x y w h) (everywhere value) (sizes p) a b
concerns p (scroll_by t) a b = concerned t (from_picture p) (sizes p) a b

-- one of the numbers below n passes a test
abbrev pub any_below : (ℕ → Bool) → ℕ → Bool
any_below f zero = false
any_below f (suc n) = any_below f n || f n

-- Row b has a pixel that the call concerns; a refused call concerns none.
unfoldable pub row_concerned : Picture → BitmapCall → ℕ → Bool
row_concerned p call b = if_refused (bitmap_fault (sizes p) call) false (any_below (λ a. concerns p call a b) p.width)
