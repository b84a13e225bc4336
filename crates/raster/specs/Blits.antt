-- A call of BitBlt that is checked and clipped: what is left to paint, and that painting it is the call.
use Rattle.std.specs.Prelude.{◌≡◌, ℕ, ◌+◌, ◌-◌, ◌*◌, ◌≤◌, Bool, cond, ◌&&◌, Some, None, Ok, Err, Result, nat_le, nat_lt}
use Rattle.raster.specs.Rules.{combined}
use Rattle.raster.specs.Picture.{Picture, sizes, painted}
use Rattle.raster.specs.Calls.{BitmapCall, bitmap_fault, bitmap_value, bitmap_change, row_concerned}
use Rattle.raster.specs.declared.fault.Fault.{Fault}
use Rattle.raster.specs.declared.size.Size.{Size}
use Rattle.raster.specs.declared.ink.Ink.{Ink}
use Rattle.raster.specs.declared.ink.Ink.TheVariants.{Value, Itself}
use Rattle.raster.specs.declared.span.Span.{Span}
use Rattle.raster.specs.declared.blit.Blit.{Blit}

-- x is one of the n numbers from first
abbrev pub between : (first n x : ℕ) → Bool
between first n x = nat_le first x && nat_lt x (first + n)

-- x is a destination coordinate of a span
abbrev pub spans : Span → ℕ → Bool
spans s x = between s.first s.len x

-- the source coordinate of a destination coordinate of a span
abbrev pub opposite : Span → ℕ → ℕ
opposite s x = x - s.first + s.source

-- The order in which a span is painted: from its end where it moves onward, so that nothing is read after it is painted.
abbrev pub turn : Span → ℕ → ℕ
turn s i = cond (nat_lt s.source s.first) (s.len - 1 - i) i

-- the source pixel of an ink
abbrev pub inked : Ink → Picture → ℕ → ℕ → ℕ
inked (Value v) p x y = v
inked Itself p x y = p.at x y

-- A pixel painted at (x, y) from the source row sy.
abbrev pub mixed : Blit → Picture → (sy x y : ℕ) → ℕ
mixed b p sy x y = combined p.depth b.rule.number (inked b.ink p (opposite b.columns x) sy) (p.at x y)

-- The picture after a blit: each pixel in its columns and rows is the rule's result of both pixels as they were before.
unfoldable pub performed : Blit → Picture → Picture
performed b p = painted p (λ x y. spans b.columns x && spans b.rows y) (λ x y. mixed b p (opposite b.rows y) x y)

-- Both the pixels that a span paints and those that it reads are below a limit.
pub record Below (limit : ℕ) (s : Span) : Type 0 where
  pub paints : s.first + s.len ≤ limit
  pub reads : s.source + s.len ≤ limit

-- Performing the blit is the call, on every picture of a size.
pub record Performs (size : Size) (call : BitmapCall) (b : Blit) : Type 0 where
  pub accepted : bitmap_fault size call ≡ None
  pub columns : Below size.width b.columns
  pub rows : Below size.height b.rows
  pub leaves : (p : Picture) → sizes p ≡ size → performed b p ≡ bitmap_change p call
  pub counts : (p : Picture) → sizes p ≡ size → b.rows.len * b.columns.len ≡ bitmap_value p call
  pub touches : (p : Picture) → sizes p ≡ size → (y : ℕ) → (spans b.rows y && nat_lt 0 b.columns.len) ≡ row_concerned p call y

-- A call is refused with its fault, or the blit is given that performs it.
abbrev pub Prepares : Size → BitmapCall → Result Blit Fault → Type 0
Prepares size call (Err f) = bitmap_fault size call ≡ Some f
Prepares size call (Ok b) = Performs size call b
