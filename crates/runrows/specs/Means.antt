-- What run rows mean, and what of them is no pixel.
use Rattle.std.specs.Prelude.{◌≡◌, ℕ, ◌<◌, Bool, cond, ◌&&◌, List, length, Result, ◌==◌, nat_lt, slice_index, vec_items}
use Rattle.raster.specs.Rules.{combined}
use Rattle.raster.specs.Picture.{Picture, painted}
use Rattle.raster.specs.Blits.{spans, opposite}
use Rattle.raster.specs.Calls.{BitmapCall, row_concerned, Called}
use Rattle.raster.specs.declared.fault.Fault.{Fault}
use Rattle.raster.specs.declared.span.Span.{Span}
use Rattle.runrows.specs.Runs.{run_rows, Rewritten}
use Rattle.runrows.specs.declared.runrows.RunRows.{RunRows}

-- the list that run rows were made on, as it stands
abbrev pub entries_of : RunRows → List ℕ
entries_of p = vec_items p.entries

abbrev pub picture_of : RunRows → Picture
picture_of p = run_rows (entries_of p) p.size

-- The picture with other pixels in row y.
abbrev pub with_row : Picture → (y : ℕ) → List ℕ → Picture
with_row p y pixels = painted p (λ a b. nat_lt a p.width && b == y) (λ a _. slice_index pixels a)

-- In a row of pixels, those of a span are the rule's result of a source row's pixels and their own; the others stay.
abbrev pub Blended : (depth rule : ℕ) → Span → (source before after : List ℕ) → Type 0
Blended depth rule columns source before after =
    (k : ℕ) → k < length after
    → slice_index after k ≡ cond (spans columns k) (combined depth rule (slice_index source (opposite columns k)) (slice_index before k)) (slice_index before k)

-- The size is the same, the rows that a test picks stand in their one writing, and all other entries stay.
pub record RowsRewritten (touched : ℕ → Bool) (p q : RunRows) : Type 0 where
  pub size : q.size ≡ p.size
  pub entries : Rewritten p.size touched (entries_of p) (entries_of q)

-- The size is the same, each row is as it was or in its one writing, and all entries past the rows stay.
abbrev pub RowsKept : RunRows → RunRows → Type 0
RowsKept p q = (touched : ℕ → Bool) × RowsRewritten touched p q

-- What a call does: what every bitmap promises, and each row with a pixel concerned stands in its one writing, and all other entries stay.
pub record RowsCalled (old : RunRows) (call : BitmapCall) (result : Result ℕ Fault) (new : RunRows) : Type 0 where
  pub called : Called picture_of RowsKept old call result new
  pub entries : RowsRewritten (row_concerned (picture_of old) call) old new
