-- When a painting lies in an open layer.
use Rattle.std.specs.Prelude.{◌≡◌, ℕ, ◌+◌, ◌<◌, ◌≤◌, true}
use Rattle.raster.specs.Blits.{Below}
use Rattle.raster.specs.declared.blit.Blit.{Blit}
use Rattle.raster.specs.declared.span.Span.{Span}
use Rattle.plan.specs.declared.plan.Plan.{Plan}
use Rattle.plan.specs.Frames.{has}
use Rattle.plan.specs.Plans.{listed, frame_in}

-- A blit paints and reads only pixels of the client's open layer.
pub record BlitWithin (p : Plan) (c : ℕ) (b : Blit) : Type 0 where
  pub opened : has c (listed p) ≡ true
  pub columns : Below (frame_in p c).w b.columns
  pub rows : Below (frame_in p c).h b.rows

-- Columns and rows paint only pixels of the client's open layer, and read below 1024, which no bitmap exceeds.
pub record Within (p : Plan) (c : ℕ) (columns rows : Span) : Type 0 where
  pub opened : has c (listed p) ≡ true
  pub across : columns.first + columns.len ≤ (frame_in p c).w
  pub wide : columns.source + columns.len ≤ 1024
  pub down : rows.first + rows.len ≤ (frame_in p c).h
  pub high : rows.source + rows.len ≤ 1024

-- The same of the columns in one row y.
pub record RowWithin (p : Plan) (c : ℕ) (columns : Span) (y : ℕ) : Type 0 where
  pub opened : has c (listed p) ≡ true
  pub across : columns.first + columns.len ≤ (frame_in p c).w
  pub wide : columns.source + columns.len ≤ 1024
  pub down : y < (frame_in p c).h
