-- Bitmaps in lists: the size that is asked for, and how many rows a list carries.
use Rattle.std.specs.Prelude.{ℕ, ◌/◌, min, max, cond, ◌==◌}
use Rattle.raster.specs.declared.size.Size.{Size}

-- A size, cut to 1,024 by 1,024, its depth brought into 1 to 4.
abbrev pub capped : (w h depth : ℕ) → Size
capped w h depth = record { width = min w 1024; height = min h 1024; depth = max 1 (min depth 4) }

-- A height h, cut to what n entries carry, where each row takes `row` of them. Any list carries every height of rows without entries.
abbrev pub rows_carried : (n row h : ℕ) → ℕ
rows_carried n row h = cond (row == 0) h (min h (n / row))
