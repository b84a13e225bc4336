-- What the loops that paint a blit stand on.
use Rattle.std.proofs.Common.{◌≡◌, ℕ}
use Rattle.raster.specs.Picture.{Picture}
use Rattle.raster.specs.Blits.{performed}
use Rattle.raster.specs.declared.blit.Blit.{Blit}
use Rattle.raster.proofs.Paints.{row_painted, row_so_far, row_none, row_more, row_all, rows_so_far, rows_none, rows_more, rows_all}
use Rattle.planes.specs.Keep.{planes_same, planes_joins}

pub row_done : (b : Blit) (y sy i : ℕ) (p : Picture) → i ≡ b.columns.len → row_so_far b y sy i p ≡ row_painted b y sy p
row_done b y sy i p e = rw e (row_all b y sy p)

pub rows_done : (b : Blit) (j : ℕ) (p : Picture) → j ≡ b.rows.len → rows_so_far b j p ≡ performed b p
rows_done b j p e = rw e (rows_all b p)

pub ruleset painting = (row_none, row_more, row_done, rows_none, rows_more, rows_done, planes_same, planes_joins)
