use Rattle.std.proofs.Common.{◌≡◌}
use Rattle.raster.proofs.Paints.{rows_so_far, so_far}
use Rattle.runrows.specs.Means.{picture_of, RowsRewritten}
use Rattle.runrows.proofs.runrows.RunRows.paint.Given as goal

abbrev pub invariant-loop-j : goal.invariant-loop-j
invariant-loop-j l =
    record {
      after : picture_of l.self ≡ rows_so_far l.blit l.j (picture_of l.initial.self);
      rest : RowsRewritten (so_far l.blit.rows l.j) l.initial.self l.self;
    }
