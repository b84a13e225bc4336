use Rattle.std.proofs.Common.{◌≡◌}
use Rattle.raster.proofs.Paints.{row_so_far}
use Rattle.planes.specs.Means.{picture_of, PlanesKept}
use Rattle.planes.proofs.planes.Planes.paint_row.Given as goal

abbrev pub invariant-loop-i : goal.invariant-loop-i
invariant-loop-i l =
    record { after : picture_of l.self ≡ row_so_far l.blit l.y l.sy l.i (picture_of l.initial.self); rest : PlanesKept l.initial.self l.self }
