use Rattle.std.proofs.Common.{◌≡◌}
use Rattle.raster.proofs.Paints.{rows_so_far}
use Rattle.planes.specs.Means.{picture_of, PlanesKept}
use Rattle.planes.proofs.planes.Planes.paint.Given as goal

abbrev pub invariant-loop-j : goal.invariant-loop-j
invariant-loop-j l =
    record { after : picture_of l.self ≡ rows_so_far l.blit l.j (picture_of l.initial.self); rest : PlanesKept l.initial.self l.self }
