use Rattle.std.specs.Fmt.{HasWritten, IsPlainFormatter}
use Rattle.raster.proofs.Printed.{so_far}
use Rattle.raster.proofs.row.RowDisplay.fmt.Given as goal

abbrev pub invariant-loop-x : goal.invariant-loop-x
invariant-loop-x g l =
    IsPlainFormatter l.initial.f
    → HasWritten g.W.Write.write_str_gives l.initial.f (so_far (g.B.Bitmap.picture l.self.0.now) l.self.1 l.x) l.f
