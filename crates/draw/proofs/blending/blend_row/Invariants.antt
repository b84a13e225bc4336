use Rattle.hold.specs.Bitmaps.{Drawing}
use Rattle.draw.specs.Areas.{RowWithin}
use Rattle.draw.specs.Sources.{ReadsRow}
use Rattle.raster.proofs.Paints.{row_turned}
use Rattle.draw.proofs.blending.blend_row.Given as goal

abbrev pub invariant-loop-i : goal.invariant-loop-i
invariant-loop-i g l =
    Drawing g.S.Bitmap g.T.Bitmap (RowWithin l.layer.layout.plan.now l.layer.client l.columns l.y × ReadsRow (g.P.Source.places l.source l.layer) l.columns l.sy)
    l.layer l.initial.screen l.initial.store l.screen l.store (row_turned l.rule.number (g.P.Source.pixel l.source) l.columns l.y l.sy l.i)
