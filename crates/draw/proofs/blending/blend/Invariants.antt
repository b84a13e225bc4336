use Rattle.hold.specs.Bitmaps.{Drawing}
use Rattle.draw.specs.Areas.{Within}
use Rattle.draw.specs.Sources.{ReadsAll}
use Rattle.raster.proofs.Paints.{rows_turned}
use Rattle.draw.proofs.blending.blend.Given as goal

abbrev pub invariant-loop-j : goal.invariant-loop-j
invariant-loop-j g l =
    Drawing g.S.Bitmap g.T.Bitmap (Within l.layer.layout.plan.now l.layer.client l.fn.clip.columns l.fn.clip.rows × ReadsAll (g.P.Source.places l.source l.layer) l.fn.clip.columns l.fn.clip.rows)
    l.layer l.initial.screen l.initial.store l.screen l.store (rows_turned l.rule.number (g.P.Source.pixel l.source) l.fn.clip.columns l.fn.clip.rows l.j)
