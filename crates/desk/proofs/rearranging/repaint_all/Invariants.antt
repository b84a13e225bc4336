use Rattle.std.proofs.Common.{◌≡◌, drop}
use Rattle.raster.specs.Picture.{sizes}
use Rattle.moving.specs.Phases.{Fitting}
use Rattle.desk.specs.Moves.{repainted_all}
use Rattle.desk.proofs.rearranging.repaint_all.Given as goal

abbrev pub invariant-loop-area : goal.invariant-loop-area
invariant-loop-area g l = record {
  keeps : g.S.Bitmap.keeps l.initial.screen l.screen;
  size : sizes (g.S.Bitmap.picture l.screen) ≡ sizes (g.S.Bitmap.picture l.initial.screen);
  paints : Fitting (g.S.Bitmap.picture l.initial.screen) (g.T.Bitmap.picture l.store) l.layout.plan.now l.layout.slots.now
      → repainted_all (g.T.Bitmap.picture l.store) l.layout.plan.now l.layout.slots.now (drop l.area-index l.areas) (g.S.Bitmap.picture l.screen)
      ≡ repainted_all (g.T.Bitmap.picture l.store) l.layout.plan.now l.layout.slots.now l.areas (g.S.Bitmap.picture l.initial.screen);
}
