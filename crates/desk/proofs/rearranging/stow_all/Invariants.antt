use Rattle.std.proofs.Common.{◌≡◌, drop}
use Rattle.raster.specs.Picture.{Picture, sizes}
use Rattle.moving.specs.Phases.{Fitting}
use Rattle.desk.specs.Moves.{StowedAll}
use Rattle.desk.proofs.rearranging.stow_all.Given as goal

abbrev pub invariant-loop-area : goal.invariant-loop-area
invariant-loop-area g l = record {
  keeps : g.T.Bitmap.keeps l.initial.store l.store;
  size : sizes (g.T.Bitmap.picture l.store) ≡ sizes (g.T.Bitmap.picture l.initial.store);
  stows : Fitting (g.S.Bitmap.picture l.screen) (g.T.Bitmap.picture l.initial.store) l.layout.plan.now l.layout.slots.now → (m : Picture)
      → StowedAll (g.S.Bitmap.picture l.screen) l.layout.plan.now l.layout.slots.now (drop l.area-index l.areas) (g.T.Bitmap.picture l.store) m
      → StowedAll (g.S.Bitmap.picture l.screen) l.layout.plan.now l.layout.slots.now l.areas (g.T.Bitmap.picture l.initial.store) m;
}
