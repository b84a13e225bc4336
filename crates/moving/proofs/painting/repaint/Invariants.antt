use Rattle.std.proofs.Common.{◌≡◌, ℕ, true}
use Rattle.raster.specs.Picture.{sizes}
use Rattle.moving.specs.Phases.{on_screen, ahead}
use Rattle.moving.specs.Bitmaps.{Repaints}
use Rattle.moving.proofs.Areas.{passed}
use Rattle.moving.proofs.painting.repaint.Given as goal

abbrev pub invariant-loop-x : goal.invariant-loop-x
invariant-loop-x g l = record {
  within : (x y : ℕ) → ahead l.x-iterator x y ≡ true → on_screen (sizes (g.S.Bitmap.picture l.initial.screen)) l.fn.area x y ≡ true;
  painted : Repaints g.S.Bitmap g.T.Bitmap l.layout (passed (sizes (g.S.Bitmap.picture l.initial.screen)) l.fn.area l.x-iterator) l.store l.initial.screen l.screen;
}
