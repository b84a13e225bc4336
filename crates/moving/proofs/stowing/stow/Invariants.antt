use Rattle.std.proofs.Common.{◌≡◌, ℕ, true}
use Rattle.raster.specs.Picture.{sizes}
use Rattle.moving.specs.Phases.{on_screen, ahead}
use Rattle.moving.specs.Bitmaps.{Stows}
use Rattle.moving.proofs.Areas.{passed}
use Rattle.moving.proofs.stowing.stow.Given as goal

abbrev pub invariant-loop-x : goal.invariant-loop-x
invariant-loop-x g l = record {
  within : (x y : ℕ) → ahead l.x-iterator x y ≡ true → on_screen (sizes (g.S.Bitmap.picture l.screen)) l.fn.area x y ≡ true;
  stowed : Stows g.S.Bitmap g.T.Bitmap l.layout (passed (sizes (g.S.Bitmap.picture l.screen)) l.fn.area l.x-iterator) l.screen l.initial.store l.store;
}
