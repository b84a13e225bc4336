use Rattle.std.proofs.Common.{refl, ap}
use Rattle.raster.specs.declared.size.Size.{Size}
use Rattle.moving.proofs.Stows.{stow_kept, stow_rest}
use Rattle.moving.proofs.stowing.stow_pixel.Goals as goal

pub returns-in-Kept : goal.returns-in-Kept
returns-in-Kept g c =
    let a = c.args in
    record {
      keeps = c.set_pixel.ensures.rest;
      size = c.set_pixel.ensures.size;
      stows = λ f.
          stow_kept (g.S.Bitmap.picture a.screen.now) (g.T.Bitmap.picture a.store.now) a.layout.plan.now a.layout.slots.now a.x a.y _ f (ap (λ (z : Size). z.width) c.size-width.ensures) _ c.behind.ensures
          c.in-Kept.a c.in-Kept.b c.pixel.result _ c.in-Kept.is (g.met.S.Bitmap.sound a.screen.now).values c.pixel.ensures c.set_pixel.ensures.after;
    }

pub returns-in_default : goal.returns-in_default
returns-in_default g c =
    let a = c.args in
    record {
      keeps = g.met.T.Bitmap.same a.store.now;
      size = refl;
      stows = λ f.
          stow_rest (g.S.Bitmap.picture a.screen.now) (g.T.Bitmap.picture a.store.now) a.layout.plan.now a.layout.slots.now a.x a.y _ f (ap (λ (z : Size). z.width) c.size-width.ensures) _ c.behind.ensures c.in_default.not-Kept;
    }
