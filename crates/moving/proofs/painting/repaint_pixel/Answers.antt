use Rattle.std.proofs.Common.{refl, ap}
use Rattle.raster.specs.declared.size.Size.{Size}
use Rattle.moving.proofs.Stows.{paint_some, paint_none, none_is}
use Rattle.moving.proofs.painting.repaint_pixel.Goals as goal

pub returns-in-Some : goal.returns-in-Some
returns-in-Some g c =
    let a = c.args in
    record {
      keeps = c.set_pixel.ensures.rest;
      size = c.set_pixel.ensures.size;
      paints = λ f.
          paint_some (g.S.Bitmap.picture a.screen.now) (g.T.Bitmap.picture a.store.now) a.layout.plan.now a.layout.slots.now a.x a.y _ _ f (ap (λ (z : Size). z.width) c.size.ensures) (ap (λ (z : Size). z.depth) c.size-depth.ensures)
          c.behind-backing.result c.behind-backing.ensures c.found.result c.found.ensures c.in-Some.v _ c.in-Some.is c.requires.across c.requires.down c.set_pixel.ensures.after;
    }

pub returns-in_default : goal.returns-in_default
returns-in_default g c =
    let a = c.args in
    record {
      keeps = g.met.S.Bitmap.same a.screen.now;
      size = refl;
      paints = λ f.
          paint_none (g.S.Bitmap.picture a.screen.now) (g.T.Bitmap.picture a.store.now) a.layout.plan.now a.layout.slots.now a.x a.y _ _ f (ap (λ (z : Size). z.width) c.size.ensures) (ap (λ (z : Size). z.depth) c.size-depth.ensures)
          c.behind-backing.result c.behind-backing.ensures c.found.result c.found.ensures (none_is _ c.in_default.not-Some);
    }
