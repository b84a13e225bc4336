use Rattle.std.proofs.Common.{◌≡◌, pos, refl, ap, ◌∙◌, subst, ap₂}
use Rattle.raster.specs.Calls.{fill_with, bitmap_after}
use Rattle.raster.specs.declared.size.Size.{Size}
use Rattle.raster.specs.declared.rectangle.Rectangle.{Rectangle}
use Rattle.paper.specs.Slots.{slots_of}
use Rattle.desk.specs.Moves.{Fresh}
use Rattle.desk.proofs.Fresh.{new_stands}
use Rattle.desk.proofs.desk.Desk.new.Goals as goal

pub returns : goal.returns
returns g c =
    let a = c.args in
    let s = g.S.Bitmap.picture a.screen in
    let t = g.T.Bitmap.picture a.store in
    let size = c.size-size.ensures in
    record {
      state = new_stands s (g.S.Bitmap.picture c.fill.new.self) t c.fresh.result c.slots_there-places.result (g.met.S.Bitmap.sound a.screen) (g.met.T.Bitmap.sound a.store)
          (c.slots_there-places.ensures ∙ ap₂ (λ (z y : Size). slots_of z y.depth) c.size.ensures size)
          (subst (λ (z : Size). Fresh z c.slots_there-places.result c.fresh.result) size c.fresh.ensures)
          (subst (λ (r : Rectangle). g.S.Bitmap.picture c.fill.new.self ≡ bitmap_after s (fill_with 3 0 r.x r.y r.w r.h)) c.new-all.ensures c.fill.ensures.after
          ∙ ap (λ (z : Size). bitmap_after s (fill_with 3 0 (pos 0) (pos 0) z.width z.height)) size);
      screen = c.fill.ensures.rest;
      store = refl;
    }
