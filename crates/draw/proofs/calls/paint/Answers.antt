use Rattle.hold.specs.Held.{layer_held}
use Rattle.draw.proofs.Strokes.{drawn_as}
use Rattle.draw.proofs.Stamped.{blit_performed, blit_within, blit_reads}
use Rattle.draw.proofs.calls.paint.Goals as goal

pub returns : goal.returns
returns g c =
    let a = c.args in
    let p = a.layer.layout.plan.now in
    let screen = g.S.Bitmap.picture a.screen.now in
    let store = g.T.Bitmap.picture a.store.now in
    record {
      drawn = λ w f.
          drawn_as a.layer screen store (g.S.Bitmap.picture c.blend.new.screen) (g.T.Bitmap.picture c.blend.new.store) _ _
          (blit_performed a.blit (layer_held screen store p a.layer.layout.slots.now a.layer.client))
          (c.blend.ensures.drawn (blit_within p a.layer.client a.blit w, blit_reads p a.layer.client a.blit w) f);
      screen = c.blend.ensures.screen;
      store = c.blend.ensures.store;
    }
