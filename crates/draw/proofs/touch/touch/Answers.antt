use Rattle.draw.proofs.Strokes.{touch_drawn}
use Rattle.draw.proofs.touch.touch.Goals as goal

pub returns : goal.returns
returns g c =
    let a = c.args in
    record {
      drawn = λ o f.
          touch_drawn a.layer
          (g.S.Bitmap.picture a.screen.now) (g.T.Bitmap.picture a.store.now) (g.S.Bitmap.picture c.put_pixel.new.screen) (g.T.Bitmap.picture c.put_pixel.new.store)
          a.x a.y o (g.met.S.Bitmap.sound a.screen.now) a.rule.number a.s c.read_pixel-d.result c.combine-value.result c.size.result c.size.ensures
          (c.read_pixel-d.ensures f o) c.combine-value.ensures (λ small. c.put_pixel.ensures.put f o small);
      screen = c.put_pixel.ensures.screen;
      store = c.put_pixel.ensures.store;
    }
