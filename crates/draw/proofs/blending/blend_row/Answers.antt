use Rattle.std.proofs.Common.{arith}
use Rattle.draw.proofs.Strokes.{row_starts, row_goes_on, row_ends}
use Rattle.draw.proofs.blending.blend_row.Goals as goal

pub loop-i-init : goal.loop-i-init
loop-i-init g c =
    let a = c.args in
    record {
      drawn = λ w f.
          row_starts a.layer w.0.opened (g.S.Bitmap.picture a.screen.now) (g.T.Bitmap.picture a.store.now) a.rule.number (g.P.Source.pixel a.source.now) (g.met.P.Source.kept a.source.now) a.columns
          a.y a.sy f;
      screen = g.met.S.Bitmap.same a.screen.now;
      store = g.met.T.Bitmap.same a.store.now;
    }

pub loop-i-preserved : goal.loop-i-preserved
loop-i-preserved g c =
    let a = c.args in
    let l = c.loop-i in
    record {
      drawn = λ w f.
          row_goes_on a.layer w.0.opened (g.S.Bitmap.picture a.screen.now) (g.T.Bitmap.picture a.store.now) a.rule.number (g.P.Source.pixel a.source.now) (g.met.P.Source.kept a.source.now) a.columns
          (g.P.Source.places a.source.now a.layer) a.y a.sy
          (g.S.Bitmap.picture l.screen) (g.T.Bitmap.picture l.store) (g.S.Bitmap.picture c.touch.new.screen) (g.T.Bitmap.picture c.touch.new.store)
          l.i c.turn-k.result c.saturating_add-from.result c.saturating_add-x.result c.sample-s.result f w.0 w.1 c.loop-i-test.true c.turn-k.ensures
          c.saturating_add-from.ensures c.saturating_add-x.ensures (l.invariant.drawn w f) c.sample-s.ensures c.touch.ensures.drawn;
      screen = g.met.S.Bitmap.joins a.screen.now l.screen c.touch.new.screen l.invariant.screen c.touch.ensures.screen;
      store = g.met.T.Bitmap.joins a.store.now l.store c.touch.new.store l.invariant.store c.touch.ensures.store;
    }

pub returns : goal.returns
returns g c =
    let a = c.args in
    let l = c.loop-i in
    record {
      drawn = λ w f.
          row_ends a.layer w.0.opened (g.S.Bitmap.picture a.screen.now) (g.T.Bitmap.picture a.store.now) a.rule.number (g.P.Source.pixel a.source.now) (g.met.P.Source.kept a.source.now) a.columns
          a.y a.sy l.i (g.S.Bitmap.picture l.screen) (g.T.Bitmap.picture l.store) (omega arith) (l.invariant.drawn w f);
      screen = l.invariant.screen;
      store = l.invariant.store;
    }
