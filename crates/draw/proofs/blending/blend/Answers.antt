use Rattle.std.proofs.Common.{arith}
use Rattle.draw.proofs.Strokes.{rows_start, rows_go_on, rows_end}
use Rattle.draw.proofs.blending.blend.Goals as goal

pub loop-j-init : goal.loop-j-init
loop-j-init g c =
    let a = c.args in
    record {
      drawn = λ w f.
          rows_start a.layer w.0.opened (g.S.Bitmap.picture a.screen.now) (g.T.Bitmap.picture a.store.now) a.rule.number (g.P.Source.pixel a.source.now) (g.met.P.Source.kept a.source.now) a.clip.columns
          a.clip.rows f;
      screen = g.met.S.Bitmap.same a.screen.now;
      store = g.met.T.Bitmap.same a.store.now;
    }

pub loop-j-preserved : goal.loop-j-preserved
loop-j-preserved g c =
    let a = c.args in
    let l = c.loop-j in
    record {
      drawn = λ w f.
          rows_go_on a.layer w.0.opened (g.S.Bitmap.picture a.screen.now) (g.T.Bitmap.picture a.store.now) a.rule.number (g.P.Source.pixel a.source.now) (g.met.P.Source.kept a.source.now) a.clip.columns
          a.clip.rows (g.P.Source.places a.source.now a.layer)
          (g.S.Bitmap.picture l.screen) (g.T.Bitmap.picture l.store) (g.S.Bitmap.picture c.blend_row.new.screen) (g.T.Bitmap.picture c.blend_row.new.store)
          l.j c.turn-k.result c.saturating_add-from.result c.saturating_add-y.result f w.0 w.1 c.loop-j-test.true c.turn-k.ensures
          c.saturating_add-y.ensures c.saturating_add-from.ensures (l.invariant.drawn w f) (λ w reads. c.blend_row.ensures.drawn (w, reads));
      screen = g.met.S.Bitmap.joins a.screen.now l.screen c.blend_row.new.screen l.invariant.screen c.blend_row.ensures.screen;
      store = g.met.T.Bitmap.joins a.store.now l.store c.blend_row.new.store l.invariant.store c.blend_row.ensures.store;
    }

pub returns : goal.returns
returns g c =
    let a = c.args in
    let l = c.loop-j in
    record {
      drawn = λ w f.
          rows_end a.layer w.0.opened (g.S.Bitmap.picture a.screen.now) (g.T.Bitmap.picture a.store.now) a.rule.number (g.P.Source.pixel a.source.now) (g.met.P.Source.kept a.source.now) a.clip.columns
          a.clip.rows l.j (g.S.Bitmap.picture l.screen) (g.T.Bitmap.picture l.store) (omega arith) (l.invariant.drawn w f);
      screen = l.invariant.screen;
      store = l.invariant.store;
    }
