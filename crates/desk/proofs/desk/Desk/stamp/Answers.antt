use Rattle.std.proofs.Common.{refl}
use Rattle.std.proofs.lemmas.Result.{err_from_is_err_and}
use Rattle.paper.specs.Desk.{stamp_layer}
use Rattle.desk.specs.Desks.{on_pictures, used_by}
use Rattle.desk.proofs.Fits.{fitting}
use Rattle.desk.proofs.Idle.{refused_does}
use Rattle.desk.proofs.Stamped.{stamp_fits, stamp_clipped, stamp_does}
use Rattle.desk.proofs.desk.Desk.stamp.Goals as goal

pub returns-in_err-rule : goal.returns-in_err-rule
returns-in_err-rule g c =
    let a = c.args in
    let d = a.self.now in
    let s = g.S.Bitmap.picture d.screen in
    let t = g.T.Bitmap.picture d.store in
    let p = err_from_is_err_and c.from_residual.result c.from_residual.ensures.1 in
    rw (p.1, p.2)
    (record {
      does = refused_does s t d.book (stamp_layer a.c a.transfer (g.B.Bitmap.picture a.source.now)) _
          (simp c.size-from.ensures at c.in_err-rule.ensures);
      rest = record { screen = g.met.S.Bitmap.same d.screen; store = g.met.T.Bitmap.same d.store };
      refused = refl;
    })

pub returns : goal.returns
unfolding on_pictures used_by
returns g c =
    let a = c.args in
    let d = a.self.now in
    let s = g.S.Bitmap.picture d.screen in
    let t = g.T.Bitmap.picture d.store in
    let source = g.B.Bitmap.picture a.source.now in
    let move = a.transfer in
    let ok = simp c.size-from.ensures at c.in_ok-rule.ensures.0 in
    let clipped = stamp_clipped s t d.book a.c move source ok c.size-from.result c.pane_size.result c.in_ok-rule.rule c.clip-clip.result.columns c.clip-clip.result.rows
    c.size-from.ensures c.pane_size.ensures c.in_ok-rule.ensures.1 c.clip-clip.ensures.columns c.clip-clip.ensures.rows in
    record {
      does = stamp_does s t d.book a.c move source ok (g.S.Bitmap.picture c.stamp.new.screen) (g.T.Bitmap.picture c.stamp.new.store)
          ((simp (c.layer-layer.ensures.plan, c.layer-layer.ensures.slots, c.layer-layer.ensures.client) at c.stamp.ensures.drawn) move clipped (fitting s t d.book (stamp_fits s t d.book a.c move source ok))) c.stamp.result ((simp (c.layer-layer.ensures.plan, c.layer-layer.ensures.slots, c.layer-layer.ensures.client) at c.stamp.ensures.count) move clipped);
      rest = record { screen = c.stamp.ensures.screen; store = c.stamp.ensures.store };
      refused = tt;
    }
