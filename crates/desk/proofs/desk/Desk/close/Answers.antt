use Rattle.std.proofs.Common.{[], ◌∷◌, refl, ◌∙◌, subst}
use Rattle.std.proofs.lemmas.Result.{err_from_is_err_and}
use Rattle.raster.specs.declared.rectangle.Rectangle.{Rectangle}
use Rattle.moving.proofs.Tables.{fewer}
use Rattle.desk.specs.Moves.{Rearranges}
use Rattle.desk.proofs.Reordered.{close_shut, close_does}
use Rattle.desk.proofs.desk.Desk.close.Goals as goal

pub returns-in_err-check_open : goal.returns-in_err-check_open
returns-in_err-check_open g c =
    let a = c.args in
    let d = a.self.now in
    let s = g.S.Bitmap.picture d.screen in
    let t = g.T.Bitmap.picture d.store in
    let p = err_from_is_err_and c.from_residual.result c.from_residual.ensures.1 in
    rw (p.1, p.2)
    (record {
      does = close_shut s t d.book a.c _ c.in_err-check_open.ensures;
      rest = record { screen = g.met.S.Bitmap.same d.screen; store = g.met.T.Bitmap.same d.store };
      refused = refl;
    })

pub invariant_of-rearrange : goal.invariant_of-rearrange
invariant_of-rearrange g c =
    let b = c.args.self.now.book in
    let a = c.closed-after.ensures.arranged in
    record { serves = λ k l h. b.held k l ∙ fewer b.plan c.closed-after.result c.args.c a.screen a.layers k h }

pub returns : goal.returns
returns g c =
    let a = c.args in
    let d = a.self.now in
    let s = g.S.Bitmap.picture d.screen in
    let t = g.T.Bitmap.picture d.store in
    let e = c.rearrange.new.self in
    record {
      does = close_does s t d.book a.c c.in_ok-check_open.ensures (g.S.Bitmap.picture e.screen) (g.T.Bitmap.picture e.store) e.book c.closed-after.result
          (g.met.S.Bitmap.sound d.screen) c.closed-after.ensures.arranged c.closed-after.ensures.frames c.rearrange.ensures.book
          (subst (λ (z : Rectangle). Rearranges d.book.plan c.closed-after.result d.book.slots (z ∷ []) s t (g.S.Bitmap.picture e.screen) (g.T.Bitmap.picture e.store)) c.frame-area.ensures c.rearrange.ensures.pixels);
      rest = c.rearrange.ensures.rest;
      refused = tt;
    }
