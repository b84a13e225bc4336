use Rattle.std.proofs.Common.{Result, refl, subst}
use Rattle.std.proofs.lemmas.Result.{err_from_is_err_and}
use Rattle.raster.specs.Picture.{sizes}
use Rattle.raster.specs.Blits.{Prepares, Performs}
use Rattle.raster.specs.declared.blit.Blit.{Blit}
use Rattle.raster.specs.declared.fault.Fault.{Fault}
use Rattle.paper.specs.Layers.{pane}
use Rattle.desk.specs.Desks.{on_pictures, used_by}
use Rattle.desk.proofs.Drawn.{drawing_shut, drawing_refused, blit_within, drawing_fits, drawing_does}
use Rattle.desk.proofs.Fits.{fitting}
use Rattle.desk.proofs.desk.Desk.perform.Goals as goal

pub returns-in_err-check_open : goal.returns-in_err-check_open
returns-in_err-check_open g c =
    let a = c.args in
    let d = a.self.now in
    let s = g.S.Bitmap.picture d.screen in
    let t = g.T.Bitmap.picture d.store in
    let p = err_from_is_err_and c.from_residual.result c.from_residual.ensures.1 in
    rw (p.1, p.2)
    (record {
      does = λ k b same pre. drawing_shut s t d.book a.c k b same _ c.in_err-check_open.ensures;
      rest = record { screen = g.met.S.Bitmap.same d.screen; store = g.met.T.Bitmap.same d.store };
      refused = refl;
    })

pub returns-in_err-blit-clause-does : goal.returns-in_err-blit-clause-does
returns-in_err-blit-clause-does g c k b same pre =
    let a = c.args in
    let d = a.self.now in
    let s = g.S.Bitmap.picture d.screen in
    let t = g.T.Bitmap.picture d.store in
    let p = err_from_is_err_and c.from_residual-in_err-blit.result c.from_residual-in_err-blit.ensures.1 in
    let e = c.in_err-blit.ensures in
    rw (p.1, p.2, e.2)
    (drawing_refused s t d.book a.c c.in_ok-check_open.ensures k b same e.0
    (subst (λ (r : Result Blit Fault). Prepares (sizes (pane a.c (on_pictures s t d.book))) b r) e.1 pre))

pub returns-clause-does : goal.returns-clause-does
unfolding on_pictures used_by
returns-clause-does g c k b same pre =
    let a = c.args in
    let d = a.self.now in
    let s = g.S.Bitmap.picture d.screen in
    let t = g.T.Bitmap.picture d.store in
    let ok = c.in_ok-check_open.ensures in
    let blit = c.in_ok-blit.blit in
    let p : Performs (sizes (pane a.c (on_pictures s t d.book))) b blit =
    subst (λ (r : Result Blit Fault). Prepares (sizes (pane a.c (on_pictures s t d.book))) b r) c.in_ok-blit.ensures pre in
    let drawn = simp (c.layer.ensures.plan, c.layer.ensures.slots, c.layer.ensures.client) at c.paint.ensures.drawn in
    drawing_does s t d.book a.c ok (g.S.Bitmap.picture c.paint.new.screen) (g.T.Bitmap.picture c.paint.new.store) k b same blit p
    (drawn (blit_within s t d.book a.c ok b blit p) (fitting s t d.book (drawing_fits s t d.book a.c ok)))
    c.count.result c.count.ensures
