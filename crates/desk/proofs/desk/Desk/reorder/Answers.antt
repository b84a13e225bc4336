use Rattle.std.proofs.Common.{[], ◌∷◌, refl, subst}
use Rattle.std.proofs.lemmas.Result.{err_from_is_err_and}
use Rattle.raster.specs.declared.rectangle.Rectangle.{Rectangle}
use Rattle.desk.specs.Moves.{Rearranges}
use Rattle.desk.proofs.Reordered.{order_shut, order_few, order_does}
use Rattle.desk.proofs.desk.Desk.reorder.Goals as goal

pub returns-in_err-check_open : goal.returns-in_err-check_open
returns-in_err-check_open g c =
    let a = c.args in
    let d = a.self.now in
    let s = g.S.Bitmap.picture d.screen in
    let t = g.T.Bitmap.picture d.store in
    let p = err_from_is_err_and c.from_residual.result c.from_residual.ensures.1 in
    rw (p.1, p.2)
    (record {
      does = λ k r. order_shut s t d.book a.c a.after k r _ c.in_err-check_open.ensures;
      rest = record { screen = g.met.S.Bitmap.same d.screen; store = g.met.T.Bitmap.same d.store };
      refused = refl;
    })

pub returns-in_err-passage : goal.returns-in_err-passage
returns-in_err-passage g c =
    let a = c.args in
    let d = a.self.now in
    let s = g.S.Bitmap.picture d.screen in
    let t = g.T.Bitmap.picture d.store in
    let p = err_from_is_err_and c.from_residual-in_err-passage.result c.from_residual-in_err-passage.ensures.1 in
    rw (p.1, p.2)
    (record {
      does = λ k r. order_few s t d.book a.c a.after k r c.in_ok-check_open.ensures _ c.in_err-passage.ensures.0 c.in_err-passage.ensures.1;
      rest = record { screen = g.met.S.Bitmap.same d.screen; store = g.met.T.Bitmap.same d.store };
      refused = refl;
    })

pub returns : goal.returns
returns g c =
    let a = c.args in
    let d = a.self.now in
    let s = g.S.Bitmap.picture d.screen in
    let t = g.T.Bitmap.picture d.store in
    let e = c.rearrange.new.self in
    let slots = c.in_ok-passage.passage.slots in
    let way = c.in_ok-passage.ensures in
    record {
      does = λ k r.
          order_does s t d.book a.c a.after k r c.in_ok-check_open.ensures (g.S.Bitmap.picture e.screen) (g.T.Bitmap.picture e.store) e.book slots
          (g.met.S.Bitmap.sound d.screen) way.1 way.2 (simp way.0 at c.rearrange.ensures.book)
          (subst (λ (z : Rectangle). Rearranges d.book.plan a.after slots (z ∷ []) s t (g.S.Bitmap.picture e.screen) (g.T.Bitmap.picture e.store)) c.frame-area.ensures (simp way.0 at c.rearrange.ensures.pixels));
      rest = c.rearrange.ensures.rest;
      refused = tt;
    }
