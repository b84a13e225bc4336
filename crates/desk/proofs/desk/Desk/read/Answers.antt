use Rattle.std.proofs.Common.{[], ◌∷◌, nat_abs, sym, ap, ◌∙◌}
use Rattle.std.proofs.lemmas.Result.{err_from_is_err_and}
use Rattle.std.proofs.lemmas.Int.{to_z-of_z}
use Rattle.raster.specs.Calls.{read_at, unless, bitmap_fault}
use Rattle.raster.specs.declared.size.Size.{Size}
use Rattle.raster.proofs.Accepts.{unless_err}
use Rattle.paper.specs.Desk.{carried, own_bitmap, read_layer}
use Rattle.paper.proofs.View.{answer_refused}
use Rattle.desk.specs.Carried.{own_fault}
use Rattle.desk.specs.Desks.{on_pictures}
use Rattle.desk.proofs.Answered.{check_refused, own_check, own_pixel}
use Rattle.desk.proofs.desk.Desk.read.Goals as goal

pub returns-in_err-check_open : goal.returns-in_err-check_open
returns-in_err-check_open g c =
    let a = c.args in
    let d = a.self.now in
    let s = g.S.Bitmap.picture d.screen in
    let t = g.T.Bitmap.picture d.store in
    let p = err_from_is_err_and c.from_residual.result c.from_residual.ensures.1 in
    rw (p.1, p.2) (sym (answer_refused (on_pictures s t d.book) (read_layer a.c a.x a.y) _ (check_refused s t d.book a.c (own_bitmap a.c (on_pictures s t d.book) (read_at a.x a.y) ∷ []) _ c.in_err-check_open.ensures)))

pub returns-in_err-u : goal.returns-in_err-u
returns-in_err-u g c =
    let a = c.args in
    let d = a.self.now in
    let fx = c.ranges.x in
    let fy = c.ranges.y in
    let s = g.S.Bitmap.picture d.screen in
    let t = g.T.Bitmap.picture d.store in
    let p = err_from_is_err_and c.from_residual-in_err-u.result c.from_residual-in_err-u.ensures.1 in
    let e = c.in_err-u.ensures in
    let refused = unless_err (bitmap_fault c.pane_size.result (read_at a.x a.y)) (nat_abs a.x, nat_abs a.y) e.0 (sym e.1 ∙ simp to_z-of_z at c.read_place.ensures) in
    rw (p.1, p.2, e.2)
    (sym (answer_refused (on_pictures s t d.book) (read_layer a.c a.x a.y) (own_fault a.c e.0)
    (own_check s t d.book a.c c.in_ok-check_open.ensures (read_at a.x a.y)
    ∙ ap (λ (z : Size). carried a.c (bitmap_fault z (read_at a.x a.y))) (sym c.pane_size.ensures) ∙ ap (carried a.c) refused)))

pub returns : goal.returns
returns g c =
    let a = c.args in
    let d = a.self.now in
    let fx = c.ranges.x in
    let fy = c.ranges.y in
    let s = g.S.Bitmap.picture d.screen in
    let t = g.T.Bitmap.picture d.store in
    own_pixel s t d.book a.c c.in_ok-check_open.ensures a.x a.y c.in_ok-u.u c.in_ok-u.v c.read_pixel.result
    ((sym c.in_ok-u.ensures ∙ simp to_z-of_z at c.read_place.ensures) ∙ ap (λ (z : Size). unless (bitmap_fault z (read_at a.x a.y)) (nat_abs a.x, nat_abs a.y)) c.pane_size.ensures)
    (simp (c.layer.ensures.plan, c.layer.ensures.slots, c.layer.ensures.client) at c.read_pixel.ensures)
