use Rattle.std.proofs.Common.{◌≡◌, ℕ, nat_abs, ap, ◌∙◌}
use Rattle.std.proofs.lemmas.Int.{to_z-of_z}
use Rattle.std.specs.Result.{result_unwrap_or}
use Rattle.raster.specs.Calls.{read_at}
use Rattle.raster.proofs.Called.{place_refused, hands_on, read_found}
use Rattle.paper.specs.Desk.{Answer, answer, read_layer}
use Rattle.desk.specs.Desks.{on_paper}
use Rattle.pane.specs.Panes.{picture_of}
use Rattle.pane.proofs.Drawings.{pixel_answer, at_size}
use Rattle.pane.proofs.calls.PaneBitmap.read.Goals as goal

pub returns-in_err-read_place : goal.returns-in_err-read_place
returns-in_err-read_place g c =
    let a = c.args in
    let fx = c.ranges.x in
    let fy = c.ranges.y in
    let p = picture_of g.S.Bitmap g.T.Bitmap a.self.now in
    let place : ℕ × ℕ = (nat_abs a.x, nat_abs a.y) in
    hands_on _ _ c.from_residual.ensures.1 (place_refused p (read_at a.x a.y) _ place (at_size p (read_at a.x a.y) place c.size.ensures (simp to_z-of_z at c.in_err-read_place.ensures)))

pub returns : goal.returns
returns g c =
    let a = c.args in
    let d = a.self.now.desk in
    let fx = c.ranges.x in
    let fy = c.ranges.y in
    let p = picture_of g.S.Bitmap g.T.Bitmap a.self.now in
    let ok = at_size p (read_at a.x a.y) (nat_abs a.x, nat_abs a.y) c.size.ensures (simp to_z-of_z at c.in_ok-read_place.ensures) in
    (read_found p a.x a.y _ _ ok).answer c.unwrap_or.result
    (let read : c.read.result ≡ answer (on_paper g.S.Bitmap g.T.Bitmap d) (read_layer a.self.now.client a.x a.y) = simp to_z-of_z at c.read.ensures in
    c.unwrap_or.ensures
    ∙ ap (λ (r : Answer). result_unwrap_or r 0)
    (read ∙ pixel_answer (g.S.Bitmap.picture d.screen) (g.T.Bitmap.picture d.store) d.book a.self.now.client a.x a.y _ _ ok))
