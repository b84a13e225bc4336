use Rattle.std.proofs.Common.{ℕ, nat_abs, ◌∙◌, subst, w16, to_z, of_z}
use Rattle.std.proofs.lemmas.Int.{to_z-of_z}
use Rattle.raster.specs.Calls.{write_at}
use Rattle.raster.specs.declared.rectangle.Rectangle.{Rectangle}
use Rattle.raster.proofs.Called.{place_refused, write_found}
use Rattle.paper.specs.Desk.{fill_layer}
use Rattle.paper.specs.Run.{Does}
use Rattle.paper.proofs.Draws.{fills}
use Rattle.desk.specs.Desks.{state_of}
use Rattle.pane.specs.Panes.{picture_of}
use Rattle.pane.proofs.Drawings.{at_size, write_fills}
use Rattle.pane.proofs.Kept.{pane_refused, pane_drawn, pane_kept}
use Rattle.pane.proofs.calls.PaneBitmap.write.Goals as goal

pub returns-in_err-write_place : goal.returns-in_err-write_place
returns-in_err-write_place g c =
    let a = c.args in
    let fx = c.ranges.x in
    let fy = c.ranges.y in
    let p = picture_of g.S.Bitmap g.T.Bitmap a.self.now in
    let call = write_at a.x a.y a.v in
    let place : ℕ × ℕ = (nat_abs a.x, nat_abs a.y) in
    pane_refused g.S.Bitmap g.T.Bitmap g.met.S.Bitmap.same g.met.T.Bitmap.same a.self.now call _ _ c.from_residual.ensures.1
    (place_refused p call _ place (at_size p call place c.size.ensures (simp to_z-of_z at c.in_err-write_place.ensures)))

pub returns : goal.returns
returns g c =
    let a = c.args in
    let p = a.self.now in
    let s = g.S.Bitmap in
    let t = g.T.Bitmap in
    let fx = c.ranges.x in
    let fy = c.ranges.y in
    let ok = at_size (picture_of s t p) (write_at a.x a.y a.v) (nat_abs a.x, nat_abs a.y) c.size.ensures (simp to_z-of_z at c.in_ok-write_place.ensures) in
    let last = c.fill.new.self in
    let as_passed : Does (state_of s t p.desk) (fill_layer p.client 3 a.v (to_z w16 (of_z w16 a.x)) (to_z w16 (of_z w16 a.y)) 1 1) c.fill.result (state_of s t last) =
    subst (λ (r : Rectangle). Does (state_of s t p.desk) (fill_layer p.client 3 a.v r.x r.y r.w r.h) c.fill.result (state_of s t last)) c.new.ensures c.fill.ensures.does in
    let does : Does (state_of s t p.desk) (fill_layer p.client 3 a.v a.x a.y 1 1) c.fill.result (state_of s t last) = simp to_z-of_z at as_passed in
    record {
      answer = (write_found (picture_of s t p) a.x a.y a.v _ _ ok).answer;
      after = pane_drawn s t p last fills does ∙ write_fills (picture_of s t p) a.x a.y a.v _ _ ok;
      rest = pane_kept s t p last fills does c.fill.ensures.rest;
      refused = tt;
    }
