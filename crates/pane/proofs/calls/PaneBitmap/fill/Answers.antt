use Rattle.std.proofs.Common.{sym, ap, ◌∙◌, subst}
use Rattle.raster.specs.Blits.{Performs}
use Rattle.raster.specs.Calls.{fill_with, bitmap_fault}
use Rattle.raster.specs.declared.size.Size.{Size}
use Rattle.raster.proofs.Called.{refused, blit_painted}
use Rattle.paper.proofs.Draws.{fills}
use Rattle.pane.specs.Panes.{picture_of}
use Rattle.pane.proofs.Kept.{pane_refused, pane_drawn, pane_kept}
use Rattle.pane.proofs.calls.PaneBitmap.fill.Goals as goal

pub returns-in_err-blit : goal.returns-in_err-blit
returns-in_err-blit g c =
    let a = c.args in
    let call = fill_with a.rule a.v a.area.x a.area.y a.area.w a.area.h in
    pane_refused g.S.Bitmap g.T.Bitmap g.met.S.Bitmap.same g.met.T.Bitmap.same a.self.now call _ _ c.from_residual.ensures.1
    (refused (picture_of g.S.Bitmap g.T.Bitmap a.self.now) call _ (ap (λ (z : Size). bitmap_fault z call) (sym c.size.ensures) ∙ c.in_err-blit.ensures))

pub returns : goal.returns
returns g c =
    let a = c.args in
    let p = a.self.now in
    let s = g.S.Bitmap in
    let t = g.T.Bitmap in
    let call = fill_with a.rule a.v a.area.x a.area.y a.area.w a.area.h in
    let b = c.in_ok-blit.blit in
    let d = blit_painted (picture_of s t p) call b (subst (λ (z : Size). Performs z call b) c.size.ensures c.in_ok-blit.ensures) in
    let last = c.fill-2.new.self in
    record {
      answer = d.answer c.count.result c.count.ensures;
      after = pane_drawn s t p last fills c.fill-2.ensures.does;
      rest = pane_kept s t p last fills c.fill-2.ensures.does c.fill-2.ensures.rest;
      refused = tt;
    }
