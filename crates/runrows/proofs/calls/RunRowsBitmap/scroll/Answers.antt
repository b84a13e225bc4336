use Rattle.raster.specs.Calls.{BitmapCall, scroll_by}
use Rattle.raster.proofs.Called.{refused, blit_painted}
use Rattle.runrows.specs.Means.{picture_of}
use Rattle.runrows.proofs.Called.{call_refused, call_painted}
use Rattle.runrows.proofs.calls.RunRowsBitmap.scroll.Goals as goal

pub returns-in_err-blit : goal.returns-in_err-blit
returns-in_err-blit c =
    let a = c.args in
    let call : BitmapCall = scroll_by a.transfer in
    call_refused a.self.now call _ _ c.from_residual.ensures.1 (refused (picture_of a.self.now) call _ c.in_err-blit.ensures)

pub returns : goal.returns
returns c =
    let a = c.args in
    let call : BitmapCall = scroll_by a.transfer in
    let b = c.in_ok-blit.blit in
    call_painted a.self.now c.paint.new.self call b c.count.result (blit_painted (picture_of a.self.now) call b c.in_ok-blit.ensures)
    c.count.ensures c.paint.ensures.after c.paint.ensures.rest
