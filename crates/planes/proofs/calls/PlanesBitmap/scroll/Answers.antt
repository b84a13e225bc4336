use Rattle.raster.specs.Calls.{scroll_by}
use Rattle.raster.proofs.Called.{refused, call_refused, blit_painted}
use Rattle.planes.specs.Means.{picture_of, PlanesKept}
use Rattle.planes.specs.Keep.{planes_same}
use Rattle.planes.proofs.calls.PlanesBitmap.scroll.Goals as goal

pub returns-in_err-blit : goal.returns-in_err-blit
returns-in_err-blit c =
    let a = c.args in
    call_refused picture_of PlanesKept a.self.now (planes_same a.self.now) (scroll_by a.transfer) _ _ c.from_residual.ensures.1 (refused (picture_of a.self.now) _ _ c.in_err-blit.ensures)

pub returns : goal.returns
returns c =
    let a = c.args in
    let d = blit_painted (picture_of a.self.now) (scroll_by a.transfer) c.in_ok-blit.blit c.in_ok-blit.ensures in
    record {
      answer = d.answer c.count.result c.count.ensures;
      after = d.after (picture_of c.paint.new.self) c.paint.ensures.after;
      rest = c.paint.ensures.rest;
      refused = tt;
    }
