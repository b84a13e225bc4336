use Rattle.std.proofs.Common.{subst}
use Rattle.raster.specs.Blits.{Prepares}
use Rattle.raster.specs.Calls.{scroll_by}
use Rattle.raster.specs.declared.size.Size.{Size}
use Rattle.paper.specs.Desk.{scroll_layer}
use Rattle.paper.proofs.Draws.{scrolls}
use Rattle.desk.proofs.desk.Desk.scroll.Goals as goal

pub returns : goal.returns
returns g c =
    let a = c.args in
    let call = scroll_by a.transfer in
    record {
      does = c.perform.ensures.does (scroll_layer a.c a.transfer) call scrolls
          (subst (λ (z : Size). Prepares z call c.scroll-prepared.result) c.pane_size.ensures c.scroll-prepared.ensures);
      rest = c.perform.ensures.rest;
      refused = c.perform.ensures.refused;
    }
