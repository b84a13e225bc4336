use Rattle.std.proofs.Common.{subst}
use Rattle.raster.specs.Blits.{Prepares}
use Rattle.raster.specs.Calls.{fill_with}
use Rattle.raster.specs.declared.size.Size.{Size}
use Rattle.paper.specs.Desk.{fill_layer}
use Rattle.paper.proofs.Draws.{fills}
use Rattle.desk.proofs.desk.Desk.fill.Goals as goal

pub returns : goal.returns
returns g c =
    let a = c.args in
    let r = a.area in
    let call = fill_with a.rule a.v r.x r.y r.w r.h in
    record {
      does = c.perform.ensures.does (fill_layer a.c a.rule a.v r.x r.y r.w r.h) call fills
          (subst (λ (z : Size). Prepares z call c.fill-prepared.result) c.pane_size.ensures c.fill-prepared.ensures);
      rest = c.perform.ensures.rest;
      refused = c.perform.ensures.refused;
    }
