use Rattle.std.proofs.Common.{w16, SFits, rules}
use Rattle.std.proofs.lemmas.Result.{err_from_is_err_and}
use Rattle.std.proofs.lemmas.Bool.{lt-ltb}
use Rattle.raster.proofs.Accepts.{scroll_no_rule}
use Rattle.raster.proofs.Prepared.{scroll_performs}
use Rattle.raster.proofs.blit.Blit.scroll.Goals as goal

pub returns-in_err-rule : goal.returns-in_err-rule
returns-in_err-rule c =
    let a = c.args in
    let p = err_from_is_err_and c.from_residual.result c.from_residual.ensures.1 in
    let e = c.in_err-rule.ensures in
    rw (p.1, p.2, e.1) (scroll_no_rule a.size a.transfer (lt-ltb 15 a.transfer.rule e.0))

pub returns : goal.returns
returns c =
    let a = c.args in
    let t = a.transfer in
    let f1 : SFits w16 t.sx = search rules in
    let f2 : SFits w16 t.sy = search rules in
    let f3 : SFits w16 t.dx = search rules in
    let f4 : SFits w16 t.dy = search rules in
    let e = c.in_ok-rule.ensures in
    scroll_performs c.in_ok-rule.rule c.clip.result.columns c.clip.result.rows t a.size e.1 e.0
    c.clip.ensures.columns c.clip.ensures.rows
