use Rattle.std.proofs.Common.{Some, sym, ap, ◌∙◌, w16, SFits, rules}
use Rattle.std.proofs.lemmas.Result.{err_from_is_err_and}
use Rattle.std.proofs.lemmas.Bool.{lt-ltb, le-ltb}
use Rattle.raster.specs.declared.fault.Fault.{Fault}
use Rattle.raster.proofs.Accepts.{fill_no_rule, fill_too_large}
use Rattle.raster.proofs.Prepared.{fill_performs}
use Rattle.raster.proofs.blit.Blit.fill.Goals as goal

pub returns-in_err-rule : goal.returns-in_err-rule
returns-in_err-rule c =
    let a = c.args in
    let r = a.area in
    let p = err_from_is_err_and c.from_residual.result c.from_residual.ensures.1 in
    let e = c.in_err-rule.ensures in
    rw (p.1, p.2, e.1) (fill_no_rule a.size r.x r.y a.rule a.v r.w r.h (lt-ltb 15 a.rule e.0))

pub returns-then-excludes : goal.returns-then-excludes
returns-then-excludes c =
    let a = c.args in
    let r = a.area in
    fill_too_large a.size r.x r.y a.rule a.v r.w r.h (le-ltb 15 a.rule c.in_ok-rule.ensures.0) (sym c.if-excludes.ensures)
    ∙ ap (λ (f : Fault). Some f) (sym c.into.ensures)

pub returns : goal.returns
returns c =
    let a = c.args in
    let r = a.area in
    let fx : SFits w16 r.x = search rules in
    let fy : SFits w16 r.y = search rules in
    let e = c.in_ok-rule.ensures in
    fill_performs c.in_ok-rule.rule c.clip.result.columns c.clip.result.rows a.rule a.v r.x r.y r.w r.h a.size e.1 e.0
    (sym c.if-excludes.ensures) c.clip.ensures.columns c.clip.ensures.rows
