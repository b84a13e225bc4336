use Rattle.std.proofs.Common.{◌≡◌, ℕ, ◌+◌, false, ◌||◌, eqb, sym, ap, ◌∙◌, arith}
use Rattle.std.proofs.lemmas.Bool.{and_left}
use Rattle.std.proofs.lemmas.Bool.Decides.{nat_tests}
use Rattle.raster.specs.Blits.{spans, performed}
use Rattle.raster.proofs.Paints.{rows_so_far, rows_none, rows_all, rows_more, so_far, so_far_none, so_far_more, painted_none}
use Rattle.runrows.specs.Means.{picture_of}
use Rattle.runrows.specs.Keep.{untouched, rewritten_then}
use Rattle.runrows.proofs.runrows.RunRows.paint.Goals as goal

-- nothing is painted where no column is
pub returns-then-blit-eq0-clause-after : goal.returns-then-blit-eq0-clause-after
unfolding performed
returns-then-blit-eq0-clause-after c =
    let a = c.args in
    let none : (x : ℕ) → spans a.blit.columns x ≡ false = λ x. grind (arith, nat_tests) in
    sym (painted_none (picture_of a.self.now) _ _ (λ x y. and_left _ _ (none x)))

pub loop-j-init : goal.loop-j-init
loop-j-init c =
    let a = c.args in
    record { after = rows_none a.blit (picture_of a.self.now); rest = untouched a.self.now _ (so_far_none a.blit.rows) }

pub loop-j-preserved : goal.loop-j-preserved
loop-j-preserved c =
    let a = c.args in
    let l = c.loop-j in
    let row : ℕ = a.blit.rows.first + c.turn-k.result in
    record {
      after = rows_more a.blit (picture_of a.self.now) (picture_of l.self) (picture_of c.paint_row.new.self)
          l.j c.turn-k.result c.loop-j-test.true c.turn-k.ensures l.invariant.after c.paint_row.ensures.after;
      rest = rewritten_then a.self.now l.self c.paint_row.new.self (so_far a.blit.rows l.j) (λ b. eqb b row) _
          (λ b. so_far_more a.blit.rows l.j b c.loop-j-test.true ∙ ap (λ n. eqb b (a.blit.rows.first + n) || so_far a.blit.rows l.j b) (sym c.turn-k.ensures))
          l.invariant.rest c.paint_row.ensures.rest;
    }

pub returns-clause-after : goal.returns-clause-after
returns-clause-after c =
    let a = c.args in
    let p = picture_of a.self.now in
    let e : c.loop-j.j ≡ a.blit.rows.len = omega arith in
    c.loop-j.invariant.after ∙ ap (λ j. rows_so_far a.blit j p) e ∙ rows_all a.blit p
