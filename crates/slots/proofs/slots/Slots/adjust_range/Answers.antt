use Rattle.std.proofs.Common.{◌≡◌, ◌+◌, ◌-◌, eqb, subst, arith}
use Rattle.std.proofs.lemmas.Result.{err_from_is_err_and}
use Rattle.slots.specs.Blocks.{in_row}
use Rattle.slots.specs.Walks.{Adjusted}
use Rattle.slots.proofs.Walks.{adjust_more, short_join}
use Rattle.slots.proofs.slots.Slots.adjust_range.Goals as goal

pub returns-in_err-adjust_patch : goal.returns-in_err-adjust_patch
returns-in_err-adjust_patch g c =
    let a = c.args in
    rw (err_from_is_err_and c.from_residual.result c.from_residual.ensures.1).1
    (short_join (g.W.Wanted.wanted a.wanted.now) (in_row a.first (c.loop-patch.patch - a.first)) (in_row a.first 0) a.self.now c.loop-patch.self c.loop-patch.invariant
    c.in_err-adjust_patch.ensures)

pub loop-patch-preserved : goal.loop-patch-preserved
loop-patch-preserved g c =
    let a = c.args in
    let p = c.loop-patch.patch in
    let n = p - a.first in
    let here : p ≡ a.first + n = omega arith in
    let one_more : n + 1 ≡ p + 1 - a.first = omega arith in
    subst (λ m. Adjusted (g.W.Wanted.wanted a.wanted.now) (in_row a.first m) a.self.now c.adjust_patch.new.self) one_more
    (adjust_more (g.W.Wanted.wanted a.wanted.now) (λ i k. eqb k (a.first + i)) n a.self.now c.loop-patch.self c.adjust_patch.new.self c.loop-patch.invariant
    (subst (λ m. Adjusted (g.W.Wanted.wanted a.wanted.now) (λ k. eqb k m) c.loop-patch.self c.adjust_patch.new.self) here c.in_ok-adjust_patch.ensures))
