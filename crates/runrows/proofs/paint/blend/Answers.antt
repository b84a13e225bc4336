use Rattle.std.proofs.Common.{◌≡◌, min, length, ◌∙◌, arith}
use Rattle.std.proofs.lemmas.List.{length-take, length-drop}
use Rattle.runrows.proofs.Blend.{blended}
use Rattle.runrows.proofs.paint.blend.Goals as goal

pub returns : goal.returns
returns c =
    let a = c.args in
    let l = c.loop-i in
    let long : length l.painted ≡ a.columns.len = l.auto.painted ∙ simp (length-take, length-drop) (omega arith) in
    rw (c.from-first.ensures, c.from-len.ensures)
    (blended (min a.depth 8) a.rule.number a.columns a.source.now a.out.now l.painted c.requires.paints c.requires.reads long
    (λ k h. rw (c.from-first.ensures, c.from-from.ensures, c.from-len.ensures) at (l.invariant.done k (omega arith))))
