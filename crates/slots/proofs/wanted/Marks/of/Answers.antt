use Rattle.std.proofs.Common.{◌&&◌, ap, ◌∙◌, arith, length-set}
use Rattle.std.proofs.lemmas.Bool.{lt-ltb}
use Rattle.slots.specs.Changes.{needed}
use Rattle.slots.proofs.Marks.{marked_more}
use Rattle.slots.proofs.wanted.Marks.of.Goals as goal

pub loop-patch-preserved : goal.loop-patch-preserved
loop-patch-preserved c =
    let l = c.loop-patch in
    let test = needed c.args.change in
    record {
      all = length-set l.mark-items l.patch _ ∙ l.invariant.all;
      done =
          let all = l.invariant.all in
          let there = c.loop-patch-test.true in
          marked_more test l.mark-items l.patch _ (omega arith) (c.needs.ensures ∙ ap (λ b. b && test l.patch) (lt-ltb l.patch 2400 there)) l.invariant.done;
    }
