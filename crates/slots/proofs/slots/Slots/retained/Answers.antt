use Rattle.slots.proofs.Allotted.{retain_more}
use Rattle.slots.proofs.slots.Slots.retained.Goals as goal

pub loop-patch-preserved : goal.loop-patch-preserved
loop-patch-preserved g c =
    retain_more (g.W.Wanted.wanted c.args.wanted.now) c.args.self.now c.loop-patch.slots c.retain_patch.new.self c.loop-patch.patch c.loop-patch.invariant c.retain_patch.ensures
