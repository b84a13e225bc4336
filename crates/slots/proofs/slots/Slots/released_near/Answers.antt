use Rattle.slots.proofs.Allotted.{near_release}
use Rattle.slots.proofs.slots.Slots.released_near.Goals as goal

pub returns : goal.returns
returns c =
    let a = c.args in
    let same = c.still.ensures in
    λ co only fits. near_release a.change a.c co only c.left_area.result c.left_area.ensures a.self.now fits c.adjust.new.self c.adjust.result
    (simp (same.before, same.after, same.moved) at c.adjust.ensures)
