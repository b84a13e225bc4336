use Rattle.slots.proofs.Allotted.{near_yes, near_no}
use Rattle.slots.proofs.slots.Slots.allot_near.Goals as goal

pub returns-in-Ok : goal.returns-in-Ok
returns-in-Ok c =
    let a = c.args in
    λ fits co only. near_yes a.change a.c co only c.left_area.result c.left_area.ensures a.self.now c.adjust.new.self fits c.in-Ok.ensures

pub returns-in-Err : goal.returns-in-Err
returns-in-Err c =
    let a = c.args in
    λ fits co only. near_no a.change a.c co only c.left_area.result c.left_area.ensures a.self.now fits c.in-Err.ensures
