use Rattle.std.specs.Prelude.{Some, None}
use Rattle.slots.specs.Changes.{needed}
use Rattle.slots.proofs.Allotted.{allot_all, allot_short, allotted_alike}
use Rattle.slots.proofs.slots.Slots.allot.Goals as goal

pub returns-in-Ok : goal.returns-in-Ok
returns-in-Ok c =
    allotted_alike _ (needed c.args.change) c.args.self.now (Some c.adjust_range.new.self) c.of-marks.ensures
    (allot_all _ c.args.self.now c.retained-slots.result c.retained-slots.ensures c.adjust_range.new.self c.in-Ok.ensures)

pub returns-in-Err : goal.returns-in-Err
returns-in-Err c =
    allotted_alike _ (needed c.args.change) c.args.self.now None c.of-marks.ensures
    (allot_short _ c.args.self.now c.retained-slots.result c.retained-slots.ensures c.in-Err.ensures)
