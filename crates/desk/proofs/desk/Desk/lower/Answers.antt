use Rattle.desk.specs.Moves.{lowers}
use Rattle.desk.proofs.desk.Desk.lower.Goals as goal

pub returns : goal.returns
returns g c =
    record {
      does = c.reorder.ensures.does _ (lowers c.lowered-after.ensures.arranged c.lowered-after.ensures.frames);
      rest = c.reorder.ensures.rest;
      refused = c.reorder.ensures.refused;
    }
