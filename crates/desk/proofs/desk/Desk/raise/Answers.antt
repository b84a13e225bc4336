use Rattle.desk.specs.Moves.{raises}
use Rattle.desk.proofs.desk.Desk.raise.Goals as goal

pub returns : goal.returns
returns g c =
    record {
      does = c.reorder.ensures.does _ (raises c.raised-after.ensures.arranged c.raised-after.ensures.frames);
      rest = c.reorder.ensures.rest;
      refused = c.reorder.ensures.refused;
    }
