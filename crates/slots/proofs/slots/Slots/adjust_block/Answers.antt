use Rattle.std.proofs.lemmas.Result.{err_from_is_err_and}
use Rattle.slots.specs.Blocks.{in_row, in_block}
use Rattle.slots.specs.Changes.{needed}
use Rattle.slots.proofs.Walks.{short_join}
use Rattle.slots.proofs.slots.Slots.adjust_block.Goals as goal

pub returns-in_err-adjust_range : goal.returns-in_err-adjust_range
returns-in_err-adjust_range c =
    let b = c.args.block in
    rw (err_from_is_err_and c.from_residual.result c.from_residual.ensures.1).1
    (short_join (needed c.args.change) (in_block b.first b.columns c.loop-j.j) (in_row b.first 0) c.args.self.now c.loop-j.self c.loop-j.invariant
    c.in_err-adjust_range.ensures)
