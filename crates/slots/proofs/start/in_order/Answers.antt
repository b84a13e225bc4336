use Rattle.std.proofs.Common.{of_calls}
use Rattle.slots.proofs.start.in_order.Goals as goal

pub returns : goal.returns
returns c = λ k h. let call = (c.from_fn.ensures.items.at k 0 h).2.met in search (of_calls, call)
