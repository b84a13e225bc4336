use Rattle.worked.proofs.Worked.{worked_examples_lem}
use Rattle.worked.proofs.examples.worked_examples.Goals as goal

pub returns : goal.returns
returns c = worked_examples_lem
