use Rattle.runrows.proofs.Lawful.{run_laws_lem}
use Rattle.runrows.proofs.laws.run_laws.Goals as goal

pub returns : goal.returns
returns c = run_laws_lem
