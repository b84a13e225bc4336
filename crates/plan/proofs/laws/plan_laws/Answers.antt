use Rattle.plan.proofs.Lawful.{plan_laws_lem}
use Rattle.plan.proofs.laws.plan_laws.Goals as goal

pub returns : goal.returns
returns c = plan_laws_lem
