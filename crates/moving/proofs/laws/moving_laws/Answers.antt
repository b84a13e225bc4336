use Rattle.moving.proofs.Outcomes.{moving_laws_lem}
use Rattle.moving.proofs.laws.moving_laws.Goals as goal

pub returns : goal.returns
returns c = moving_laws_lem
