use Rattle.planes.proofs.Lawful.{planes_laws_lem}
use Rattle.planes.proofs.laws.planes_laws.Goals as goal

pub returns : goal.returns
returns c = planes_laws_lem
