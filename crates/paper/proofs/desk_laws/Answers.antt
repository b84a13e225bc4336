use Rattle.paper.proofs.Laws.{desk_laws_lem}
use Rattle.paper.proofs.desk_laws.Goals as goal

pub returns : goal.returns
returns c = desk_laws_lem
