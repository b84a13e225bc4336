use Rattle.paper.proofs.Apart.{layers_keep_apart_lem}
use Rattle.paper.proofs.layers_keep_apart.Goals as goal

pub returns : goal.returns
returns c = layers_keep_apart_lem
