-- Layers keep apart.
use Rattle.paper.specs.Run.{new_state}
use Rattle.paper.specs.Apart.{LayersKeepApart}
use Rattle.paper.proofs.Runs.{runs_keep_apart}
use Rattle.paper.proofs.Houses.{stays_everywhere, house_runs_keep_apart}
use Rattle.paper.proofs.Plays.{some_run, some_house_run}

pub layers_keep_apart_lem : LayersKeepApart
layers_keep_apart_lem = record {
  on_desks = runs_keep_apart;
  in_houses = house_runs_keep_apart;
  inner_screens_stay = λ size slots r. stays_everywhere r.host r.is_mixed r.is_made.stands_on;
  runs_on_desks = λ size slots ks. some_run (new_state size slots) ks;
  runs_in_houses = λ size slots alone host inner_slots mixed. some_house_run (new_state size slots) alone host inner_slots mixed;
}
