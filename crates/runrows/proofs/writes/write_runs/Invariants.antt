use Rattle.runrows.specs.Spell.{More}
use Rattle.runrows.proofs.writes.write_runs.Given as goal

abbrev pub invariant-loop-pixel : goal.invariant-loop-pixel
invariant-loop-pixel l = More 4 l.row l.n l.pixel-index l.pixels
