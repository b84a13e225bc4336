use Rattle.std.proofs.Common.{◌≡◌, ℕ, ◌<◌, ◌≤◌, min, get_or}
use Rattle.raster.specs.Rules.{combined}
use Rattle.runrows.proofs.paint.blend.Given as goal

abbrev pub invariant-loop-i : goal.invariant-loop-i
invariant-loop-i l =
    record {
      done : (k : ℕ) → k < l.i → get_or l.painted k 0 ≡ combined (min l.depth 8) l.rule.number (get_or l.source k 0) (get_or l.initial.painted k 0);
      rest : (k : ℕ) → l.i ≤ k → get_or l.painted k 0 ≡ get_or l.initial.painted k 0;
    }
