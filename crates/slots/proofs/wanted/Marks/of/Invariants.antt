use Rattle.std.proofs.Common.{◌≡◌, ℕ, ◌<◌, false, length, get_or}
use Rattle.slots.specs.Changes.{needed}
use Rattle.slots.proofs.wanted.Marks.of.Given as goal

abbrev pub invariant-loop-patch : goal.invariant-loop-patch
invariant-loop-patch l =
    record {
      all : length l.mark-items ≡ 2400;
      done : (k : ℕ) → k < l.patch → get_or l.mark-items k false ≡ needed l.change k;
    }
