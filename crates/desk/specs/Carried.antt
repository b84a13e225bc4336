-- Faults that a desk passes on, and the checks of a stamp.
use Rattle.std.specs.Prelude.{ℕ, List, [], ◌∷◌, Some, Option, nat_lt}
use Rattle.raster.specs.Calls.{refuse_if}
use Rattle.raster.specs.declared.fault.Fault.{Fault}
use Rattle.raster.specs.declared.refusal.Refusal.TheVariants.{ValueTooLarge}
use Rattle.paper.specs.declared.DeskFault.{DeskFault}
use Rattle.paper.specs.Layers as paper
use Rattle.paper.specs.Desk.{because, no_client, not_open, no_rule}

-- A bitmap's fault, carried whole.
abbrev pub own_fault : ℕ → Fault → DeskFault
own_fault c f = record { refusal = f.refusal; client = Some c; bitmap = Some f }

-- The checks of a stamp by a rule from a bitmap of a depth.
abbrev pub stamp_checks : (client : ℕ) → paper.Desk → (rule depth : ℕ) → List (Option DeskFault)
stamp_checks c d rule depth =
    no_client c ∷ not_open c d ∷ no_rule c rule ∷ refuse_if (nat_lt d.size.depth depth) (because ValueTooLarge c) ∷ []
