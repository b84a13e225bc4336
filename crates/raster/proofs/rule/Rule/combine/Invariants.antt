use Rattle.std.proofs.Common.{◌≡◌, ◌*◌, ◌^◌}
use Rattle.raster.specs.Rules.{total, bit, result}
use Rattle.raster.proofs.rule.Rule.combine.Given as goal

abbrev pub invariant-loop-j : goal.invariant-loop-j
invariant-loop-j l = l.all ≡ total (λ k. result l.self.number (bit l.s k) (bit l.d k) * 2 ^ k) l.j
