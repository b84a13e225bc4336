use Rattle.std.proofs.Common.{arith}
use Rattle.std.proofs.lemmas.Int.{ints}
use Rattle.std.proofs.lemmas.Bool.Decides.{nat_tests}
use Rattle.raster.proofs.Axis.{clipped}
use Rattle.raster.proofs.span.Span.clip.Goals as goal

pub returns-then-low-high : goal.returns-then-low-high
returns-then-low-high c =
    clipped c.args.s c.args.d c.from-s.result c.from-d.result (omega (arith, ints)) (omega (arith, ints))
    c.args.n c.args.source c.args.dest _
    (omega arith) (omega arith) (λ x. grind (arith, nat_tests)) (λ x p q. omega arith) (λ e. absurd (omega arith))

pub returns-else-low-high : goal.returns-else-low-high
returns-else-low-high c =
    clipped c.args.s c.args.d c.from-s.result c.from-d.result (omega (arith, ints)) (omega (arith, ints))
    c.args.n c.args.source c.args.dest _
    (omega arith) (omega arith) (λ x. grind (arith, nat_tests)) (λ x p q. omega arith) (λ e. (omega arith, omega arith))
