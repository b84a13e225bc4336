use Rattle.std.proofs.Common.{◌≡◌, ◌-◌, ◌*◌, ◌%◌, ◌^◌, ◌≤◌, bit_and, ap, ◌∙◌, pow_mono, arith}
use Rattle.std.proofs.lemmas.Nat.{and_mask}
use Rattle.runrows.proofs.runrows.RunRows.run.Goals as goal

pub returns-clause-value : goal.returns-clause-value
returns-clause-value c =
    let depth = c.args.self.now.size.depth in
    let few : 2 ^ depth ≤ 16 = pow_mono {i = depth} {j = 4} (omega arith) in
    let fits : 1 * 2 ^ depth % 65536 ≡ 2 ^ depth = omega arith in
    ap (λ n. bit_and (c.args.entry % 16) (n - 1)) fits ∙ and_mask (c.args.entry % 16) depth
