use Rattle.std.proofs.Common.{◌^◌, ◌<◌, ◌≤◌, sym, mod-eq_of_lt, arith, pow_mono, rules}
use Rattle.hold.proofs.layer.masked.Goals as goal

pub returns-else-depth-lt8 : goal.returns-else-depth-lt8
returns-else-depth-lt8 c =
    let a = c.args in
    let most : 2 ^ 8 ≤ 2 ^ a.depth = pow_mono c.if-depth-lt8.false in
    let small : a.value < 256 = search rules in
    sym (mod-eq_of_lt (omega arith))
