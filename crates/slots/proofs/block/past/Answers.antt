use Rattle.std.proofs.Common.{◌≡◌, ℕ, ◌<◌, ℤ, pos, ◌+ℤ◌, ◌-ℤ◌, nat_abs, ap, ◌∙◌, rules, arith, w16, w32, SFits, to_z, of_z}
use Rattle.std.specs.Int.{int_max}
use Rattle.std.proofs.lemmas.Int.{ints, to_z-of_z}
use Rattle.std.proofs.lemmas.Bool.Decides.{nat_tests}
use Rattle.slots.specs.Blocks.{past}
use Rattle.slots.proofs.block.past.Goals as goal

abbrev word : ℤ → ℤ
word i = to_z w32 (of_z w32 i)

abbrev far : ℤ → ℤ → ℤ → ℤ
far z n x = word (word (word z +ℤ word n) -ℤ word x)

far_is : (z : ℤ) (n : ℕ) (x z' n' x' : ℤ) → SFits w16 z → n < 65536 → SFits w16 x → z' ≡ to_z w16 (of_z w16 z) → n' ≡ pos n → x' ≡ to_z w16 (of_z w16 x)
    → far z' n' x' ≡ (z +ℤ pos n) -ℤ x
far_is z n x z' n' x' fz fn fx ez en ex = omega (arith, ints)

far_past : (z : ℤ) (n : ℕ) (x far m : ℤ) → far ≡ (z +ℤ pos n) -ℤ x → m ≡ int_max far (pos 0) → nat_abs m ≡ past z n x
far_past z n x far m e h = grind (arith, ints, nat_tests)

pub returns : goal.returns
returns c =
    let a = c.args in
    let far_here = far_is a.z a.n a.corner c.from.result c.from-2.result c.from-3.result c.ranges.z c.ranges.n.fits c.ranges.corner c.from.ensures c.from-2.ensures c.from-3.ensures in
    let fits : SFits w32 c.max.result = search rules in
    ap nat_abs (to_z-of_z w32 c.max.result fits) ∙ far_past a.z a.n a.corner (far c.from.result c.from-2.result c.from-3.result) c.max.result far_here c.max.ensures.value
