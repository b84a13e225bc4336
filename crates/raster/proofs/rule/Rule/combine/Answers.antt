use Rattle.std.proofs.Common.{◌≡◌, ℕ, ◌+◌, ◌*◌, ◌/◌, ◌%◌, ◌^◌, ◌<◌, min, ap, ◌∙◌, arith}
use lib.Bits.{bit_and, and_mask}
use Rattle.raster.specs.Rules.{total, bit, result, combined}
use Rattle.raster.proofs.Digits.{bit_below, total_more}
use Rattle.raster.proofs.rule.Rule.combine.Goals as goal

-- the result bits
abbrev bits : ℕ → ℕ → ℕ → ℕ → ℕ
bits rule s d k = result rule (bit s k) (bit d k)

here : (rule s d j r : ℕ) → r ≡ result rule (bit_and (s / 2 ^ j) 1) (bit_and (d / 2 ^ j) 1) → r ≡ bits rule s d j
here rule s d j r is = is ∙ ap (λ v. result rule v (bit_and (d / 2 ^ j) 1)) (and_mask (s / 2 ^ j) 1) ∙ ap (result rule (bit s j)) (and_mask (d / 2 ^ j) 1)

abbrev Step : ℕ → ℕ → ℕ → ℕ → ℕ → ℕ → Type 0
Step rule s d j all r =
    (all + (r * 2 ^ j) % 256 ≡ total (λ k. bits rule s d k * 2 ^ k) (j + 1)) × (all + (r * 2 ^ j) % 256 < 256)

step : (c : goal.After-result_bit) → Step c.args.self.number c.args.s c.args.d c.loop-j.j c.loop-j.all c.result_bit.result
step c =
    let rule = c.args.self.number in
    total_more (bits rule c.args.s c.args.d) (λ k. bit_below rule _) c.loop-j.j c.loop-j.all
    c.result_bit.result (omega arith) c.loop-j.invariant (here rule c.args.s c.args.d c.loop-j.j c.result_bit.result c.result_bit.ensures)

pub overflow_add-all : goal.overflow_add-all
overflow_add-all c = omega (arith, step c)

pub loop-j-preserved : goal.loop-j-preserved
loop-j-preserved c = (step c).0

pub returns : goal.returns
unfolding combined
returns c =
    let e : c.loop-j.j ≡ min c.args.depth 8 = omega arith in
    c.loop-j.invariant ∙ ap (total (λ k. bits c.args.self.number c.args.s c.args.d k * 2 ^ k)) e
