use Rattle.std.proofs.Common.{◌≡◌, ℕ, ◌/◌, ◌^◌, ◌<◌, ◌≤◌, min, not, eqb, leb, sym, ap, ◌∙◌, ⊎_elim, arith, pow_mono}
use Rattle.std.proofs.lemmas.Nat.{pow_pos, le-div, div_below}
use Rattle.std.proofs.lemmas.Bool.{cases_lt, le-leb, lt-leb, eq-eqb, ne_eqb}
use Rattle.raster.proofs.size.Size.excludes.Goals as goal

-- a byte is 2^depth or more exactly if something is left of it after the shift
shifted : (v depth : ℕ) → v < 256 → not (eqb (v / 2 ^ min depth 8) 0) ≡ leb (2 ^ depth) v
shifted v depth small =
    let k : ℕ = min depth 8 in
    ⊎_elim
    (λ (l : v < 2 ^ k).
    let few : 2 ^ k ≤ 2 ^ depth = pow_mono {j = depth} (omega arith) in
    ap not (eq-eqb (v / 2 ^ k) 0 (omega (arith, div_below v (2 ^ k) 1 (pow_pos k) (omega arith)))) ∙ sym (lt-leb (2 ^ depth) v (omega arith)))
    (λ (l : 2 ^ k ≤ v).
    let same : k ≡ depth = ⊎_elim (λ (h : depth < 8). omega arith) (λ (h : 8 ≤ depth). let e : k ≡ 8 = omega arith in absurd (omega (arith, ap (λ n. 2 ^ n) e))) (cases_lt depth 8) in
    ap not (ne_eqb (v / 2 ^ k) 0 (omega (arith, le-div 1 v (2 ^ k) (pow_pos k) (omega arith)))) ∙ sym (le-leb (2 ^ depth) v (omega (arith, ap (λ n. 2 ^ n) same))))
    (cases_lt v (2 ^ k))

pub returns : goal.returns
returns c =
    ap (λ n. not (eqb (n / 2 ^ c.min.result) 0)) c.from.ensures ∙ ap (λ n. not (eqb (c.args.v / 2 ^ n) 0)) c.min.ensures
    ∙ shifted c.args.v c.args.self.depth (omega arith)
