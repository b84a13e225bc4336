use Rattle.std.proofs.Common.{◌≡◌, ℕ, ◌+◌, ◌-◌, ◌*◌, ◌/◌, ◌%◌, ◌^◌, ◌<◌, ◌≤◌, ◌≢◌, ◌∙◌, ⊎_elim, add-zero, arith}
use Rattle.std.specs.Int.RustNames.{bit_xor}
use lib.Bits.{bit_and}
use Rattle.std.proofs.lemmas.Bool.{cases_lt}
use Rattle.std.proofs.lemmas.Nat.{pow_pos, shl_whole, xor_lt}
use Rattle.std.proofs.lemmas.Nat.Bits.{shr_and_one, bit_at_xor, bit_at_lowest, bit_at-lt, bit_at-zero, bit_at_cat_low, bit_at_cat_high, bit_at_above}
use Rattle.raster.specs.Rules.{bit}
use Rattle.planes.proofs.words.put_bit.Goals as goal

module _ (n k b : ℕ) (lk : k < 32) (lb : b < 2) where
  abbrev change : ℕ
  change = bit_xor (bit n k) b

  small : change < 2
  small = xor_lt 1 (bit n k) b (bit_at-lt n k) lb

  -- each bit of the answer, and of the change
  answered : (j : ℕ) → bit (bit_xor n ((bit_xor (bit_and (n / 2 ^ k) 1) b * 2 ^ k) % 2 ^ 32)) j ≡ (bit n j + bit (change * 2 ^ k) j) % 2
  answered j = rw (shr_and_one n k, shl_whole change 1 k 32 small (omega arith)) (bit_at_xor n (change * 2 ^ k) j)

  changed : (j : ℕ) → k ≤ j → bit (change * 2 ^ k) j ≡ bit change (j - k)
  changed j l = simp add-zero at (bit_at_cat_high change k 0 j (pow_pos k) l)

  here : bit (bit_xor n ((bit_xor (bit_and (n / 2 ^ k) 1) b * 2 ^ k) % 2 ^ 32)) k ≡ b
  here =
      let e : k - k ≡ 0 = omega arith in
      let d : bit (change * 2 ^ k) k ≡ change % 2 = rw e at (changed k (omega arith)) ∙ bit_at_lowest change in
      let x = simp bit_at_lowest at (bit_at_xor (bit n k) b 0) in
      omega (arith, answered k, bit_at-lt n k)

  elsewhere : (j : ℕ) → j ≢ k → bit (bit_xor n ((bit_xor (bit_and (n / 2 ^ k) 1) b * 2 ^ k) % 2 ^ 32)) j ≡ bit n j
  elsewhere j ne =
      let d : bit (change * 2 ^ k) j ≡ 0 =
      ⊎_elim
      (λ (l : j < k). simp add-zero at (bit_at_cat_low change k 0 j l) ∙ bit_at-zero j)
      (λ (l : k ≤ j). changed j l ∙ bit_at_above change 1 (j - k) small (omega arith))
      (cases_lt j k) in
      omega (arith, answered j, bit_at-lt n j)

pub returns : goal.returns
returns c =
    let a = c.args in
    rw c.from.ensures record { here = here a.word a.k a.b (omega arith) (omega arith); others = elsewhere a.word a.k a.b (omega arith) (omega arith) }
