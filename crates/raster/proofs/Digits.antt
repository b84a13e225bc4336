-- Sums of bits, and tests over all numbers below a bound.
use Rattle.std.proofs.Common.{◌≡◌, ℕ, zero, suc, ◌+◌, ◌-◌, ◌*◌, ◌/◌, ◌%◌, ◌^◌, ◌<◌, ◌≤◌, Bool, true, eqb, List, [], get_or, sym, refl, ap, ◌∙◌, ⊎_elim, mod-eq_of_lt, add_comm, pow-suc, add-one, arith, pow_mono}
use Rattle.std.proofs.lemmas.Nat.{mod-pow-add, mul-le, shr_high, shl_whole}
use Rattle.std.proofs.lemmas.Bool.{eqb-true, cases_lt, agree_below, agree_below_at}
pub use Rattle.std.proofs.lemmas.Nat.Bits.{bit_at-lt as bit_below}
use Rattle.std.proofs.lemmas.Nat.Bits.{bit_at_cat_low, bit_at-lt}
use Rattle.raster.specs.Rules.{total, bit, result, combined}

-- a test passes at each number below n
abbrev pub all_below : (ℕ → Bool) → ℕ → Bool
all_below f n = agree_below f (λ _. true) n

pub at_below : (f : ℕ → Bool) (n : ℕ) → all_below f n ≡ true → (k : ℕ) → k < n → f k ≡ true
at_below f n t k h = agree_below_at f (λ _. true) n k t h

-- a table of sixteen rows of four, by its one test
pub table_rule : (rows : List (List ℕ)) →
    all_below (λ r. all_below (λ p. eqb (get_or (get_or rows r []) p 0) (bit r (3 - p))) 4) 16 ≡ true →
    (r p : ℕ) → r < 16 → p < 4 → get_or (get_or rows r []) p 0 ≡ bit r (3 - p)
table_rule rows t r p hr hp =
    eqb-true _ _
    (at_below (λ p. eqb (get_or (get_or rows r []) p 0) (bit r (3 - p))) 4
    (at_below (λ r. all_below (λ p. eqb (get_or (get_or rows r []) p 0) (bit r (3 - p))) 4) 16 t r hr) p hp)

-- sums that agree below n
pub total_alike : (f g : ℕ → ℕ) (n : ℕ) → ((k : ℕ) → k < n → f k ≡ g k) → total f n ≡ total g n
total_alike f g zero e = refl
total_alike f g (suc n) e = rw (total_alike f g n (λ k l. e k (omega arith)), e n (omega arith)) refl

-- n bits make a number below 2 ^ n
pub total_below : (f : ℕ → ℕ) → ((j : ℕ) → f j < 2) → (n : ℕ) → total (λ j. f j * 2 ^ j) n < 2 ^ n
total_below f h zero = omega arith
total_below f h (suc n) =
    omega (arith, total_below f h n, h n, mul-le (f n) (2 ^ n) 1 (2 ^ n) (omega (arith, h n)) (omega arith), pow-suc 2 n)

-- the bits of a number that bits make
pub total_bit : (f : ℕ → ℕ) → ((j : ℕ) → f j < 2) → (n k : ℕ) → k < n → bit (total (λ j. f j * 2 ^ j) n) k ≡ f k
total_bit f h zero k l = absurd (omega arith)
total_bit f h (suc n) k l =
    ⊎_elim (λ (m : k < n). ap (λ v. bit v k) (add_comm (total (λ j. f j * 2 ^ j) n) (f n * 2 ^ n)) ∙ bit_at_cat_low (f n) n (total (λ j. f j * 2 ^ j) n) k m ∙ total_bit f h n k m)
    (λ (m : n ≤ k).
    let e : k ≡ n = omega arith in
    rw e (ap (λ v. v % 2) (ap (λ v. v / 2 ^ n) (add_comm (total (λ j. f j * 2 ^ j) n) (f n * 2 ^ n)) ∙ shr_high (f n) n (total (λ j. f j * 2 ^ j) n) (total_below f h n))
    ∙ mod-eq_of_lt (h n)))
    (cases_lt k n)

-- a loop that sums bits: one more
pub total_more : (f : ℕ → ℕ) → ((j : ℕ) → f j < 2) → (j all r : ℕ) → j < 8 → all ≡ total (λ k. f k * 2 ^ k) j → r ≡ f j →
    (all + (r * 2 ^ j) % 256 ≡ total (λ k. f k * 2 ^ k) (j + 1)) × (all + (r * 2 ^ j) % 256 < 256)
total_more f h j all r l inv e =
    let two : r < 2 = omega (arith, e, h j) in
    let shl : (r * 2 ^ j) % 256 ≡ r * 2 ^ j = shl_whole r 1 j 8 two (omega arith) in
    let sum : all + (r * 2 ^ j) % 256 ≡ total (λ k. f k * 2 ^ k) (suc j) = rw (shl, inv, e) in
    let small : total (λ k. f k * 2 ^ k) (suc j) < 2 ^ suc j = total_below f h (suc j) in
    let most : 2 ^ suc j ≤ 2 ^ 8 = pow_mono {j = 8} (omega arith) in
    (rw add-one sum, omega arith)

-- a number is the sum of its bits
pub bits_all : (v n : ℕ) → total (λ j. bit v j * 2 ^ j) n ≡ v % 2 ^ n
bits_all v zero = omega arith
bits_all v (suc n) =
    let e : suc n ≡ 1 + n = omega arith in
    rw (bits_all v n) (add_comm (v % 2 ^ n) (bit v n * 2 ^ n) ∙ sym (ap (λ m. v % 2 ^ m) e ∙ mod-pow-add v 1 n))

-- what a rule makes of two bits, by one test
pub of_two_bits : (rule : ℕ) (pick : ℕ → ℕ → ℕ) → all_below (λ s. all_below (λ d. eqb (result rule s d) (pick s d)) 2) 2 ≡ true
    → (s d : ℕ) → s < 2 → d < 2 → result rule s d ≡ pick s d
of_two_bits rule pick t s d ls ld =
    eqb-true _ _ (at_below (λ d. eqb (result rule s d) (pick s d)) 2 (at_below (λ s. all_below (λ d. eqb (result rule s d) (pick s d)) 2) 2 t s ls) d ld)

-- what a rule makes of two pixels

pub combined_below : (depth rule s d : ℕ) → combined depth rule s d < 2 ^ depth
unfolding combined
combined_below depth rule s d = total_below (λ j. result rule (bit s j) (bit d j)) (λ j. bit_at-lt rule _) depth

pub combined_bit : (depth rule s d j : ℕ) → j < depth → bit (combined depth rule s d) j ≡ result rule (bit s j) (bit d j)
unfolding combined
combined_bit depth rule s d j l = total_bit (λ j. result rule (bit s j) (bit d j)) (λ j. bit_at-lt rule _) depth j l
