-- How many patches pass a test, and how many another.
use Rattle.std.proofs.Common.{◌≡◌, ℕ, zero, suc, ◌+◌, ◌<◌, ◌≤◌, Bool, true, false, cond, ◌||◌, eqb, sym, refl, ap, ◌∙◌, ⊎_elim, arith}
use Rattle.std.proofs.lemmas.Bool.Decides.{nat_tests}
use Rattle.std.proofs.lemmas.Bool.{cases_lt, eqb-true, eq-eqb, ne_eqb, or_right, or_cases}
use Rattle.raster.specs.Rules.{total}
use Rattle.raster.proofs.Digits.{total_alike}
use Rattle.plan.specs.Counts.{counted}

-- none pass a test that fails below n
pub counted_none : (f : ℕ → Bool) (n : ℕ) → ((k : ℕ) → k < n → f k ≡ false) → counted f n ≡ 0
unfolding counted
counted_none f zero e = refl
counted_none f (suc n) e =
    let here : ◌≡◌ {A = ℕ} (cond (f n) 1 0) 0 = ap (λ b. cond b 1 0) (e n (omega arith)) in
    omega (arith, counted_none f n (λ k l. e k (omega arith)))

-- one more passes a test that differs at one patch alone
pub counted_one : (f g : ℕ → Bool) (n j : ℕ) → j < n → f j ≡ false → g j ≡ true → ((k : ℕ) → k < n → (k ≡ j → ⊥) → f k ≡ g k) → counted g n ≡ counted f n + 1
unfolding counted
counted_one f g zero j l ef eg h = absurd (omega arith)
counted_one f g (suc n) j l ef eg h =
    ⊎_elim
    (λ (s : j < n).
    let here : ◌≡◌ {A = ℕ} (cond (f n) 1 0) (cond (g n) 1 0) = ap (λ b. cond b 1 0) (h n (omega arith) (λ e. omega arith)) in
    omega (arith, counted_one f g n j s ef eg (λ k l. h k (omega arith))))
    (λ (s : n ≤ j).
    let same : j ≡ n = omega arith in
    let a : ◌≡◌ {A = ℕ} (cond (f n) 1 0) 0 = ap (λ b. cond b 1 0) (ap f (sym same) ∙ ef) in
    let b : ◌≡◌ {A = ℕ} (cond (g n) 1 0) 1 = ap (λ b. cond b 1 0) (ap g (sym same) ∙ eg) in
    let below : total (λ k. cond (f k) 1 0) n ≡ total (λ k. cond (g k) 1 0) n = total_alike _ _ n (λ k l. ap (λ b. cond b 1 0) (h k (omega arith) (λ e. omega arith))) in
    omega arith)
    (cases_lt j n)

pub counted_alike : (f g : ℕ → Bool) (n : ℕ) → ((k : ℕ) → k < n → f k ≡ g k) → counted f n ≡ counted g n
unfolding counted
counted_alike f g n e = total_alike _ _ n (λ k l. ap (λ b. cond b 1 0) (e k l))

-- fewer pass a test that is stricter, and strictly fewer if it fails where the other passes
one_most : (a b : Bool) → (a ≡ true → b ≡ true) → cond a 1 0 ≤ cond b 1 0
one_most true b h = rw (h refl) (omega arith)
one_most false b h = omega arith

pub counted_fewer : (f g : ℕ → Bool) (n : ℕ) → ((k : ℕ) → k < n → f k ≡ true → g k ≡ true) → counted f n ≤ counted g n
unfolding counted
counted_fewer f g zero h = omega arith
counted_fewer f g (suc n) h = omega (arith, counted_fewer f g n (λ k l. h k (omega arith)), one_most (f n) (g n) (h n (omega arith)))

pub counted_less : (f g : ℕ → Bool) (n j : ℕ) → j < n → f j ≡ false → g j ≡ true → ((k : ℕ) → k < n → f k ≡ true → g k ≡ true) → counted f n < counted g n
counted_less f g n j l ef eg h =
    let with_j : ℕ → Bool = λ k. f k || eqb k j in
    omega (
      arith,
      counted_one f with_j n j l ef (or_right (f j) _ (eq-eqb j j refl)) (λ k _ ne. sym (or_else (f k) _ (ne_eqb k j ne))),
      counted_fewer with_j g n (λ k m e. ⊎_elim (λ (a : f k ≡ true). h k m a) (λ (a : eqb k j ≡ true). ap g (eqb-true k j a) ∙ eg) (or_cases (f k) (eqb k j) e)),
    )
  where
    or_else : (a b : Bool) → b ≡ false → (a || b) ≡ a
    or_else a b e = grind (arith, nat_tests)
