-- Sums over the numbers of patches, regrouped by client, row and column.
use Rattle.std.proofs.Common.{◌≡◌, ℕ, zero, suc, ◌+◌, ◌*◌, ◌/◌, ◌%◌, ◌<◌, ◌≤◌, Bool, true, false, cond, not, ◌||◌, eqb, ◌⊎◌, List, [], ◌∷◌, get_or, sym, refl, ap, ◌∙◌, ap₂, inl, inr, ⊎_elim, add-zero, add_assoc, suc-mul, zero-add, zero-mul, arith}
use Rattle.std.proofs.lemmas.Bool.{and_parts, cases_lt, cond-true, cond-false, eqb-true, eq-eqb, ne_eqb, or_left, or_right, not-true, both_ways}
use Rattle.raster.specs.Rules.{total}
use Rattle.raster.proofs.Digits.{total_alike}
use Rattle.paper.specs.Slots.{patches_along, patches_in, count_patches}
use Rattle.raster.specs.declared.rectangle.Rectangle.{Rectangle}
use Rattle.plan.specs.Frames.{no_frame, has, distinct}
use Rattle.plan.specs.Plans.{outline, outlines}
use Rattle.plan.specs.Counts.{counted, passing}

-- a sum that stays a sum
unfoldable pub tally : (ℕ → ℕ) → ℕ → ℕ
tally f n = total f n

pub tally_alike : (f g : ℕ → ℕ) (n : ℕ) → ((k : ℕ) → k < n → f k ≡ g k) → tally f n ≡ tally g n
unfolding tally
tally_alike = total_alike

pub tally_none : (f : ℕ → ℕ) (n : ℕ) → ((k : ℕ) → k < n → f k ≡ 0) → tally f n ≡ 0
unfolding tally
tally_none f zero e = refl
tally_none f (suc n) e = omega (arith, tally_none f n (λ k l. e k (omega arith)), e n (omega arith))

tally_plus : (f g : ℕ → ℕ) (n : ℕ) → tally (λ k. f k + g k) n ≡ tally f n + tally g n
unfolding tally
tally_plus f g zero = refl
tally_plus f g (suc n) = omega (arith, tally_plus f g n)

-- what is 0 from m on can be left out
tally_trim : (f : ℕ → ℕ) (m n : ℕ) → m ≤ n → ((k : ℕ) → m ≤ k → k < n → f k ≡ 0) → tally f n ≡ total f m
unfolding tally
tally_trim f m zero h e = let z : m ≡ 0 = omega arith in ap (total f) (sym z)
tally_trim f m (suc n) h e =
    ⊎_elim
    (λ (l : m ≤ n). omega (arith, tally_trim f m n l (λ k a b. e k a (omega arith)), e n l (omega arith)))
    (λ (l : n < m). let same : m ≡ suc n = omega arith in ap (total f) (sym same))
    (⊎_elim (λ (l : n < m). inr l) (λ (l : m ≤ n). inl l) (cases_lt n m))

tally_join : (f : ℕ → ℕ) (m n : ℕ) → tally f (m + n) ≡ tally f m + tally (λ k. f (m + k)) n
unfolding tally
tally_join f m zero = ap (total f) (add-zero m) ∙ sym (add-zero (total f m))
tally_join f m (suc n) =
    let e : m + suc n ≡ suc (m + n) = omega arith in
    ap (total f) e ∙ ap (λ k. k + f (m + n)) (tally_join f m n) ∙ add_assoc (total f m) (total (λ k. f (m + k)) n) (f (m + n))

tally_empty : (f : ℕ → ℕ) → tally f 0 ≡ 0
unfolding tally
tally_empty f = refl

tally_suc : (f : ℕ → ℕ) (n : ℕ) → tally f (suc n) ≡ tally f n + f n
unfolding tally
tally_suc f n = refl

-- a blocks of b numbers
pub tally_blocks : (f : ℕ → ℕ) (b a : ℕ) → tally f (a * b) ≡ tally (λ q. tally (λ r. f (q * b + r)) b) a
tally_blocks f b zero = ap (tally f) (zero-mul b) ∙ tally_empty f ∙ sym (tally_empty (λ q. tally (λ r. f (q * b + r)) b))
tally_blocks f b (suc a) =
    ap (tally f) (suc-mul a b) ∙ tally_join f (a * b) b ∙ ap (λ n. n + tally (λ r. f (a * b + r)) b) (tally_blocks f b a)
    ∙ sym (tally_suc (λ q. tally (λ r. f (q * b + r)) b) a)

pub counted_tally : (test : ℕ → Bool) (n : ℕ) → counted test n ≡ tally (λ k. cond (test k) 1 0) n
unfolding counted tally
counted_tally test n = refl

-- ── Clients ──

-- one client's share
tally_one : (g : ℕ → ℕ) (d n : ℕ) → d < n → tally (λ c. cond (eqb d c) (g c) 0) n ≡ g d
tally_one g d zero h = absurd (omega arith)
tally_one g d (suc n) h =
    tally_suc (λ c. cond (eqb d c) (g c) 0) n
    ∙ ⊎_elim
    (λ (l : d < n). ap₂ ◌+◌ (tally_one g d n l) (cond-false (eqb d n) (g n) 0 (ne_eqb d n (λ e. omega arith))) ∙ add-zero (g d))
    (λ (l : n ≤ d).
    let same : d ≡ n = omega arith in
    ap₂ ◌+◌ (tally_none (λ c. cond (eqb d c) (g c) 0) n (λ k m. cond-false (eqb d k) (g k) 0 (ne_eqb d k (λ e. omega arith)))) (cond-true (eqb d n) (g n) 0 (eq-eqb d n same))
    ∙ zero-add (g n) ∙ ap g (sym same))
    (cases_lt d n)

either_share : (a b : Bool) (n : ℕ) → (a ≡ true → b ≡ false) → cond (a || b) n 0 ≡ cond a n 0 + cond b n 0
either_share true true n h = absurd (both_ways true (h refl) refl)
either_share true false n h = sym (add-zero n)
either_share false b n h = sym (zero-add (cond b n 0))

-- the shares of the clients of a list, none there twice
pub tally_clients : (test : ℕ → ℕ → ℕ → Bool) (fs : List Rectangle) (n : ℕ) (cs : List ℕ) → distinct cs ≡ true → ((d : ℕ) → has d cs ≡ true → d < n)
    → tally (λ c. cond (has c cs) (patches_in (test c) (outline c (get_or fs c no_frame))) 0) n ≡ count_patches test (outlines cs fs)
tally_clients test fs n [] h low = tally_none (λ c. 0) n (λ k l. refl)
tally_clients test fs n (d ∷ cs) h low =
    let q = and_parts (not (has d cs)) (distinct cs) h in
    let g : ℕ → ℕ = λ c. patches_in (test c) (outline c (get_or fs c no_frame)) in
    tally_alike (λ c. cond (eqb d c || has c cs) (g c) 0) (λ c. cond (eqb d c) (g c) 0 + cond (has c cs) (g c) 0) n
    (λ c l. either_share (eqb d c) (has c cs) (g c) (λ e. ap (λ k. has k cs) (sym (eqb-true d c e)) ∙ not-true _ q.0))
    ∙ tally_plus (λ c. cond (eqb d c) (g c) 0) (λ c. cond (has c cs) (g c) 0) n
    ∙ ap₂ ◌+◌ (tally_one g d n (low d (or_left (eqb d d) (has d cs) (eq-eqb d d refl)))) (tally_clients test fs n cs q.1 (λ k e. low k (or_right (eqb d k) (has k cs) e)))

-- ── The patches of a client ──

-- the number of a patch, taken apart
module _ (c j i : ℕ) (hj : j < 15) (hi : i < 20) where
  abbrev number : ℕ
  number = c * 300 + (j * 20 + i)

  part_client : number / 300 ≡ c
  part_client = omega arith

  part_column : number % 300 % 20 ≡ i
  part_column = omega arith

  part_row : number % 300 / 20 ≡ j
  part_row = omega arith

abbrev pub by_number : (ℕ → ℕ → ℕ → Bool) → ℕ → Bool
by_number test k = test (k / 300) (k % 300 % 20) (k % 300 / 20)

abbrev one : Bool → ℕ
one b = cond b 1 0

-- all patches, by client, row and column
pub passing_parts : (test : ℕ → ℕ → ℕ → Bool) → passing (by_number test) ≡ tally (λ c. tally (λ j. tally (λ i. one (test c i j)) 20) 15) 8
passing_parts test =
    counted_tally (by_number test) 2400
    ∙ tally_blocks (λ k. one (by_number test k)) 300 8
    ∙ tally_alike _ _ 8 (λ c hc.
    tally_blocks (λ r. one (by_number test (c * 300 + r))) 20 15
    ∙ tally_alike _ _ 15 (λ j hj. tally_alike _ _ 20 (λ i hi.
    λ x. one (test (part_client c j i hj hi x) (part_column c j i hj hi x) (part_row c j i hj hi x)))))

-- the patches of a layer of w by h, where no other passes the test
pub layer_parts : (test other : ℕ → ℕ → Bool) (c : ℕ) (f : Rectangle) → f.w ≤ 320 → f.h ≤ 240
    → ((i j : ℕ) → (f.w ≤ 16 * i) ⊎ (f.h ≤ 16 * j) → test i j ≡ false)
    → ((i j : ℕ) → 16 * i < f.w → 16 * j < f.h → test i j ≡ other i j)
    → tally (λ j. tally (λ i. one (test i j)) 20) 15 ≡ patches_in other (outline c f)
layer_parts test other c f hw hh out in' =
    tally_trim (λ j. tally (λ i. one (test i j)) 20) (patches_along f.h) 15 (omega arith)
    (λ j a b. tally_none (λ i. one (test i j)) 20 (λ i _. ap one (out i j (inr (omega arith)))))
    ∙ total_alike (λ j. tally (λ i. one (test i j)) 20) (λ j. total (λ i. one (other i j)) (patches_along f.w)) (patches_along f.h)
    (λ j hj.
    tally_trim (λ i. one (test i j)) (patches_along f.w) 20 (omega arith) (λ i a b. ap one (out i j (inl (omega arith))))
    ∙ total_alike (λ i. one (test i j)) (λ i. one (other i j)) (patches_along f.w) (λ i hi. ap one (in' i j (omega arith) (omega arith))))
