-- Runs: where they start, what they spell, and one more pixel.
-- Lemmas: proved, not to be believed. They stand here since the laws in the impl of Bitmap cite them.
use Rattle.std.specs.Prelude.{◌≡◌, ℕ, zero, suc, ◌+◌, ◌-◌, ◌*◌, ◌/◌, ◌%◌, ◌^◌, ◌<◌, ◌≤◌, ◌≢◌, List, [], ◌∷◌, length, set, slice_index, slice_index_or, slice_set, refl}
use Rattle.std.proofs.Common.{sym, ap, subst, ◌∙◌, ⊎_elim, mod-eq_of_lt, arith}
use Rattle.std.proofs.lemmas.List.{length-set, get_or-set_same, get_or-set_other}
use Rattle.std.proofs.lemmas.Bool.{cases_lt}
use Rattle.std.proofs.lemmas.Nat.{pow_pos, mod_below}
use Rattle.std.proofs.lemmas.Bool.Decides.{nat_tests}
use Rattle.raster.specs.Rules.{total}
use Rattle.raster.proofs.Digits.{total_alike}
use Rattle.runrows.specs.Runs.{run_at, run_len, starts, Runs}
use Rattle.runrows.specs.Writing.{Spelt, Added}

-- sums

total_first : (f : ℕ → ℕ) (n : ℕ) → total f (suc n) ≡ f 0 + total (λ k. f (suc k)) n
total_first f zero = omega arith
total_first f (suc n) = omega (arith, total_first f n)

pub total_grows : (f : ℕ → ℕ) (k n : ℕ) → k ≤ n → total f k ≤ total f n
total_grows f k zero l = let e : k ≡ 0 = omega arith in rw e (omega arith)
total_grows f k (suc n) l =
    ⊎_elim (λ (h : k < suc n). omega (arith, total_grows f k n (omega arith))) (λ (h : suc n ≤ k). let e : k ≡ suc n = omega arith in rw e (omega arith)) (cases_lt k (suc n))

-- the run of a pixel
pub which_run : (f : ℕ → ℕ) (n x : ℕ) → x < total f n → (k : ℕ) × (k < n) × (total f k ≤ x) × (x < total f (suc k))
which_run f zero x l = absurd (omega arith)
which_run f (suc n) x l =
    ⊎_elim (λ (h : x < total f n). let r = which_run f n x h in (r.0, omega (arith, r.1), r.2, r.3)) (λ (h : total f n ≤ x). (n, omega arith, h, l)) (cases_lt x (total f n))

-- what a row reads at a pixel of the run k
pub run_reads : (depth : ℕ) (es : List ℕ) (k x : ℕ) → k < length es → ((i : ℕ) → i < suc k → 0 < run_len es i) → starts es k ≤ x → x < starts es (suc k)
    → run_at depth es x ≡ slice_index es k % 16 % 2 ^ depth
run_reads depth [] k x l some lo hi = absurd (omega arith)
run_reads depth (e ∷ es) zero x l some lo hi = let p : 0 < e / 16 = some 0 (omega arith) in grind (arith, nat_tests)
run_reads depth (e ∷ es) (suc k) x l some lo hi =
    let p : 0 < e / 16 = some 0 (omega arith) in
    let f1 : starts (e ∷ es) (suc k) ≡ e / 16 + starts es k = total_first (run_len (e ∷ es)) k in
    let f2 : starts (e ∷ es) (suc (suc k)) ≡ e / 16 + starts es (suc k) = total_first (run_len (e ∷ es)) (suc k) in
    let rest = run_reads depth es k (x - e / 16) (omega arith) (λ i m. some (suc i) (omega arith)) (omega arith) (omega arith) in
    grind (arith, nat_tests)

-- lists that agree below a place
pub starts_alike : (es fs : List ℕ) (n : ℕ) → ((k : ℕ) → k < n → slice_index fs k ≡ slice_index es k) → (k : ℕ) → k ≤ n → starts fs k ≡ starts es k
starts_alike es fs n e k l = total_alike (run_len fs) (run_len es) k (λ i m. ap (λ v. v / 16) (e i (omega arith)))

pub runs_kept : (depth : ℕ) (es fs : List ℕ) (n w : ℕ) → length fs ≡ length es → ((k : ℕ) → k < n → slice_index fs k ≡ slice_index es k) → Runs depth es n w → Runs depth fs n w
runs_kept depth es fs n w el e r =
    record {
      within = omega (arith, r.within);
      some = λ k l. rw (e k l) (r.some k l);
      small = λ k l. rw (e k l) (r.small k l);
      differ = λ k l q. r.differ k l (sym (ap (λ v. v % 16) (e k (omega arith))) ∙ q ∙ ap (λ v. v % 16) (e (suc k) l));
      sum = starts_alike es fs n e n (omega arith) ∙ r.sum;
    }

pub spelt_kept : (es fs pixels : List ℕ) (n : ℕ) → ((k : ℕ) → k < n → slice_index fs k ≡ slice_index es k) → Spelt es n pixels → Spelt fs n pixels
spelt_kept es fs pixels n e s k x l lo hi =
    ap (λ v. v % 16) (e k l) ∙ s k x l (omega (arith, starts_alike es fs n e k (omega arith))) (omega (arith, starts_alike es fs n e (suc k) (omega arith)))

-- one more pixel

abbrev pub More : ℕ → List ℕ → ℕ → ℕ → List ℕ → Type 0
More depth fs m x pixels = Runs depth fs m x × Spelt fs m pixels × (m ≤ x)

-- the entry after i runs is set to a run that ends at the pixel x
module _ (depth : ℕ) (es pixels : List ℕ) (i new x : ℕ) (r : Runs depth es i (starts es i)) (s : Spelt es i pixels) (room : i < length es) (le : i ≤ x)
    (some : 0 < new / 16) (few : new % 16 < 2 ^ depth) (next : 0 < i → slice_index es (i - 1) % 16 ≢ new % 16) (end : starts es i + new / 16 ≡ x + 1)
    (spell : (p : ℕ) → starts es i ≤ p → p < x + 1 → new % 16 ≡ slice_index pixels p) where
  run_put : More depth (slice_set es i new) (i + 1) (x + 1) pixels
  run_put =
      let fs : List ℕ = set es i new in
      let here : (k : ℕ) → k ≡ i → slice_index_or fs k 0 ≡ new = λ k z. ap (λ n. slice_index fs n) z ∙ get_or-set_same es i new 0 room in
      let other : (k : ℕ) → k < i → slice_index_or fs k 0 ≡ slice_index_or es k 0 = λ k l. get_or-set_other es i k new 0 (omega arith) in
      let begin : (k : ℕ) → k ≤ i → starts fs k ≡ starts es k = starts_alike es fs i other in
      let last : starts fs (suc i) ≡ x + 1 = omega (arith, begin i (omega arith), here i refl) in
      let e1 : i + 1 ≡ suc i = omega arith in (
        record {
          within = omega (arith, length-set es i new);
          some = λ k l. ⊎_elim (λ (h : k < i). rw (other k h) (r.some k h)) (λ (h : i ≤ k). rw (here k (omega arith)) some) (cases_lt k i);
          small = λ k l. ⊎_elim (λ (h : k < i). rw (other k h) (r.small k h)) (λ (h : i ≤ k). rw (here k (omega arith)) few) (cases_lt k i);
          differ = λ k l q.
              ⊎_elim (λ (h : suc k < i). r.differ k h (sym (ap (λ m. m % 16) (other k (omega arith))) ∙ q ∙ ap (λ m. m % 16) (other (suc k) h)))
              (λ (h : i ≤ suc k).
              let z : i - 1 ≡ k = omega arith in
              next (omega arith) (ap (λ m. slice_index es m % 16) z ∙ sym (ap (λ m. m % 16) (other k (omega arith))) ∙ q ∙ ap (λ m. m % 16) (here (suc k) (omega arith))))
              (cases_lt (suc k) i);
          sum = ap (starts fs) e1 ∙ last;
        },
        (λ k p l lo hi.
            ⊎_elim (λ (h : k < i). ap (λ m. m % 16) (other k h) ∙ s k p h (omega (arith, begin k (omega arith))) (omega (arith, begin (suc k) h)))
            (λ (h : i ≤ k).
            let z : k ≡ i = omega arith in
            ap (λ m. m % 16) (here k z) ∙ spell p (omega (arith, begin i (omega arith), ap (starts fs) z, lo)) (omega (arith, last, ap (λ m. starts fs (suc m)) z, hi)))
            (cases_lt k i)),
        omega arith,
      )

pub add_more : (depth : ℕ) (es fs pixels : List ℕ) (n m v x : ℕ) → v < 2 ^ depth → v < 16 → v ≡ slice_index pixels x → Runs depth es n x → Spelt es n pixels → n ≤ x → n < length es
    → Added es n v fs m → More depth fs m (x + 1) pixels
add_more depth es fs pixels n m v x few small is r s le room a =
    ⊎_elim
    (λ (h : (0 < n) × (slice_index es (n - 1) % 16 ≡ v) × (m ≡ n) × (fs ≡ slice_set es (n - 1) (slice_index es (n - 1) + 16))).
    let i : ℕ = n - 1 in
    let new : ℕ = slice_index es i + 16 in
    let e : n ≡ suc i = omega (arith, h.0) in
    let sum : starts es i + slice_index es i / 16 ≡ x = sym (ap (starts es) e) ∙ r.sum in
    let before : Runs depth es i (starts es i) =
    record { within = omega (arith, r.within); some = λ k l. r.some k (omega arith); small = λ k l. r.small k (omega arith); differ = λ k l. r.differ k (omega arith); sum = refl } in
    let value : new % 16 ≡ slice_index es i % 16 = omega arith in
    let differ : 0 < i → slice_index es (i - 1) % 16 ≢ new % 16 =
    λ p q. let z : i ≡ suc (i - 1) = omega arith in r.differ (i - 1) (omega arith) (q ∙ value ∙ ap (λ k. slice_index es k % 16) z) in
    let spell : (p : ℕ) → starts es i ≤ p → p < x + 1 → new % 16 ≡ slice_index pixels p =
    λ p lo hi.
    value
    ∙ ⊎_elim (λ (l : p < x). s i p (omega arith) lo (omega (arith, sum))) (λ (l : x ≤ p). let z : x ≡ p = omega arith in h.1 ∙ is ∙ ap (λ k. slice_index pixels k) z) (cases_lt p x) in
    let more : More depth (slice_set es i new) (i + 1) (x + 1) pixels =
    run_put depth es pixels i new x before (λ k p l. s k p (omega arith)) (omega arith) (omega arith) (omega arith) (rw value (r.small i (omega arith))) differ (omega (arith, sum)) spell in
    let e' : m ≡ i + 1 = omega (arith, h.0, h.2) in
    subst (λ (k : ℕ). More depth fs k (x + 1) pixels) (sym e') (subst (λ (gs : List ℕ). More depth gs (i + 1) (x + 1) pixels) (sym h.3) more))
    (λ (h : (0 < n → slice_index es (n - 1) % 16 ≢ v) × (m ≡ n + 1) × (fs ≡ slice_set es n (16 + v))).
    let value : (16 + v) % 16 ≡ v = omega arith in
    let before : Runs depth es n (starts es n) = subst (λ (w : ℕ). Runs depth es n w) (sym r.sum) r in
    let more : More depth (slice_set es n (16 + v)) (n + 1) (x + 1) pixels =
    run_put depth es pixels n (16 + v) x before s room le (omega arith) (rw value few) (λ p q. h.0 p (q ∙ value)) (omega (arith, r.sum))
    (λ p lo hi. let z : p ≡ x = omega (arith, r.sum) in value ∙ is ∙ ap (λ k. slice_index pixels k) (sym z)) in
    subst (λ (k : ℕ). More depth fs k (x + 1) pixels) (sym h.1) (subst (λ (gs : List ℕ). More depth gs (n + 1) (x + 1) pixels) (sym h.2) more))
    a.how

-- no entry is longer than the row
pub entry_short : (depth : ℕ) (es : List ℕ) (n w k : ℕ) → Runs depth es n w → k < n → slice_index es k < (w + 1) * 16
entry_short depth es n w k r l =
    let g : starts es (suc k) ≤ starts es n = total_grows (run_len es) (suc k) n l in
    omega (arith, g, r.sum)

pub spells : (depth : ℕ) (es pixels : List ℕ) (n w : ℕ) → Runs depth es n w → Spelt es n pixels → (x : ℕ) → x < w → run_at depth es x ≡ slice_index pixels x
spells depth es pixels n w r s x l =
    let q = which_run (run_len es) n x (omega (arith, r.sum)) in
    run_reads depth es q.0 x (omega (arith, r.within, q.1)) (λ i m. r.some i (omega (arith, q.1))) q.2 q.3
    ∙ mod-eq_of_lt (r.small q.0 q.1) ∙ s q.0 x q.1 q.2 q.3

-- runs have values of any depth that their pixels fit
pub runs_fit : (depth less : ℕ) (es pixels : List ℕ) (n w : ℕ) → Runs depth es n w → Spelt es n pixels → ((k : ℕ) → k < w → slice_index pixels k < 2 ^ less)
    → Runs less es n w
runs_fit depth less es pixels n w r s fit =
    record {
      within = r.within;
      some = r.some;
      small = λ k l.
          let g : starts es (suc k) ≤ starts es n = total_grows (run_len es) (suc k) n l in
          let some = r.some k l in
          rw (s k (starts es k) l (omega arith) (omega arith)) (fit (starts es k) (omega (arith, r.sum)));
      differ = r.differ;
      sum = r.sum;
    }

pub run_below : (depth : ℕ) (es : List ℕ) (x : ℕ) → run_at depth es x < 2 ^ depth
run_below depth [] x = pow_pos depth
run_below depth (e ∷ es) x = grind (arith, nat_tests, pow_pos depth, mod_below (e % 16) (2 ^ depth) (pow_pos depth), run_below depth es (x - e / 16))
