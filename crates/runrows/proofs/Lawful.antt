-- A row has one writing.
use Rattle.std.proofs.Common.{◌≡◌, ℕ, zero, suc, ◌%◌, ◌<◌, ◌≤◌, ◌⊎◌, List, length, get_or, sym, ap, ◌∙◌, ⊎_elim, mod-eq_of_lt, arith}
use Rattle.std.proofs.lemmas.Nat.{div-add-mod'}
use Rattle.std.proofs.lemmas.List.{ext_get_or}
use Rattle.std.proofs.lemmas.Bool.{cases_lt, cases_order}
use Rattle.runrows.specs.Runs.{run_at, run_len, starts, Runs, Settled}
use Rattle.runrows.specs.Laws.{RunLaws}
use Rattle.runrows.specs.Spell.{run_reads, starts_alike, total_grows}

-- the value of a run is what its pixels read
run_value : (depth : ℕ) (es : List ℕ) (n w k x : ℕ) → Runs depth es n w → k < n → starts es k ≤ x → x < starts es (suc k) → run_at depth es x ≡ get_or es k 0 % 16
run_value depth es n w k x r l lo hi =
    run_reads depth es k x (omega (arith, r.within)) (λ i m. r.some i (omega arith)) lo hi ∙ mod-eq_of_lt (r.small k l)

-- no run of the one ends before that of the other where all before them agree
module _ (depth : ℕ) (es fs : List ℕ) (n m w : ℕ) (r : Runs depth es n w) (q : Runs depth fs m w) (same : (x : ℕ) → x < w → run_at depth es x ≡ run_at depth fs x)
    (k : ℕ) (ln : k < n) (lm : k < m) (begin : starts es k ≡ starts fs k) where
  reach_one : starts es (suc k) ≤ w
  reach_one = omega (arith, total_grows (run_len es) (suc k) n ln, r.sum)

  reach_two : starts fs (suc k) ≤ w
  reach_two = omega (arith, total_grows (run_len fs) (suc k) m lm, q.sum)

  values : get_or es k 0 % 16 ≡ get_or fs k 0 % 16
  values =
      let one = r.some k ln in
      let two = q.some k lm in
      sym (run_value depth es n w k (starts es k) r ln (omega arith) (omega arith)) ∙ same (starts es k) (omega (arith, reach_one))
      ∙ run_value depth fs m w k (starts es k) q lm (omega arith) (omega arith)

  not_shorter : run_len es k < run_len fs k → ⊥
  not_shorter l =
      let x : ℕ = starts es (suc k) in
      let lx : x < w = omega (arith, reach_two) in
      let more : suc k < n = ⊎_elim (λ (h : suc k < n). h) (λ (h : n ≤ suc k). absurd (let e : n ≡ suc k = omega arith in omega (arith, ap (starts es) e, r.sum))) (cases_lt (suc k) n) in
      let next = r.some (suc k) more in
      r.differ k more
      (values ∙ sym (run_value depth fs m w k x q lm (omega arith) (omega arith)) ∙ sym (same x lx) ∙ run_value depth es n w (suc k) x r more (omega arith) (omega arith))

module _ (depth : ℕ) (es fs : List ℕ) (n m w : ℕ) (r : Runs depth es n w) (q : Runs depth fs m w) (same : (x : ℕ) → x < w → run_at depth es x ≡ run_at depth fs x) where
  -- as many runs as the one has, the other has too, and they are equal
  agree : (k : ℕ) → k ≤ n → (k ≤ m) × ((i : ℕ) → i < k → get_or fs i 0 ≡ get_or es i 0)
  agree zero l = (omega arith, λ i h. absurd (omega arith))
  agree (suc k) l =
      let before = agree k (omega arith) in
      let begin : starts es k ≡ starts fs k = sym (starts_alike es fs k before.1 k (omega arith)) in
      let some = r.some k l in
      let part = total_grows (run_len es) (suc k) n l in
      let lm : k < m =
      ⊎_elim (λ (h : k < m). h) (λ (h : m ≤ k). absurd (let e : m ≡ k = omega (arith, before.0) in omega (arith, ap (starts fs) e, q.sum, r.sum, part, some, begin))) (cases_lt k m) in
      let value = values depth es fs n m w r q same k l lm begin in
      let len : run_len es k ≡ run_len fs k =
      ⊎_elim (λ (h : run_len es k ≡ run_len fs k). h)
      (λ (h : (run_len es k < run_len fs k) ⊎ (run_len fs k < run_len es k)).
      absurd (⊎_elim (λ (i : run_len es k < run_len fs k). not_shorter depth es fs n m w r q same k l lm begin i)
      (λ (i : run_len fs k < run_len es k). not_shorter depth fs es m n w q r (λ x lx. sym (same x lx)) k lm l (sym begin) i) h))
      (cases_order (run_len es k) (run_len fs k)) in
      let entry : get_or fs k 0 ≡ get_or es k 0 = omega (arith, len, value, div-add-mod' (get_or es k 0) 16, div-add-mod' (get_or fs k 0) 16) in
      (lm, λ i h. ⊎_elim (λ (p : i < k). before.1 i p) (λ (p : k ≤ i). let e : i ≡ k = omega arith in rw e entry) (cases_lt i k))

one_writing : (depth : ℕ) (one two : List ℕ) (w : ℕ) → length one ≡ length two → Settled depth one w → Settled depth two w
    → ((x : ℕ) → x < w → run_at depth one x ≡ run_at depth two x) → one ≡ two
one_writing depth one two w long (n, r, none) (m, q, none') same =
    let there = agree depth one two n m w r q same n (omega arith) in
    let back = agree depth two one m n w q r (λ x l. sym (same x l)) m (omega arith) in
    ext_get_or 0 one two long
    (λ i _. ⊎_elim (λ (l : i < n). sym (there.1 i l)) (λ (l : n ≤ i). none i l ∙ sym (none' i (omega (arith, back.0)))) (cases_lt i n))

pub run_laws_lem : RunLaws
run_laws_lem = record { one_writing = one_writing }
