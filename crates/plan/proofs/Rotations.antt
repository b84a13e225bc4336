-- Where a client stands in an order, and the order once a part of it is rotated.
use Rattle.std.proofs.Common.{◌≡◌, ℕ, zero, suc, ◌+◌, ◌-◌, ◌<◌, ◌≤◌, Bool, true, false, cond, not, ◌||◌, eqb, ltb, List, [], ◌∷◌, ◌++◌, length, get_or, take, drop, Some, None, sym, refl, ap, ◌∙◌, ap₂, subst, ⊎_elim, add-one, arith}
use Rattle.std.specs.List.{remove, position, position_or_len}
use Rattle.std.specs.List.Sorted.{IsPermutation}
use Rattle.std.proofs.lemmas.List.{append_assoc, length-append, length-drop, length-take-le, length_push, take-append-drop, take-take, take_at, drop_at, take_more, drop_more, drop-append-le, get_or_past}
use Rattle.std.proofs.lemmas.List.Elements.{All-from_get_or}
use Rattle.std.proofs.lemmas.List.Edits.{length-remove, remove-append_left}
use Rattle.std.proofs.lemmas.List.Quantifiers.{position-Some}
use Rattle.std.proofs.lemmas.List.Sorted.{All-permutation}
use Rattle.std.proofs.lemmas.Slice.{between_is, put_mid-rotated, take-put_mid}
use Rattle.std.proofs.lemmas.Bool.{and_parts, eqb-true, eq-eqb, ne_eqb, lt-ltb, not-true, or_left, or_right, both_ways, cases_lt}
use Rattle.std.proofs.lemmas.Bool.Decides.{nat_tests}
use borrow.Rule.Slice.PartMut.{put_mid, mid_of}
use Rattle.plan.specs.declared.plan.Plan.{Plan}
use Rattle.plan.specs.Frames.{has, distinct}
use Rattle.plan.specs.Plans.{listed}
use Rattle.plan.proofs.Orders.{others, others_all}

-- ── A client's place ──

placed : (c : ℕ) (cs : List ℕ) → has c cs ≡ ltb (position_or_len (λ d. eqb d c) cs) (length cs)
placed c [] = refl
placed c (d ∷ cs) = go (eqb d c) (placed c cs)
  where
    go : (b : Bool) → has c cs ≡ ltb (position_or_len (λ d. eqb d c) cs) (length cs) → (b || has c cs) ≡ ltb (cond (not b) (1 + position_or_len (λ d. eqb d c) cs) 0) (suc (length cs))
    go true ih = sym (lt-ltb 0 (suc (length cs)) (omega arith))
    go false ih = ih ∙ grind (arith, nat_tests)

pub absent : (c : ℕ) (cs : List ℕ) → None ≡ position (λ d. eqb d c) cs → has c cs ≡ false
absent c cs e = placed c cs ∙ go (ltb (position_or_len (λ d. eqb d c) cs) (length cs)) e
  where
    go : (b : Bool) → None ≡ cond b (Some (position_or_len (λ d. eqb d c) cs)) None → b ≡ false
    go true h = cc
    go false h = refl

has_at : (cs : List ℕ) (i : ℕ) → i < length cs → has (get_or cs i 0) cs ≡ true
has_at [] i l = absurd (omega arith)
has_at (d ∷ cs) zero l = or_left _ _ (eq-eqb d d refl)
has_at (d ∷ cs) (suc i) l = or_right (eqb d (get_or cs i 0)) _ (has_at cs i (omega arith))

removed : (c i : ℕ) (cs : List ℕ) → i < length cs → get_or cs i 0 ≡ c → distinct cs ≡ true → remove cs i ≡ others c cs
removed c i [] l e h = absurd (omega arith)
removed c zero (d ∷ cs) l e h =
    let q = and_parts (not (has d cs)) (distinct cs) h in
    sym (ap (λ b. cond (not b) (d ∷ others c cs) (others c cs)) (eq-eqb c d (sym e)) ∙ others_all c cs (ap (λ k. has k cs) (sym e) ∙ not-true _ q.0))
removed c (suc i) (d ∷ cs) l e h =
    let q = and_parts (not (has d cs)) (distinct cs) h in
    let ne : eqb c d ≡ false = ne_eqb c d (λ s. both_ways _ (not-true _ q.0) (ap (λ k. has k cs) (sym (e ∙ s)) ∙ has_at cs i (omega arith))) in
    ap (λ ds. d ∷ ds) (removed c i cs (omega arith) e q.1) ∙ sym (ap (λ b. cond (not b) (d ∷ others c cs) (others c cs)) ne)

-- the client is at i, and nowhere else
pub record Standing (c i : ℕ) (cs : List ℕ) : Type 0 where
  pub below : i < length cs
  pub own : get_or cs i 0 ≡ c
  pub present : has c cs ≡ true
  pub left : remove cs i ≡ others c cs

pub standing : (c i : ℕ) (cs : List ℕ) → distinct cs ≡ true → Some i ≡ position (λ d. eqb d c) cs → Standing c i cs
standing c i cs h e =
    let q = position-Some (λ d. eqb d c) cs i 0 (sym e) in
    let own = eqb-true (get_or cs i 0) c q.1 in
    record { below = q.0; own = own; present = ap (λ k. has k cs) (sym own) ∙ has_at cs i q.0; left = removed c i cs q.0 own h }

-- ── Rotations of an arrangement's order, in which the client c is at i ──

module _ (p : Plan) (c i : ℕ) (e : Some i ≡ position (λ d. eqb d c) (listed p)) where
  abbrev xs : List ℕ
  xs = p.order

  abbrev cs : List ℕ
  cs = listed p

  pub stands : Standing c i cs
  stands = standing c i cs p.once e

  pub open_at : has c cs ≡ true
  open_at = stands.present

  module _ (long : length xs ≡ 8) where
    many : length cs ≡ p.count
    many = length-take-le p.count xs (omega (arith, p.few))

    within : i < p.count
    within = let m = many in let b = stands.below in omega arith

    gap : take i cs ++ drop (i + 1) cs ≡ others c cs
    gap = ap (λ k. take i cs ++ drop k cs) (add-one i) ∙ stands.left

    -- the client comes behind all numbers
    pub closed_order : (ys : List ℕ) → ys ≡ drop 1 (mid_of i (length xs - i) xs) ++ take 1 (mid_of i (length xs - i) xs) → take (p.count - 1) (put_mid i (length xs - i) xs ys) ≡ others c cs
    closed_order ys r =
        let w = within in
        ap (take (p.count - 1)) (put_mid-rotated i (length xs - i) xs ys 0 (omega arith) (omega arith) r
        ∙ ap (λ l. l ++ (get_or xs i 0 ∷ [])) (ap (λ l. remove l i) (sym (take-append-drop p.count xs)) ∙ remove-append_left cs (drop p.count xs) i stands.below)
        ∙ append_assoc (remove cs i) (drop p.count xs) (get_or xs i 0 ∷ []))
        ∙ take_at (remove cs i) _ (p.count - 1) (omega (arith, length-remove cs i stands.below, many)) ∙ stands.left

    -- the client comes behind the others
    pub raised_order : (ys : List ℕ) → ys ≡ drop 1 (mid_of i (p.count - i) xs) ++ take 1 (mid_of i (p.count - i) xs) → take p.count (put_mid i (p.count - i) xs ys) ≡ others c cs ++ (c ∷ [])
    raised_order ys r =
        let w = within in
        let part : mid_of i (p.count - i) xs ≡ c ∷ drop (i + 1) cs = between_is xs i p.count ∙ drop_more cs i 0 stands.below ∙ ap (λ d. d ∷ drop (i + 1) cs) stands.own in
        let is : ys ≡ drop (i + 1) cs ++ (c ∷ []) = r ∙ ap (λ m. drop 1 m ++ take 1 m) part in
        take-put_mid i (p.count - i) xs ys p.count (omega (arith, ap length is, length_push (drop (i + 1) cs) c, length-drop (i + 1) cs, many)) (omega arith)
        ∙ ap₂ (λ a b. a ++ b) (sym (take-take i p.count xs (omega arith))) is ∙ sym (append_assoc (take i cs) (drop (i + 1) cs) (c ∷ []))
        ∙ ap (λ l. l ++ (c ∷ [])) gap

    -- the client comes before the others
    abbrev Turned : (m : ℕ) (ys : List ℕ) → Type 0
    Turned m ys = ys ≡ drop (length (mid_of 0 m xs) - 1) (mid_of 0 m xs) ++ take (length (mid_of 0 m xs) - 1) (mid_of 0 m xs)

    pub lowered_order : (ys : List ℕ) (m : ℕ) → m ≡ i + 1 → Turned m ys → take p.count (put_mid 0 m xs ys) ≡ c ∷ others c cs
    lowered_order ys m to r = subst (λ k. Turned k ys → take p.count (put_mid 0 k xs ys) ≡ c ∷ others c cs) (sym to) go r
      where
        go : Turned (i + 1) ys → take p.count (put_mid 0 (i + 1) xs ys) ≡ c ∷ others c cs
        go r =
            let w = within in
            let all = many in
            let short : length (take i cs) ≡ i = length-take-le i cs (omega arith) in
            let last : length (mid_of 0 (i + 1) xs) - 1 ≡ i = omega (arith, length-take-le (i + 1) xs (omega arith)) in
            let part : mid_of 0 (i + 1) xs ≡ take i cs ++ (c ∷ []) = sym (take-take (i + 1) p.count xs (omega arith)) ∙ take_more cs i 0 stands.below ∙ ap (λ d. take i cs ++ (d ∷ [])) stands.own in
            let is : ys ≡ c ∷ take i cs =
            r ∙ (λ j. drop (last j) (part j) ++ take (last j) (part j)) ∙ ap₂ (λ a b. a ++ b) (drop_at (take i cs) (c ∷ []) i short) (take_at (take i cs) (c ∷ []) i short) in
            let rest : drop (i + 1) xs ≡ drop (i + 1) cs ++ drop p.count xs = ap (drop (i + 1)) (sym (take-append-drop p.count xs)) ∙ drop-append-le (i + 1) cs (drop p.count xs) (omega arith) in
            ap (take p.count) (ap₂ (λ a b. a ++ b) is rest ∙ sym (append_assoc (c ∷ take i cs) (drop (i + 1) cs) (drop p.count xs)))
            ∙ take_at (c ∷ take i cs ++ drop (i + 1) cs) (drop p.count xs) p.count (omega (arith, length-append (take i cs) (drop (i + 1) cs), length-drop (i + 1) cs))
            ∙ ap (λ ds. c ∷ ds) gap

-- ── Small numbers ──

pub low_permuted : (xs ys : List ℕ) → IsPermutation xs ys → ((k : ℕ) → get_or xs k 0 < 8) → (k : ℕ) → get_or ys k 0 < 8
low_permuted xs ys p low k =
    let all = All-permutation (λ d. d < 8) xs ys p (All-from_get_or (λ d. d < 8) xs 0 (λ k _. low k)) in
    ⊎_elim (λ (h : k < length ys). all k 0 h) (λ (h : length ys ≤ k). omega (arith, get_or_past ys k 0 h)) (cases_lt k (length ys))
