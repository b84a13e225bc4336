-- Orders of clients: sifted by a test, with a client last or first, and how long they are.
use Rattle.std.proofs.Common.{◌≡◌, ℕ, zero, suc, ◌<◌, ◌≤◌, Bool, true, false, cond, not, ◌&&◌, ◌||◌, eqb, List, [], ◌∷◌, ◌++◌, length, get_or, set, ℤ, filter, sym, refl, ap, ◌∙◌, ap₂, arith, rules}
use Rattle.std.proofs.lemmas.List.{get_or-set_same, get_or-set_other, append-nil}
use Rattle.std.proofs.Math.Bool.{and-true, and-false, or_assoc}
use Rattle.std.proofs.lemmas.Bool.{and_parts, and_from, or_parts, or_left, not-true, eqb-true, eqb-false, true≢false, and_right}
use Rattle.std.proofs.lemmas.Bool.Decides.{nat_tests}
use Rattle.paper.specs.Layers.{Layer, keep, only, without, alter, at_corner}
use Rattle.raster.specs.declared.rectangle.Rectangle.{Rectangle}
use Rattle.plan.specs.Frames.{no_frame, has, distinct}
use Rattle.plan.specs.Plans.{outline, outlines}
use Rattle.plan.specs.Arranged.{cornered}

-- the clients without one
abbrev pub others : ℕ → List ℕ → List ℕ
others c cs = filter (λ k. not (eqb c k)) cs

pub flip : (a b : ℕ) → eqb a b ≡ eqb b a
flip a b = grind (arith, nat_tests)

-- ── Layers of sifted clients ──

pub keep_outlines : (t : ℕ → Bool) (cs : List ℕ) (fs : List Rectangle) → keep t (outlines cs fs) ≡ outlines (filter t cs) fs
keep_outlines t [] fs = refl
keep_outlines t (c ∷ cs) fs = go (keep_outlines t cs fs) (t c)
  where
    go : keep t (outlines cs fs) ≡ outlines (filter t cs) fs → (b : Bool)
        → cond b (outline c (get_or fs c no_frame) ∷ keep t (outlines cs fs)) (keep t (outlines cs fs)) ≡ outlines (cond b (c ∷ filter t cs) (filter t cs)) fs
    go ih true = ap (λ ls. outline c (get_or fs c no_frame) ∷ ls) ih
    go ih false = ih

pub outlines-++ : (cs ds : List ℕ) (fs : List Rectangle) → outlines (cs ++ ds) fs ≡ outlines cs fs ++ outlines ds fs
outlines-++ [] ds fs = refl
outlines-++ (c ∷ cs) ds fs = ap (λ ls. outline c (get_or fs c no_frame) ∷ ls) (outlines-++ cs ds fs)

-- ── Which clients are there ──

pub has-++ : (d : ℕ) (xs ys : List ℕ) → has d (xs ++ ys) ≡ (has d xs || has d ys)
has-++ d [] ys = refl
has-++ d (x ∷ xs) ys = ap (λ b. eqb x d || b) (has-++ d xs ys) ∙ sym (or_assoc (eqb x d) (has d xs) (has d ys))

pub has_kept : (t : ℕ → Bool) (d : ℕ) (cs : List ℕ) → has d (filter t cs) ≡ (has d cs && t d)
has_kept t d [] = refl
has_kept t d (c ∷ cs) = go (has_kept t d cs) (eqb c d) refl (t c) refl
  where
    go : has d (filter t cs) ≡ (has d cs && t d) → (q : Bool) → eqb c d ≡ q → (b : Bool) → t c ≡ b
        → has d (cond b (c ∷ filter t cs) (filter t cs)) ≡ ((q || has d cs) && t d)
    go ih true e true k = ap (λ x. x || has d (filter t cs)) e ∙ sym k ∙ ap t (eqb-true c d e)
    go ih true e false k = ih ∙ and_right (has d cs) (t d) fails ∙ sym fails
      where
        fails : t d ≡ false
        fails = sym (ap t (eqb-true c d e)) ∙ k
    go ih false e true k = ap (λ x. x || has d (filter t cs)) e ∙ ih
    go ih false e false k = ih

pub has_low : (n d : ℕ) (cs : List ℕ) → ((k : ℕ) → get_or cs k 0 < n) → has d cs ≡ true → d < n
has_low n d [] low h = absurd (true≢false (sym h))
has_low n d (c ∷ cs) low h = go (has_low n d cs (λ k. low (suc k))) (eqb c d) refl h
  where
    go : (has d cs ≡ true → d < n) → (b : Bool) → eqb c d ≡ b → (b || has d cs) ≡ true → d < n
    go ih true e h = let q = eqb-true c d e in omega (arith, low 0)
    go ih false e h = ih h

-- ── No client twice ──

pub distinct_kept : (t : ℕ → Bool) (cs : List ℕ) → distinct cs ≡ true → distinct (filter t cs) ≡ true
distinct_kept t [] h = refl
distinct_kept t (c ∷ cs) h = let q = and_parts (not (has c cs)) (distinct cs) h in go q.0 (distinct_kept t cs q.1) (t c)
  where
    go : not (has c cs) ≡ true → distinct (filter t cs) ≡ true → (b : Bool) → distinct (cond b (c ∷ filter t cs) (filter t cs)) ≡ true
    go k ih true = and_from _ _ (ap not (has_kept t c cs ∙ ap (λ b. b && t c) (not-true _ k))) ih
    go k ih false = ih

pub distinct_last : (c : ℕ) (cs : List ℕ) → distinct cs ≡ true → has c cs ≡ false → distinct (cs ++ (c ∷ [])) ≡ true
distinct_last c [] h k = refl
distinct_last c (d ∷ cs) h k =
    let p = and_parts (not (has d cs)) (distinct cs) h in
    let q = or_parts (eqb d c) (has c cs) k in
    let e : has d (cs ++ (c ∷ [])) ≡ false = has-++ d cs (c ∷ []) ∙ ap₂ (λ a b. a || (b || false)) (not-true _ p.0) (flip c d ∙ q.0) in
    and_from _ _ (ap not e) (distinct_last c cs p.1 q.1)

-- ── A client and the others ──

same_test : (c : ℕ) → eqb c c ≡ true
same_test c = grind (arith, nat_tests)

pub others_lack : (c : ℕ) (cs : List ℕ) → has c (others c cs) ≡ false
others_lack c cs = has_kept _ c cs ∙ ap (λ b. has c cs && not b) (same_test c) ∙ and-false (has c cs)

pub others_have : (c d : ℕ) (cs : List ℕ) → has d (others c cs) ≡ (has d cs && not (eqb c d))
others_have c d cs = has_kept _ d cs

pub others_distinct : (c : ℕ) (cs : List ℕ) → distinct cs ≡ true → distinct (others c cs) ≡ true
others_distinct c cs h = distinct_kept _ cs h

pub others_all : (c : ℕ) (cs : List ℕ) → has c cs ≡ false → others c cs ≡ cs
others_all c [] h = refl
others_all c (d ∷ cs) h =
    let q = or_parts (eqb d c) (has c cs) h in
    ap (λ b. cond (not b) (d ∷ others c cs) (others c cs)) (flip c d ∙ q.0) ∙ ap (λ ds. d ∷ ds) (others_all c cs q.1)

none_own : (c : ℕ) (cs : List ℕ) → has c cs ≡ false → filter (λ k. eqb c k) cs ≡ []
none_own c [] h = refl
none_own c (d ∷ cs) h =
    let q = or_parts (eqb d c) (has c cs) h in
    ap (λ b. cond b (d ∷ filter (λ k. eqb c k) cs) (filter (λ k. eqb c k) cs)) (flip c d ∙ q.0) ∙ none_own c cs q.1

pub own_one : (c : ℕ) (cs : List ℕ) → distinct cs ≡ true → filter (λ k. eqb c k) cs ≡ cond (has c cs) (c ∷ []) []
own_one c [] h = refl
own_one c (d ∷ cs) h = let q = and_parts (not (has d cs)) (distinct cs) h in go q.0 (own_one c cs q.1) (eqb d c) refl
  where
    go : not (has d cs) ≡ true → filter (λ k. eqb c k) cs ≡ cond (has c cs) (c ∷ []) [] → (b : Bool) → eqb d c ≡ b → filter (λ k. eqb c k) (d ∷ cs) ≡ cond (b || has c cs) (c ∷ []) []
    go k ih true e =
        let same = eqb-true d c e in
        ap (λ b. cond b (d ∷ filter (λ k. eqb c k) cs) (filter (λ k. eqb c k) cs)) (flip c d ∙ e)
        ∙ ap₂ (λ x ds. x ∷ ds) same (none_own c cs (ap (λ x. has x cs) (sym same) ∙ not-true _ k))
    go k ih false e = ap (λ b. cond b (d ∷ filter (λ k. eqb c k) cs) (filter (λ k. eqb c k) cs)) (flip c d ∙ e) ∙ ih

-- ── Layers of a client and of the others ──

module _ (c : ℕ) (cs : List ℕ) (fs : List Rectangle) where
  pub without_outlines : without c (outlines cs fs) ≡ outlines (others c cs) fs
  without_outlines = keep_outlines _ cs fs

  pub only_outlines : distinct cs ≡ true → only c (outlines cs fs) ≡ outlines (cond (has c cs) (c ∷ []) []) fs
  only_outlines h = keep_outlines _ cs fs ∙ ap (λ ds. outlines ds fs) (own_one c cs h)

  pub closed_none : has c cs ≡ false → outlines cs fs ≡ without c (outlines cs fs)
  closed_none h = sym (without_outlines ∙ ap (λ ds. outlines ds fs) (others_all c cs h))

  module _ (h : distinct cs ≡ true) where
    pub raised_none : has c cs ≡ false → outlines cs fs ≡ without c (outlines cs fs) ++ only c (outlines cs fs)
    raised_none k = sym (append-nil (outlines cs fs)) ∙ ap₂ (λ ls ms. ls ++ ms) (closed_none k) (sym (only_outlines h ∙ ap (λ b. outlines (cond b (c ∷ []) []) fs) k))

    pub lowered_none : has c cs ≡ false → outlines cs fs ≡ only c (outlines cs fs) ++ without c (outlines cs fs)
    lowered_none k = closed_none k ∙ ap (λ ls. ls ++ without c (outlines cs fs)) (sym (only_outlines h ∙ ap (λ b. outlines (cond b (c ∷ []) []) fs) k))

    pub raised_one : has c cs ≡ true → outlines (others c cs ++ (c ∷ [])) fs ≡ without c (outlines cs fs) ++ only c (outlines cs fs)
    raised_one k =
        outlines-++ (others c cs) (c ∷ []) fs
        ∙ ap₂ (λ ls ms. ls ++ ms) (sym without_outlines) (sym (only_outlines h ∙ ap (λ b. outlines (cond b (c ∷ []) []) fs) k))

    pub lowered_one : has c cs ≡ true → outlines (c ∷ others c cs) fs ≡ only c (outlines cs fs) ++ without c (outlines cs fs)
    lowered_one k =
        ap₂ (λ ls ms. ls ++ ms) (sym (only_outlines h ∙ ap (λ b. outlines (cond b (c ∷ []) []) fs) k)) (sym without_outlines)

-- ── Which clients are there after ──

pub has_raised : (c d : ℕ) (cs : List ℕ) → has c cs ≡ true → has d (others c cs ++ (c ∷ [])) ≡ has d cs
has_raised c d cs h = has-++ d (others c cs) (c ∷ []) ∙ ap (λ b. b || (eqb c d || false)) (others_have c d cs) ∙ go (eqb c d) refl
  where
    go : (b : Bool) → eqb c d ≡ b → ((has d cs && not b) || (b || false)) ≡ has d cs
    go true e = all (has d cs) ∙ sym (sym (ap (λ x. has x cs) (eqb-true c d e)) ∙ h)
      where
        all : (a : Bool) → ((a && false) || true) ≡ true
        all a = search rules
    go false e = rest (has d cs)
      where
        rest : (a : Bool) → ((a && true) || false) ≡ a
        rest a = search rules

pub has_lowered : (c d : ℕ) (cs : List ℕ) → has c cs ≡ true → has d (c ∷ others c cs) ≡ has d cs
has_lowered c d cs h = ap (λ b. eqb c d || b) (others_have c d cs) ∙ go (eqb c d) refl
  where
    go : (b : Bool) → eqb c d ≡ b → (b || (has d cs && not b)) ≡ has d cs
    go true e = sym (sym (ap (λ x. has x cs) (eqb-true c d e)) ∙ h)
    go false e = and-true (has d cs)

-- ── How many clients there are ──

length_others : (c : ℕ) (cs : List ℕ) → distinct cs ≡ true → length cs ≤ suc (length (others c cs))
length_others c [] h = omega arith
length_others c (d ∷ cs) h = let q = and_parts (not (has d cs)) (distinct cs) h in go q.0 (length_others c cs q.1) (eqb c d) refl
  where
    go : not (has d cs) ≡ true → length cs ≤ suc (length (others c cs)) → (b : Bool) → eqb c d ≡ b → suc (length cs) ≤ suc (length (cond (not b) (d ∷ others c cs) (others c cs)))
    go k ih true e = let q = ap length (others_all c cs (ap (λ x. has x cs) (eqb-true c d e) ∙ not-true _ k)) in omega arith
    go k ih false e = omega arith

-- numbers below n, none twice, are at most n
pub room_for : (n : ℕ) (cs : List ℕ) → distinct cs ≡ true → ((d : ℕ) → has d cs ≡ true → d < n) → length cs ≤ n
room_for zero [] h low = omega arith
room_for zero (c ∷ cs) h low = absurd (let l = low c (or_left (eqb c c) (has c cs) (same_test c)) in omega arith)
room_for (suc n) cs h low =
    let few = room_for n (others n cs) (distinct_kept _ cs h)
    (λ d k. let q = and_parts (has d cs) (not (eqb n d)) (sym (others_have n d cs) ∙ k) in
    let l = low d q.0 in let ne = eqb-false n d (not-true _ q.1) in omega arith) in
    omega (arith, length_others n cs h)

-- ── A layer moved or opened ──

outlines_set : (c : ℕ) (cs : List ℕ) (fs : List Rectangle) (g : Rectangle) → has c cs ≡ false → outlines cs (set fs c g) ≡ outlines cs fs
outlines_set c [] fs g h = refl
outlines_set c (d ∷ cs) fs g h =
    let q = or_parts (eqb d c) (has c cs) h in
    ap₂ (λ f ls. outline d f ∷ ls) (get_or-set_other fs c d g no_frame (eqb-false d c q.0)) (outlines_set c cs fs g q.1)

pub outlines_opened : (c : ℕ) (cs : List ℕ) (fs : List Rectangle) (g : Rectangle) → has c cs ≡ false → c < length fs → outlines (cs ++ (c ∷ [])) (set fs c g) ≡ outlines cs fs ++ (outline c g ∷ [])
outlines_opened c cs fs g h l =
    outlines-++ cs (c ∷ []) (set fs c g) ∙ ap₂ (λ ls f. ls ++ (outline c f ∷ [])) (outlines_set c cs fs g h) (get_or-set_same fs c g no_frame l)

pub alter_none : (c : ℕ) (f : Layer → Layer) (cs : List ℕ) (fs : List Rectangle) → has c cs ≡ false → outlines cs fs ≡ alter c f (outlines cs fs)
alter_none c f [] fs h = refl
alter_none c f (d ∷ cs) fs h =
    let q = or_parts (eqb d c) (has c cs) h in
    ap (λ ls. outline d (get_or fs d no_frame) ∷ ls) (alter_none c f cs fs q.1)
    ∙ sym (ap (λ b. cond b (f (outline d (get_or fs d no_frame)) ∷ outlines cs fs) (outline d (get_or fs d no_frame) ∷ alter c f (outlines cs fs))) q.0)

pub outlines_moved : (c : ℕ) (x y : ℤ) (cs : List ℕ) (fs : List Rectangle) → distinct cs ≡ true → c < length fs
    → outlines cs (set fs c (cornered x y (get_or fs c no_frame))) ≡ alter c (at_corner x y) (outlines cs fs)
outlines_moved c x y [] fs h l = refl
outlines_moved c x y (d ∷ cs) fs h l = let q = and_parts (not (has d cs)) (distinct cs) h in go q.0 (outlines_moved c x y cs fs q.1 l) (eqb d c) refl
  where
    gs : List Rectangle
    gs = set fs c (cornered x y (get_or fs c no_frame))

    go : not (has d cs) ≡ true → outlines cs gs ≡ alter c (at_corner x y) (outlines cs fs) → (b : Bool) → eqb d c ≡ b
        → outlines (d ∷ cs) gs ≡ cond b (at_corner x y (outline d (get_or fs d no_frame)) ∷ outlines cs fs) (outline d (get_or fs d no_frame) ∷ alter c (at_corner x y) (outlines cs fs))
    go k ih true e =
        let same = eqb-true d c e in
        let at : get_or gs d no_frame ≡ cornered x y (get_or fs d no_frame) =
        ap (λ i. get_or gs i no_frame) same ∙ get_or-set_same fs c _ no_frame l ∙ ap (λ i. cornered x y (get_or fs i no_frame)) (sym same) in
        ap₂ (λ f ls. outline d f ∷ ls) at (outlines_set c cs fs _ (ap (λ i. has i cs) (sym same) ∙ not-true _ k))
    go k ih false e = ap₂ (λ f ls. outline d f ∷ ls) (get_or-set_other fs c d _ no_frame (eqb-false d c e)) ih
