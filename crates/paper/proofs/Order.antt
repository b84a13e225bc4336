-- Laws of the order of layers: raise, lower, move, open and close, and how many layers a client has.
use Rattle.std.proofs.Common.{◌≡◌, ℕ, ◌+◌, Bool, true, false, cond, not, ◌&&◌, eqb, List, [], ◌∷◌, ◌++◌, length, ℤ, Some, None, Option, sym, refl, ap, ◌∙◌, ap₂, append-nil, arith, length-append}
use Rattle.std.proofs.lemmas.Bool.Decides.{nat_tests}
use Rattle.paper.specs.Layers.{Layer, pixels_of, keep, only, without, alter, at_corner}
use Rattle.paper.specs.Laws.{corner_of}

-- ── Layers kept by a test ──

other_way : (a c : ℕ) → eqb c a ≡ eqb a c
other_way a c = grind (arith, nat_tests)

same_and : (b : Bool) → (b && b) ≡ b
same_and true = refl
same_and false = refl

and_not : (b : Bool) → (b && not b) ≡ false
and_not true = refl
and_not false = refl

not_and : (b : Bool) → (not b && b) ≡ false
not_and true = refl
not_and false = refl

keep-++ : (t : ℕ → Bool) (xs ys : List Layer) → keep t (xs ++ ys) ≡ keep t xs ++ keep t ys
keep-++ t [] ys = refl
keep-++ t (l ∷ xs) ys = go (keep-++ t xs ys) (t l.client)
  where
    go : keep t (xs ++ ys) ≡ keep t xs ++ keep t ys → (b : Bool) → cond b (l ∷ keep t (xs ++ ys)) (keep t (xs ++ ys)) ≡ cond b (l ∷ keep t xs) (keep t xs) ++ keep t ys
    go ih true = ap (λ ms. l ∷ ms) ih
    go ih false = ih

-- tested twice
keep_keep : (t u v : ℕ → Bool) → ((k : ℕ) → (u k && t k) ≡ v k) → (ls : List Layer) → keep t (keep u ls) ≡ keep v ls
keep_keep t u v h [] = refl
keep_keep t u v h (l ∷ ls) = go (keep_keep t u v h ls) (u l.client) (t l.client) refl (h l.client)
  where
    go : keep t (keep u ls) ≡ keep v ls → (a b : Bool) → t l.client ≡ b → (a && b) ≡ v l.client → keep t (cond a (l ∷ keep u ls) (keep u ls)) ≡ cond (v l.client) (l ∷ keep v ls) (keep v ls)
    go ih true true e q = rw (e, ← q) (ap (λ ms. l ∷ ms) ih)
    go ih true false e q = rw (e, ← q) ih
    go ih false b e q = rw (← q) ih

keep_none : (ls : List Layer) → keep (λ _. false) ls ≡ []
keep_none [] = refl
keep_none (l ∷ ls) = keep_none ls

abbrev raised : ℕ → List Layer → List Layer
raised c ls = without c ls ++ only c ls

-- what becomes of the others when a client's layer is taken away, raised, lowered, altered or added
pub without_without : (c : ℕ) (ls : List Layer) → without c (without c ls) ≡ without c ls
without_without c ls = keep_keep _ _ (λ k. not (eqb c k)) (λ k. same_and (not (eqb c k))) ls

without_only : (c : ℕ) (ls : List Layer) → without c (only c ls) ≡ []
without_only c ls = keep_keep _ _ (λ _. false) (λ k. and_not (eqb c k)) ls ∙ keep_none ls

pub without_raised : (c : ℕ) (ls : List Layer) → without c (raised c ls) ≡ without c ls
without_raised c ls =
    keep-++ _ (without c ls) (only c ls)
    ∙ ap₂ (λ a b. a ++ b) (without_without c ls) (without_only c ls)
    ∙ append-nil (without c ls)

pub without_lowered : (c : ℕ) (ls : List Layer) → without c (only c ls ++ without c ls) ≡ without c ls
without_lowered c ls = keep-++ _ (only c ls) (without c ls) ∙ ap₂ (λ a b. a ++ b) (without_only c ls) (without_without c ls)

pub without_last : (c : ℕ) (l : Layer) (ls : List Layer) → eqb c l.client ≡ true → without c (ls ++ (l ∷ [])) ≡ without c ls
without_last c l ls e = keep-++ _ ls (l ∷ []) ∙ ap (λ b. without c ls ++ cond (not b) (l ∷ []) []) e ∙ append-nil (without c ls)

pub without_altered : (c : ℕ) (f : Layer → Layer) → ((l : Layer) → (f l).client ≡ l.client) → (ls : List Layer) → without c (alter c f ls) ≡ without c ls
without_altered c f h [] = refl
without_altered c f h (l ∷ ls) = go (without_altered c f h ls) (eqb l.client c) refl
  where
    same : (t : Bool) → eqb l.client c ≡ t → eqb c l.client ≡ t
    same t e = other_way l.client c ∙ e

    go : without c (alter c f ls) ≡ without c ls → (t : Bool) → eqb l.client c ≡ t → without c (cond t (f l ∷ ls) (l ∷ alter c f ls)) ≡ without c (l ∷ ls)
    go ih true e =
        ap (λ k. cond (not (eqb c k)) (f l ∷ without c ls) (without c ls)) (h l) ∙ ap (λ b. cond (not b) (f l ∷ without c ls) (without c ls)) (same true e)
        ∙ sym (ap (λ b. cond (not b) (l ∷ without c ls) (without c ls)) (same true e))
    go ih false e = ap (λ ms. cond (not (eqb c l.client)) (l ∷ ms) ms) ih

pub only_without : (c : ℕ) (ls : List Layer) → only c (without c ls) ≡ []
only_without c ls = keep_keep _ _ (λ _. false) (λ k. not_and (eqb c k)) ls ∙ keep_none ls

only_raised : (c : ℕ) (ls : List Layer) → only c (raised c ls) ≡ only c ls
only_raised c ls =
    keep-++ _ (without c ls) (only c ls) ∙ ap₂ (λ a b. a ++ b) (only_without c ls) (keep_keep _ _ (λ k. eqb c k) (λ k. same_and (eqb c k)) ls)

pub raised_raised : (c : ℕ) (ls : List Layer) → raised c (raised c ls) ≡ raised c ls
raised_raised c ls = ap₂ (λ a b. a ++ b) (without_raised c ls) (only_raised c ls)

pub raised_lowered : (c : ℕ) (ls : List Layer) → only c (raised c ls) ++ without c (raised c ls) ≡ only c ls ++ without c ls
raised_lowered c ls = ap₂ (λ a b. a ++ b) (only_raised c ls) (without_raised c ls)

-- ── A move there and back ──

same_pair : (a b c d : ℤ) → ◌≡◌ {A = Option (ℤ × ℤ)} (Some (a, b)) (Some (c, d)) → (a ≡ c) × (b ≡ d)
same_pair a b c d e =
    let p : ◌≡◌ {A = ℤ × ℤ} (a, b) (c, d) = cc in
    (ap (λ (q : ℤ × ℤ). q.0) p, ap (λ (q : ℤ × ℤ). q.1) p)

pub placed_back : (c : ℕ) (x y a b : ℤ) (ls : List Layer) → corner_of c ls ≡ Some (a, b) → alter c (at_corner a b) (alter c (at_corner x y) ls) ≡ ls
placed_back c x y a b [] e = refl
placed_back c x y a b (l ∷ ls) e = go (placed_back c x y a b ls) (eqb l.client c) refl e
  where
    go : (corner_of c ls ≡ Some (a, b) → alter c (at_corner a b) (alter c (at_corner x y) ls) ≡ ls) → (t : Bool) → eqb l.client c ≡ t → cond t (Some (l.x, l.y)) (corner_of c ls) ≡ Some (a, b)
        → alter c (at_corner a b) (cond t (at_corner x y l ∷ ls) (l ∷ alter c (at_corner x y) ls)) ≡ l ∷ ls
    go ih true q e =
        let at = same_pair l.x l.y a b e in
        rw q (ap₂ (λ u v. at_corner u v l ∷ ls) (sym at.0) (sym at.1))
    go ih false q e = rw q (ap (λ ms. l ∷ ms) (ih e))

-- ── How many layers a client has ──

abbrev pub layers_of : ℕ → List Layer → ℕ
layers_of c ls = length (only c ls)

pub layers-++ : (c : ℕ) (xs ys : List Layer) → layers_of c (xs ++ ys) ≡ layers_of c xs + layers_of c ys
layers-++ c xs ys = ap length (keep-++ _ xs ys) ∙ length-append (only c xs) (only c ys)

cond_length : (t : Bool) (l : Layer) (ls : List Layer) → length (cond t (l ∷ ls) ls) ≡ cond t 1 0 + length ls
cond_length true l ls = omega arith
cond_length false l ls = omega arith

-- each layer is kept by a test or by its opposite
pub layers_split : (k : ℕ) (t : ℕ → Bool) (ls : List Layer) → layers_of k (keep (λ n. not (t n)) ls) + layers_of k (keep t ls) ≡ layers_of k ls
layers_split k t [] = refl
layers_split k t (l ∷ ls) = go (layers_split k t ls) (t l.client)
  where
    go : layers_of k (keep (λ n. not (t n)) ls) + layers_of k (keep t ls) ≡ layers_of k ls → (b : Bool)
        → layers_of k (cond (not b) (l ∷ keep (λ n. not (t n)) ls) (keep (λ n. not (t n)) ls)) + layers_of k (cond b (l ∷ keep t ls) (keep t ls)) ≡ layers_of k (l ∷ ls)
    go ih true = omega (arith, cond_length (eqb k l.client) l (only k (keep t ls)), cond_length (eqb k l.client) l (only k ls))
    go ih false = omega (arith, cond_length (eqb k l.client) l (only k (keep (λ n. not (t n)) ls)), cond_length (eqb k l.client) l (only k ls))

pub layers_alter : (k c : ℕ) (f : Layer → Layer) → ((l : Layer) → (f l).client ≡ l.client) → (ls : List Layer) → layers_of k (alter c f ls) ≡ layers_of k ls
layers_alter k c f h [] = refl
layers_alter k c f h (l ∷ ls) = go (layers_alter k c f h ls) (eqb l.client c)
  where
    go : layers_of k (alter c f ls) ≡ layers_of k ls → (t : Bool) → layers_of k (cond t (f l ∷ ls) (l ∷ alter c f ls)) ≡ layers_of k (l ∷ ls)
    go ih true =
        cond_length (eqb k (f l).client) (f l) (only k ls) ∙ ap (λ n. cond (eqb k n) 1 0 + layers_of k ls) (h l) ∙ sym (cond_length (eqb k l.client) l (only k ls))
    go ih false = omega (arith, cond_length (eqb k l.client) l (only k (alter c f ls)), cond_length (eqb k l.client) l (only k ls))

-- ── A client with no layer ──

pub none_without : (c : ℕ) (ls : List Layer) → pixels_of c ls ≡ None → without c ls ≡ ls
none_without c [] e = refl
none_without c (l ∷ ls) e = rw (other_way l.client c) (go (none_without c ls) (eqb l.client c) e)
  where
    go : (pixels_of c ls ≡ None → without c ls ≡ ls) → (t : Bool) → cond t (Some l.pixels) (pixels_of c ls) ≡ None → cond (not t) (l ∷ without c ls) (without c ls) ≡ l ∷ ls
    go ih true e = cc
    go ih false e = ap (λ ms. l ∷ ms) (ih e)

pub none_only : (c : ℕ) (ls : List Layer) → pixels_of c ls ≡ None → only c ls ≡ []
none_only c ls e = ap (only c) (sym (none_without c ls e)) ∙ only_without c ls

-- open and then close
pub opened_closed : (c : ℕ) (l : Layer) (ls : List Layer) → eqb c l.client ≡ true → pixels_of c ls ≡ None → without c (ls ++ (l ∷ [])) ≡ ls
opened_closed c l ls e n = without_last c l ls e ∙ none_without c ls n
