-- What the operations on a list of layers do to one client's pixels.
use Rattle.std.proofs.Common.{◌≡◌, ℕ, Bool, true, false, cond, not, eqb, List, [], ◌∷◌, ◌++◌, ℤ, is_some, Some, None, Option, sym, refl, ap, ◌∙◌, ap₂, arith}
use Rattle.std.proofs.lemmas.Bool.{eqb-true}
use Rattle.std.proofs.lemmas.Bool.Decides.{nat_tests}
use Rattle.raster.specs.Picture.{Picture}
use Rattle.paper.specs.Layers.{Layer, or_else, pixels_of, keep, only, without, alter, with_pixels, at_corner}

pub not_some : {A : Type 0} (o : Option A) → is_some o ≡ false → o ≡ None
not_some (Some a) e = cc
not_some None e = refl

pub pixels-++ : (c : ℕ) (xs ys : List Layer) → pixels_of c (xs ++ ys) ≡ or_else (pixels_of c xs) (pixels_of c ys)
pixels-++ c [] ys = refl
pixels-++ c (l ∷ xs) ys = go (pixels-++ c xs ys) (eqb l.client c)
  where
    go : pixels_of c (xs ++ ys) ≡ or_else (pixels_of c xs) (pixels_of c ys) → (b : Bool) → cond b (Some l.pixels) (pixels_of c (xs ++ ys)) ≡ or_else (cond b (Some l.pixels) (pixels_of c xs)) (pixels_of c ys)
    go ih true = refl
    go ih false = ih

-- ── Layers kept by a test ──

pub pixels_keep : (c : ℕ) (t : ℕ → Bool) (ls : List Layer) → pixels_of c (keep t ls) ≡ cond (t c) (pixels_of c ls) None
pixels_keep c t [] = either (t c)
  where
    either : (b : Bool) → ◌≡◌ {A = Option Picture} None (cond b None None)
    either true = refl
    either false = refl
pixels_keep c t (l ∷ ls) = go (pixels_keep c t ls) (eqb l.client c) refl (t l.client) refl
  where
    -- the client's own layer is kept if the test passes the client
    own : (a b : Bool) → a ≡ b → pixels_of c (keep t ls) ≡ cond b (pixels_of c ls) None → cond a (Some l.pixels) (pixels_of c (keep t ls)) ≡ cond b (Some l.pixels) None
    own true b e ih = ap (λ b. cond b (Some l.pixels) None) e
    own false b e ih = ih ∙ ap (λ b. cond b (pixels_of c ls) None) (sym e) ∙ ap (λ b. cond b (Some l.pixels) None) e

    go : pixels_of c (keep t ls) ≡ cond (t c) (pixels_of c ls) None → (q : Bool) → eqb l.client c ≡ q → (a : Bool) → t l.client ≡ a
        → pixels_of c (cond a (l ∷ keep t ls) (keep t ls)) ≡ cond (t c) (cond q (Some l.pixels) (pixels_of c ls)) None
    go ih true q true e = ap (λ b. cond b (Some l.pixels) (pixels_of c (keep t ls))) q ∙ own true (t c) (sym e ∙ ap t (eqb-true l.client c q)) ih
    go ih true q false e = own false (t c) (sym e ∙ ap t (eqb-true l.client c q)) ih
    go ih false q true e = ap (λ b. cond b (Some l.pixels) (pixels_of c (keep t ls))) q ∙ ih
    go ih false q false e = ih

pub without_same : (c : ℕ) (ls : List Layer) → pixels_of c (without c ls) ≡ None
without_same c ls = let e : eqb c c ≡ true = grind (arith, nat_tests) in pixels_keep c (λ k. not (eqb c k)) ls ∙ ap (λ b. cond (not b) (pixels_of c ls) None) e

pub without_other : (a c : ℕ) (ls : List Layer) → eqb a c ≡ false → pixels_of c (without a ls) ≡ pixels_of c ls
without_other a c ls n = pixels_keep c (λ k. not (eqb a k)) ls ∙ ap (λ b. cond (not b) (pixels_of c ls) None) n

pub or_else_none : {A : Type 0} (o : Option A) → or_else o None ≡ o
or_else_none (Some p) = refl
or_else_none None = refl

-- to the top, and to the bottom

pub raised_any : (a c : ℕ) (ls : List Layer) → pixels_of c (without a ls ++ only a ls) ≡ pixels_of c ls
raised_any a c ls =
    pixels-++ c (without a ls) (only a ls) ∙ ap₂ or_else (pixels_keep c (λ k. not (eqb a k)) ls) (pixels_keep c (λ k. eqb a k) ls) ∙ go (eqb a c)
  where
    go : (b : Bool) → or_else (cond (not b) (pixels_of c ls) None) (cond b (pixels_of c ls) None) ≡ pixels_of c ls
    go true = refl
    go false = or_else_none (pixels_of c ls)

pub lowered_any : (a c : ℕ) (ls : List Layer) → pixels_of c (only a ls ++ without a ls) ≡ pixels_of c ls
lowered_any a c ls =
    pixels-++ c (only a ls) (without a ls) ∙ ap₂ or_else (pixels_keep c (λ k. eqb a k) ls) (pixels_keep c (λ k. not (eqb a k)) ls) ∙ go (eqb a c)
  where
    go : (b : Bool) → or_else (cond b (pixels_of c ls) None) (cond (not b) (pixels_of c ls) None) ≡ pixels_of c ls
    go true = or_else_none (pixels_of c ls)
    go false = refl

-- ── A layer altered ──

-- The pixels become p where a layer is open.
abbrev pub repainted : Option Picture → Picture → Option Picture
repainted (Some q) p = Some p
repainted None p = None

-- a layer of a is none of c
apart : (k a c : ℕ) → eqb a c ≡ false → eqb k a ≡ true → eqb k c ≡ false
apart k a c n e = grind (arith, nat_tests)

pub paint_same : (c : ℕ) (p : Picture) (ls : List Layer) → pixels_of c (alter c (with_pixels p) ls) ≡ repainted (pixels_of c ls) p
paint_same c p [] = refl
paint_same c p (l ∷ ls) = go (paint_same c p ls) (eqb l.client c) refl
  where
    go : pixels_of c (alter c (with_pixels p) ls) ≡ repainted (pixels_of c ls) p → (b : Bool) → eqb l.client c ≡ b → pixels_of c (cond b (with_pixels p l ∷ ls) (l ∷ alter c (with_pixels p) ls)) ≡ repainted (cond b (Some l.pixels) (pixels_of c ls)) p
    go ih true e = ap (λ b. cond b (Some p) (pixels_of c ls)) e
    go ih false e = ap (λ b. cond b (Some l.pixels) (pixels_of c (alter c (with_pixels p) ls))) e ∙ ih

pub paint_other : (a c : ℕ) (p : Picture) (ls : List Layer) → eqb a c ≡ false → pixels_of c (alter a (with_pixels p) ls) ≡ pixels_of c ls
paint_other a c p [] n = refl
paint_other a c p (l ∷ ls) n = go (paint_other a c p ls n) (eqb l.client a) refl
  where
    go : pixels_of c (alter a (with_pixels p) ls) ≡ pixels_of c ls → (b : Bool) → eqb l.client a ≡ b → pixels_of c (cond b (with_pixels p l ∷ ls) (l ∷ alter a (with_pixels p) ls)) ≡ pixels_of c (l ∷ ls)
    go ih true e =
        let other = apart l.client a c n e in
        ap (λ b. cond b (Some p) (pixels_of c ls)) other ∙ sym (ap (λ b. cond b (Some l.pixels) (pixels_of c ls)) other)
    go ih false e = ap (cond (eqb l.client c) (Some l.pixels)) ih

pub place_any : (a c : ℕ) (x y : ℤ) (ls : List Layer) → pixels_of c (alter a (at_corner x y) ls) ≡ pixels_of c ls
place_any a c x y [] = refl
place_any a c x y (l ∷ ls) = go (place_any a c x y ls) (eqb l.client a)
  where
    go : pixels_of c (alter a (at_corner x y) ls) ≡ pixels_of c ls → (b : Bool) → pixels_of c (cond b (at_corner x y l ∷ ls) (l ∷ alter a (at_corner x y) ls)) ≡ pixels_of c (l ∷ ls)
    go ih true = refl
    go ih false = ap (cond (eqb l.client c) (Some l.pixels)) ih
