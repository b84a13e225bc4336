-- The screen, from call to call: from a new desk on it is what the screen rule shows.
use Rattle.std.proofs.Common.{◌≡◌, ℕ, ◌<◌, Bool, true, false, cond, not, ◌&&◌, ◌||◌, List, [], ◌∷◌, ◌++◌, ℤ, pos, ◌+ℤ◌, ◌-ℤ◌, nat_abs, is_some, Some, None, Option, sym, refl, ap, ◌∙◌, ap₂, arith}
use Rattle.std.proofs.lemmas.Int.{ints}
use Rattle.std.proofs.lemmas.Bool.Decides.{nat_tests}
use Rattle.std.proofs.lemmas.Bool.{and_left, and_right, and_from, and_parts, or_left, or_right, or_from, not-true, lt-ltb, cond-true, cond-false}
use Rattle.raster.specs.Picture.{Picture, sizes, painted}
use Rattle.raster.specs.Blt.{inside}
use Rattle.raster.specs.declared.size.Size.{Size}
use Rattle.raster.proofs.Paints.{same_picture, painted_sizes, painted_none}
use Rattle.paper.specs.Layers.{Desk, Layer, or_else, covers, covered, topmost, pixel_of, shown, screen_of, screen_after}
use Rattle.paper.specs.Slots.{visible, hidden_count}
use Rattle.paper.specs.Run.{State, new_state, Becomes}
use Rattle.paper.proofs.Layers.{not_some}
use Rattle.paper.proofs.Pictures.{Clean}
use Rattle.paper.proofs.HiddenPixels.{covers_pixel}

pub screen_clean : (d : Desk) → Clean (screen_of d)
unfolding screen_of
screen_clean d x y e = ap (λ b. cond b (shown d.layers (pos x) (pos y)) 0) e

-- There is a topmost layer just where some layer covers.
pub topmost_tells : (ls : List Layer) (x y : ℤ) → covered ls x y ≡ is_some (topmost ls x y)
topmost_tells [] x y = refl
topmost_tells (l ∷ ls) x y = go (topmost ls x y) (topmost_tells ls x y) (covers l x y)
  where
    go : (o : Option Layer) → covered ls x y ≡ is_some o → (b : Bool) → (b || covered ls x y) ≡ is_some (or_else o (cond b (Some l) None))
    go (Some t) e true = refl
    go (Some t) e false = e
    go None e true = refl
    go None e false = e

pub none_topmost : (ls : List Layer) (x y : ℤ) → covered ls x y ≡ false → topmost ls x y ≡ None
none_topmost ls x y e = not_some (topmost ls x y) (sym (topmost_tells ls x y) ∙ e)

pub none_shown : (ls : List Layer) (x y : ℤ) → covered ls x y ≡ false → shown ls x y ≡ 0
none_shown ls x y e = ap (λ o. pixel_of o x y) (none_topmost ls x y e)

-- A layer that covers a place is topmost there if no higher one covers it.
pub topmost_is : (lower higher : List Layer) (l : Layer) (x y : ℤ) → covers l x y ≡ true → covered higher x y ≡ false → topmost (lower ++ (l ∷ higher)) x y ≡ Some l
topmost_is [] higher l x y c n = ap₂ (λ o b. or_else o (cond b (Some l) None)) (none_topmost higher x y n) c
topmost_is (m ∷ lower) higher l x y c n = ap (λ o. or_else o (cond (covers m x y) (Some m) None)) (topmost_is lower higher l x y c n)

-- So a visible pixel is what the screen shows at its place.
pub visible_shows : (screen : Size) (lower higher : List Layer) (l : Layer) (u v : ℕ) → u < l.pixels.width → v < l.pixels.height → visible screen higher l u v ≡ true
    → shown (lower ++ (l ∷ higher)) (l.x +ℤ pos u) (l.y +ℤ pos v) ≡ l.pixels.at u v
visible_shows screen lower higher l u v hu hv s =
    let x = l.x +ℤ pos u in
    let y = l.y +ℤ pos v in
    let c : covers l x y ≡ true = covers_pixel l u v ∙ and_from _ _ (lt-ltb u _ hu) (lt-ltb v _ hv) in
    let n : covered higher x y ≡ false = not-true _ (and_parts (inside screen x y) (not (covered higher x y)) s).1 in
    ap (λ o. pixel_of o x y) (topmost_is lower higher l x y c n) ∙ ap₂ l.pixels.at (back l.x u) (back l.y v)
  where
    back : (a : ℤ) (k : ℕ) → nat_abs ((a +ℤ pos k) -ℤ a) ≡ k
    back a k = let e : (a +ℤ pos k) -ℤ a ≡ pos k = omega (arith, ints) in ap nat_abs e

pub screen_sizes : (s : Picture) (d e : Desk) → sizes (screen_after s d e) ≡ sizes s
unfolding screen_after
screen_sizes s d e = painted_sizes s _ _

-- Each place on the screen after a call.

module _ (screen : Picture) (before after : Desk) (x y : ℕ) (on : inside (sizes screen) (pos x) (pos y) ≡ true) where
  pub covered_shows : covered after.layers (pos x) (pos y) ≡ true → (screen_after screen before after).at x y ≡ shown after.layers (pos x) (pos y)
  unfolding screen_after painted
  covered_shows c = cond-true _ _ _ (and_from _ _ on (or_right (covered before.layers (pos x) (pos y)) _ c))

  pub uncovered_clears : covered before.layers (pos x) (pos y) ≡ true → covered after.layers (pos x) (pos y) ≡ false → (screen_after screen before after).at x y ≡ 0
  unfolding screen_after painted
  uncovered_clears b n = cond-true _ _ _ (and_from _ _ on (or_left _ (covered after.layers (pos x) (pos y)) b)) ∙ none_shown after.layers (pos x) (pos y) n

pub untouched_stays : (screen : Picture) (before after : Desk) (x y : ℕ) → covered before.layers (pos x) (pos y) ≡ false → covered after.layers (pos x) (pos y) ≡ false
    → (screen_after screen before after).at x y ≡ screen.at x y
unfolding screen_after painted
untouched_stays screen before after x y b n = cond-false _ _ _ (and_right (inside (sizes screen) (pos x) (pos y)) _ (or_from _ _ b n))

pub outside_stays : (screen : Picture) (before after : Desk) (x y : ℕ) → inside (sizes screen) (pos x) (pos y) ≡ false → (screen_after screen before after).at x y ≡ screen.at x y
unfolding screen_after painted
outside_stays screen before after x y off = cond-false _ _ _ (and_left _ _ off)

-- one place, on the screen or not, covered before or not, and after or not
one_place : (on before after : Bool) (was shows : ℕ) → (before ≡ false → was ≡ 0) → (after ≡ false → shows ≡ 0)
    → cond (on && (before || after)) shows (cond on was 0) ≡ cond on shows 0
one_place false before after was shows p q = refl
one_place true true after was shows p q = refl
one_place true false true was shows p q = refl
one_place true false false was shows p q = p refl ∙ sym (q refl)

-- A screen that shows the layers before a call shows those after it.
pub screen_follows : (d e : Desk) → e.size ≡ d.size → screen_after (screen_of d) d e ≡ screen_of e
unfolding screen_of screen_after painted
screen_follows d e same =
    same_picture (screen_after (screen_of d) d e) (screen_of e)
    (ap (λ s. s.width) (sym same)) (ap (λ s. s.height) (sym same)) (ap (λ s. s.depth) (sym same))
    (λ x y.
    one_place (inside d.size (pos x) (pos y)) (covered d.layers (pos x) (pos y)) (covered e.layers (pos x) (pos y))
    (shown d.layers (pos x) (pos y)) (shown e.layers (pos x) (pos y)) (none_shown d.layers (pos x) (pos y)) (none_shown e.layers (pos x) (pos y))
    ∙ ap (λ s. cond (inside s (pos x) (pos y)) (shown e.layers (pos x) (pos y)) 0) (sym same))

-- The screen is what the screen rule shows, and as many slots are in use as patches are hidden.
pub record TrueToPaper (s : State) : Type 0 where
  pub screen : s.screen ≡ screen_of s.paper
  pub used : s.used ≡ hidden_count s.paper

pub new_true : (size : Size) (slots : ℕ) → TrueToPaper (new_state size slots)
unfolding screen_of hidden_count
new_true size slots = record { screen = same_picture _ _ refl refl refl (λ x y. sym (zero_either (inside size (pos x) (pos y)))); used = refl }
  where
    zero_either : (b : Bool) → cond {A = ℕ} b 0 0 ≡ 0
    zero_either true = refl
    zero_either false = refl

-- That lasts from state to state.
pub stays_true : {s s' : State} {d : Desk} → TrueToPaper s → Becomes s d s' → d.size ≡ s.paper.size → TrueToPaper s'
stays_true {s} {s'} {d} t b e = record {
  screen =
      b.screen ∙ ap (λ p. screen_after p s.paper s'.paper) t.screen
      ∙ screen_follows s.paper s'.paper (ap (λ p. p.size) b.paper ∙ e);
  used = b.used;
}

-- A screen of no size stays as it is.
pub empty_screen : (s : Picture) (d e : Desk) → s.width ≡ 0 → screen_after s d e ≡ s
unfolding screen_after
empty_screen s d e w = painted_none s _ _ (λ x y. and_left (inside (sizes s) (pos x) (pos y)) _ (none_inside s x y w))
  where
    none_inside : (s : Picture) (x y : ℕ) → s.width ≡ 0 → inside (sizes s) (pos x) (pos y) ≡ false
    none_inside s x y w = grind (arith, ints, nat_tests)

-- one place after two calls
two_calls : (on d e f : Bool) (was se sf : ℕ) → (e ≡ true → (d || f) ≡ true) → (e ≡ false → se ≡ 0) → (f ≡ false → sf ≡ 0)
    → cond (on && (e || f)) sf (cond (on && (d || e)) se was) ≡ cond (on && (d || f)) sf was
two_calls false d e f was se sf h p q = refl
two_calls true d true f was se sf h p q = sym (cond-true (d || f) sf was (h refl))
two_calls true true false true was se sf h p q = refl
two_calls true true false false was se sf h p q = p refl ∙ sym (q refl)
two_calls true false false f was se sf h p q = refl

-- Two calls one after the other leave on the screen what one would that leads from the first desk to the last, if between
-- them no place is covered that is not covered at either end.
pub screen_joins : (s : Picture) (d e f : Desk) → ((x y : ℤ) → covered e.layers x y ≡ true → (covered d.layers x y || covered f.layers x y) ≡ true)
    → screen_after (screen_after s d e) e f ≡ screen_after s d f
unfolding screen_after painted
screen_joins s d e f h =
    same_picture (screen_after (screen_after s d e) e f) (screen_after s d f) refl refl refl
    (λ x y.
    two_calls (inside (sizes s) (pos x) (pos y)) (covered d.layers (pos x) (pos y)) (covered e.layers (pos x) (pos y)) (covered f.layers (pos x) (pos y))
    (s.at x y) (shown e.layers (pos x) (pos y)) (shown f.layers (pos x) (pos y)) (h (pos x) (pos y)) (none_shown e.layers (pos x) (pos y)) (none_shown f.layers (pos x) (pos y)))
