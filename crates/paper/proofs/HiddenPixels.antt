-- When no patch of a layer is hidden.
use Rattle.std.proofs.Common.{◌≡◌, ℕ, zero, suc, ◌+◌, ◌*◌, ◌/◌, ◌%◌, ◌<◌, ◌≤◌, Bool, true, false, not, ◌&&◌, ◌||◌, ltb, List, ℤ, pos, ◌+ℤ◌, ◌-ℤ◌, nat_abs, sym, refl, ap, ◌∙◌, ap₂, ⊎_elim, arith}
use Rattle.std.proofs.lemmas.Int.{ints}
use Rattle.std.proofs.lemmas.Bool.Decides.{nat_tests}
use Rattle.std.proofs.lemmas.Bool.{and_parts, and_from, or_parts, not-true, not-false, not_from_true, not_from_false, cases_lt}
use Rattle.raster.specs.Blt.{holds, inside}
use Rattle.raster.specs.Calls.{any_below}
use Rattle.raster.specs.declared.size.Size.{Size}
use Rattle.paper.specs.Layers.{Layer, covers, covered}
use Rattle.paper.specs.Slots.{visible, obscured, hidden}
use Rattle.paper.specs.Laws.{NoneHidden, Clear}

-- ── One of the numbers below n passes a test ──

pub none_below : (f : ℕ → Bool) → ((k : ℕ) → f k ≡ false) → (n : ℕ) → any_below f n ≡ false
none_below f e zero = refl
none_below f e (suc n) = ap₂ ◌||◌ (none_below f e n) (e n)

pub each_below : (f : ℕ → Bool) (n : ℕ) → any_below f n ≡ false → (k : ℕ) → k < n → f k ≡ false
each_below f zero e k h = absurd (omega arith)
each_below f (suc n) e k h =
    let q = or_parts (any_below f n) (f n) e in
    ⊎_elim (λ (lt : k < n). each_below f n q.0 k lt) (λ (le : n ≤ k). let same : k ≡ n = omega arith in ap f same ∙ q.1) (cases_lt k n)

-- ── No patch is hidden exactly if the layer is clear ──

-- a layer's pixel on the screen, and back

from_corner : (a : ℤ) (n u : ℕ) → holds a n (a +ℤ pos u) ≡ ltb u n
from_corner a n u = grind (arith, ints, nat_tests)

to_corner : (a : ℤ) (n : ℕ) (x : ℤ) → holds a n x ≡ true → x ≡ a +ℤ pos (nat_abs (x -ℤ a))
to_corner a n x e = grind (arith, ints, nat_tests)

pub covers_pixel : (l : Layer) (u v : ℕ) → covers l (l.x +ℤ pos u) (l.y +ℤ pos v) ≡ (ltb u l.pixels.width && ltb v l.pixels.height)
covers_pixel l u v = ap₂ ◌&&◌ (from_corner l.x l.pixels.width u) (from_corner l.y l.pixels.height v)

module _ (screen : Size) (higher : List Layer) (l : Layer) where
  clear_pixel : Clear screen higher l → (u v : ℕ) → obscured screen higher l u v ≡ false
  clear_pixel clear u v = go (ltb u l.pixels.width && ltb v l.pixels.height) refl
    where
      go : (b : Bool) → (ltb u l.pixels.width && ltb v l.pixels.height) ≡ b → (b && not (visible screen higher l u v)) ≡ false
      go true e =
          let c = clear (l.x +ℤ pos u) (l.y +ℤ pos v) (covers_pixel l u v ∙ e) in
          not_from_true (visible screen higher l u v) (and_from _ _ c.0 (not_from_false _ c.1))
      go false e = refl

  pub clear_shows : Clear screen higher l → NoneHidden screen higher l
  unfolding hidden
  clear_shows clear i j = none_below _ (λ v. none_below _ (λ u. clear_pixel clear (16 * i + u) (16 * j + v)) 16) 16

  none_obscured : NoneHidden screen higher l → (u v : ℕ) → obscured screen higher l u v ≡ false
  unfolding hidden
  none_obscured none u v =
      let e : obscured screen higher l (16 * (u / 16) + u % 16) (16 * (v / 16) + v % 16) ≡ false =
      each_below (λ a. obscured screen higher l (16 * (u / 16) + a) (16 * (v / 16) + v % 16)) 16
      (each_below (λ b. any_below (λ a. obscured screen higher l (16 * (u / 16) + a) (16 * (v / 16) + b)) 16) 16 (none (u / 16) (v / 16)) (v % 16) (omega arith)) (u % 16) (omega arith) in
      ap₂ (obscured screen higher l) (omega arith) (omega arith) ∙ e

  pub shown_clear : NoneHidden screen higher l → Clear screen higher l
  shown_clear none x y c =
      let q = and_parts (holds l.x l.pixels.width x) (holds l.y l.pixels.height y) c in
      let u = nat_abs (x -ℤ l.x) in
      let v = nat_abs (y -ℤ l.y) in
      let ex : x ≡ l.x +ℤ pos u = to_corner l.x l.pixels.width x q.0 in
      let ey : y ≡ l.y +ℤ pos v = to_corner l.y l.pixels.height y q.1 in
      let in_layer : (ltb u l.pixels.width && ltb v l.pixels.height) ≡ true = sym (covers_pixel l u v) ∙ ap₂ (covers l) (sym ex) (sym ey) ∙ c in
      let seen : visible screen higher l u v ≡ true = not-false _ (ap (λ b. b && not (visible screen higher l u v)) (sym in_layer) ∙ none_obscured none u v) in
      let p = and_parts (inside screen (l.x +ℤ pos u) (l.y +ℤ pos v)) (not (covered higher (l.x +ℤ pos u) (l.y +ℤ pos v))) seen in
      (ap₂ (inside screen) ex ey ∙ p.0, ap₂ (covered higher) ex ey ∙ not-true _ p.1)
