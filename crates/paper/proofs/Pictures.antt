-- Every picture that a desk draws is 0 outside its size, and BitBlt reads no pixel outside its source.
-- So pictures that agree at every pixel can take one another's place.
use Rattle.std.proofs.Common.{◌≡◌, ℕ, ◌<◌, Bool, true, false, ◌&&◌, ℤ, pos, negsuc, nat_abs, sym, refl, ap, ◌∙◌, arith}
use Rattle.std.proofs.lemmas.Int.{ints}
use Rattle.std.proofs.lemmas.Bool.Decides.{nat_tests}
use Rattle.std.proofs.lemmas.Bool.{and_parts, and_left, and_right, cond-false}
use Rattle.raster.specs.Rules.{combined}
use Rattle.raster.specs.Picture.{Picture, sizes, painted}
use Rattle.raster.specs.Blt.{Source, from_picture, holds, in_rectangle, inside, behind, concerned, count, blt}
use Rattle.raster.specs.declared.transfer.Transfer.{Transfer}
use Rattle.raster.specs.declared.size.Size.{Size}
use Rattle.raster.proofs.Paints.{same_picture, painted_same}
use Rattle.paper.specs.Layers.{blank}
use Rattle.paper.specs.Run.{SamePicture}

-- A picture is 0 outside its size.
abbrev pub Clean : Picture → Type 0
Clean p = (x y : ℕ) → inside (sizes p) (pos x) (pos y) ≡ false → p.at x y ≡ 0

pub blank_clean : (w h d : ℕ) → Clean (blank w h d)
blank_clean w h d x y e = refl

held_below : (n : ℕ) (z : ℤ) → holds (pos 0) n z ≡ true → nat_abs z < n
held_below n (pos z) e = grind (arith, ints, nat_tests)
held_below n (negsuc z) e = grind (arith, ints, nat_tests)

pub inside_below : (s : Size) (x y : ℤ) → inside s x y ≡ true → (nat_abs x < s.width) × (nat_abs y < s.height)
inside_below s x y e =
    let q = and_parts (holds (pos 0) s.width x) (holds (pos 0) s.height y) e in
    (held_below s.width x q.0, held_below s.height y q.1)

pub painted_clean : (p : Picture) (t : ℕ → ℕ → Bool) (v : ℕ → ℕ → ℕ) → ((x y : ℕ) → inside (sizes p) (pos x) (pos y) ≡ false → t x y ≡ false) → Clean p → Clean (painted p t v)
unfolding painted
painted_clean p t v h k x y e = cond-false (t x y) (v x y) (p.at x y) (h x y e) ∙ k x y e

pub blt_clean : (t : Transfer) (s : Source) (p : Picture) → Clean p → Clean (blt t s p)
unfolding blt concerned
blt_clean t s p k = painted_clean p _ _ (λ x y e. and_right _ _ (and_left (inside (sizes p) (pos x) (pos y)) _ e)) k

-- ── Pictures that agree ──

last_true : (a b c : Bool) → (a && (b && c)) ≡ true → c ≡ true
last_true a b c e = (and_parts b c (and_parts a (b && c) e).1).1

module _ {p q : Picture} (same : SamePicture p q) where
  sizes_same : sizes p ≡ sizes q
  sizes_same = λ i. record { width = same.width i; height = same.height i; depth = same.depth i }

  pub same_is : Clean p → Clean q → p ≡ q
  same_is kp kq = same_picture p q same.width same.height same.depth (λ x y. go x y (inside (sizes p) (pos x) (pos y)) refl)
    where
      go : (x y : ℕ) (b : Bool) → inside (sizes p) (pos x) (pos y) ≡ b → p.at x y ≡ q.at x y
      go x y true e = let b = inside_below (sizes p) (pos x) (pos y) e in same.pixels x y b.0 b.1
      go x y false e = kp x y e ∙ sym (kq x y (ap (λ s. inside s (pos x) (pos y)) (sym sizes_same) ∙ e))

  pub count_same : (t : Transfer) (d : Size) → count t (from_picture p) d ≡ count t (from_picture q) d
  unfolding count concerned
  count_same t d = ap (λ s. count t (record { has = inside s; at = λ _ _. 0 }) d) sizes_same

  concerned_same : (t : Transfer) (d : Size) (x y : ℕ) → concerned t (from_picture p) d x y ≡ concerned t (from_picture q) d x y
  unfolding concerned
  concerned_same t d x y = ap (λ s. concerned t (record { has = inside s; at = λ _ _. 0 }) d x y) sizes_same

  in_source : (t : Transfer) (d : Size) (x y : ℕ) → concerned t (from_picture p) d x y ≡ true → inside (sizes p) (behind t.sx t.dx x) (behind t.sy t.dy y) ≡ true
  unfolding concerned
  in_source t d x y e =
      last_true (in_rectangle t.dx t.dy t.w t.h (pos x) (pos y)) (inside d (pos x) (pos y)) (inside (sizes p) (behind t.sx t.dx x) (behind t.sy t.dy y)) e

  pub blt_same : (t : Transfer) (d : Picture) → blt t (from_picture p) d ≡ blt t (from_picture q) d
  unfolding blt
  blt_same t d =
      painted_same d _ _ _ _ (concerned_same t (sizes d))
      (λ x y e.
      let b = inside_below (sizes p) (behind t.sx t.dx x) (behind t.sy t.dy y) (in_source t (sizes d) x y e) in
      ap (λ v. combined d.depth t.rule v (d.at x y)) (same.pixels _ _ b.0 b.1))
