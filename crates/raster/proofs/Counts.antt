-- A clipped BitBlt: the pixels it concerns, counted, and the picture after it.
use Rattle.std.proofs.Common.{◌≡◌, ℕ, zero, suc, ◌+◌, ◌-◌, ◌*◌, ◌≤◌, min, Bool, true, false, cond, ◌&&◌, ltb, sym, refl, ap, ◌∙◌, ⊎_elim, suc-mul, zero-mul, mul-one, arith}
use Rattle.std.proofs.Math.Bool.{and-true, and-false}
use Rattle.std.proofs.lemmas.Bool.Decides.{nat_tests}
use Rattle.std.proofs.lemmas.Bool.{and_parts, cases_Bool}
use Rattle.raster.specs.Rules.{total, combined}
use Rattle.raster.specs.Picture.{Picture, sizes}
use Rattle.raster.specs.Blt.{Source, concerned, count, blt, behind}
use Rattle.raster.specs.declared.transfer.Transfer.{Transfer}
use Rattle.raster.specs.Calls.{any_below}
use Rattle.raster.specs.Blits.{between, spans, opposite}
use Rattle.raster.specs.declared.span.Span.{Span}
use Rattle.raster.proofs.Digits.{total_alike}
use Rattle.raster.proofs.Paints.{painted_same, Pixel, rows_whole}

total_zero : (n : ℕ) → total (λ _. 0) n ≡ 0
total_zero zero = refl
total_zero (suc n) = omega (arith, total_zero n)

-- a value at each number between two bounds
total_part : (first len c n : ℕ) → total (λ x. cond (between first len x) c 0) n ≡ (min n (first + len) - first) * c
total_part first len c zero = let e : min 0 (first + len) - first ≡ 0 = omega arith in sym (ap (λ m. m * c) e ∙ zero-mul c)
total_part first len c (suc n) =
    rw (total_part first len c n)
    (⊎_elim
    (λ (t : between first len n ≡ true).
    let e : min (suc n) (first + len) - first ≡ suc (min n (first + len) - first) = grind (arith, nat_tests) in
    rw (t, e) (sym (suc-mul (min n (first + len) - first) c)))
    (λ (t : between first len n ≡ false).
    let e : min (suc n) (first + len) - first ≡ min n (first + len) - first = grind (arith, nat_tests) in
    rw (t, e) (omega arith))
    (cases_Bool (between first len n)))

pub total_between : (first len c n : ℕ) → first + len ≤ n → total (λ x. cond (between first len x) c 0) n ≡ len * c
total_between first len c n h = total_part first len c n ∙ ap (λ m. m * c) (omega arith)

inner : (t : Bool) (f : ℕ → Bool) (n : ℕ) → total (λ x. cond (f x && t) 1 0) n ≡ cond t (total (λ x. cond (f x) 1 0) n) 0
inner true f n = total_alike _ _ n (λ x _. ap (λ b. cond b 1 0) (and-true (f x)))
inner false f n = total_alike _ _ n (λ x _. ap (λ b. cond b 1 0) (and-false (f x))) ∙ total_zero n

-- one of the numbers below n passes

pub any_same : (f g : ℕ → Bool) → ((k : ℕ) → f k ≡ g k) → (n : ℕ) → any_below f n ≡ any_below g n
any_same f g e zero = refl
any_same f g e (suc n) = rw (any_same f g e n, e n) refl

any_none : (n : ℕ) → any_below (λ _. false) n ≡ false
any_none zero = refl
any_none (suc n) = rw (any_none n) refl

pub any_with : (t : Bool) (f : ℕ → Bool) (n : ℕ) → any_below (λ x. f x && t) n ≡ (t && any_below f n)
any_with true f n = any_same _ _ (λ x. and-true (f x)) n
any_with false f n = any_same _ _ (λ x. and-false (f x)) n ∙ any_none n

any_part : (first len n : ℕ) → any_below (between first len) n ≡ ltb first (min n (first + len))
any_part first len zero = grind (arith, nat_tests)
any_part first len (suc n) = rw (any_part first len n) (grind (arith, nat_tests))

pub any_between : (first len n : ℕ) → first + len ≤ n → any_below (between first len) n ≡ ltb 0 len
any_between first len n h = any_part first len n ∙ grind (arith, nat_tests)

-- a transfer whose pixels are those of columns and rows
module _ (t : Transfer) (s : Source) (d : Picture) (cols rows : Span) (across : cols.first + cols.len ≤ d.width) (down : rows.first + rows.len ≤ d.height)
    (spanned : (x y : ℕ) → concerned t s (sizes d) x y ≡ (spans cols x && spans rows y)) where
  pub clipped_count : rows.len * cols.len ≡ count t s (sizes d)
  unfolding count
  clipped_count =
      sym
      (total_alike _ _ d.height
      (λ y _.
      total_alike _ _ d.width (λ x _. ap (λ t. cond t 1 0) (spanned x y))
      ∙ inner (spans rows y) (spans cols) d.width
      ∙ ap (λ n. cond (spans rows y) n 0) (total_between cols.first cols.len 1 d.width across ∙ mul-one cols.len))
      ∙ total_between rows.first rows.len cols.len d.height down)

  -- the picture after it, where the source pixels are those opposite
  pub clipped_blt : (rule : ℕ) (source : Pixel) → rule ≡ t.rule
      → ((x y : ℕ) → spans cols x ≡ true → spans rows y ≡ true → source d (opposite cols x) (opposite rows y) ≡ s.at (behind t.sx t.dx x) (behind t.sy t.dy y))
      → rows_whole rule source cols rows d ≡ blt t s d
  unfolding blt
  clipped_blt rule source r e =
      sym (painted_same d (concerned t s (sizes d)) (λ x y. spans cols x && spans rows y) _ _ spanned
      (λ x y t'.
      let q = and_parts (spans cols x) (spans rows y) (sym (spanned x y) ∙ t') in
      ap (λ n. combined d.depth n (s.at (behind t.sx t.dx x) (behind t.sy t.dy y)) (d.at x y)) (sym r)
      ∙ ap (λ n. combined d.depth rule n (d.at x y)) (sym (e x y q.0 q.1))))

  -- the rows in which a pixel is concerned
  pub clipped_rows : (y : ℕ) → (spans rows y && ltb 0 cols.len) ≡ any_below (λ x. concerned t s (sizes d) x y) d.width
  clipped_rows y =
      sym
      (any_same _ _ (λ x. spanned x y) d.width ∙ any_with (spans rows y) (spans cols) d.width
      ∙ ap (λ t. spans rows y && t) (any_between cols.first cols.len d.width across))
