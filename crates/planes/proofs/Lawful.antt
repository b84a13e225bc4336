-- The picture and the bits that are no pixel's settle every word.
use Rattle.std.proofs.Common.{◌≡◌, ℕ, ◌+◌, ◌-◌, ◌*◌, ◌/◌, ◌%◌, ◌<◌, Bool, true, false, ◌&&◌, ltb, List, get_or, sym, ap, ◌∙◌, ⊎_elim, arith}
use Rattle.std.proofs.lemmas.Nat.{div-add-mod', mod_below}
use Rattle.std.proofs.lemmas.Nat.Bits.{bit_at-lt, same_from_bits_below}
use Rattle.std.proofs.lemmas.Bool.Decides.{nat_tests}
use Rattle.std.proofs.lemmas.List.{ext_get_or}
use Rattle.std.proofs.lemmas.Bool.{cases_Bool}
use Rattle.raster.specs.Rules.{bit}
use Rattle.raster.specs.Picture.{Picture}
use Rattle.raster.specs.declared.size.Size.{Size}
use Rattle.raster.proofs.Digits.{total_bit}
use Rattle.planes.specs.Layout.{stride, word_of, bit_of, pixel, laid_out, Unused, Kept}
use Rattle.planes.specs.Laws.{Words, PlanesLaws}
use Rattle.planes.proofs.Store.{by_rows, word_parts}

-- a pixel's bit in its plane is a bit of the pixel
pixel_bit : (words : List ℕ) (s : Size) (j x y : ℕ) → j < s.depth → x < s.width → y < s.height
    → bit (get_or words (word_of s.width s.height j x y) 0) (bit_of x) ≡ bit ((laid_out words s).at x y) j
unfolding pixel
pixel_bit words s j x y lj lx ly =
    let e : (laid_out words s).at x y ≡ pixel words s.width s.height s.depth x y = grind (arith, nat_tests) in
    rw e (sym (total_bit (λ j. bit (get_or words (word_of s.width s.height j x y) 0) (bit_of x)) (λ j. bit_at-lt _ _) s.depth j lj))

-- the pixel that bit k of word i would belong to
module _ (s : Size) (i k : ℕ) (lk : k < 32) where
  abbrev column : ℕ
  column = i % stride s.width * 32 + (31 - k)

  abbrev row : ℕ
  row = i / stride s.width

  abbrev used : Bool
  used = ltb 0 s.height && (ltb column s.width && ltb (row / s.height) s.depth)

  used_word : used ≡ true → (i ≡ word_of s.width s.height (row / s.height) column (row % s.height)) × (k ≡ bit_of column)
      × (row / s.height < s.depth) × (column < s.width) × (row % s.height < s.height)
  used_word t =
      let h : 0 < s.height = grind (arith, nat_tests) in
      let c : column < s.width = grind (arith, nat_tests) in
      let j : row / s.height < s.depth = grind (arith, nat_tests) in
      let e : (row / s.height) * s.height + row % s.height ≡ row = div-add-mod' row s.height in
      let w : column / 32 ≡ i % stride s.width = omega arith in (
        sym (by_rows s.width s.height (row / s.height) column (row % s.height) ∙ ap (λ n. n * stride s.width + column / 32) e ∙ ap (λ n. row * stride s.width + n) w ∙ div-add-mod' i (stride s.width)),
        omega arith,
        j,
        c,
        mod_below row s.height h,
      )

  not_used : used ≡ false → Unused s i k
  not_used t j x y lj lx ly e ek =
      let p = word_parts s.width s.height j x y i lx ly e in
      let ex : column ≡ x = omega (arith, p.2, ek) in
      absurd (grind (arith, nat_tests))

one_list : (s : Size) (before one two : List ℕ) → Words one → Words two → Kept s before one → Kept s before two → laid_out one s ≡ laid_out two s → one ≡ two
one_list s before one two w₁ w₂ k₁ k₂ e =
    ext_get_or 0 one two (k₁.long ∙ sym k₂.long)
    (λ i _.
    same_from_bits_below 32 (get_or one i 0) (get_or two i 0) (w₁ i) (w₂ i)
    (λ k lk.
    ⊎_elim
    (λ (t : used s i k lk ≡ true).
    let u = used_word s i k lk t in
    let at : (ws : List ℕ) → bit (get_or ws i 0) k ≡ bit ((laid_out ws s).at (column s i k lk) (row s i k lk % s.height)) (row s i k lk / s.height) =
    λ ws. ap (λ n. bit (get_or ws n 0) k) u.0 ∙ ap (bit (get_or ws (word_of s.width s.height (row s i k lk / s.height) (column s i k lk) (row s i k lk % s.height)) 0)) u.1
    ∙ pixel_bit ws s (row s i k lk / s.height) (column s i k lk) (row s i k lk % s.height) u.2 u.3 u.4 in
    at one ∙ ap (λ (p : Picture). bit (p.at (column s i k lk) (row s i k lk % s.height)) (row s i k lk / s.height)) e ∙ sym (at two))
    (λ (t : used s i k lk ≡ false). k₁.bits i k (not_used s i k lk t) ∙ sym (k₂.bits i k (not_used s i k lk t)))
    (cases_Bool (used s i k lk))))

pub planes_laws_lem : PlanesLaws
planes_laws_lem = record { one_list = one_list }
