-- Rows printed digit by digit.
use Rattle.std.proofs.Common.{◌≡◌, ℕ, ◌+◌, ◌%◌, ◌<◌, ◌⊎◌, inl, inr, true, false, cond, if◌then◌else◌, ltb, List, [], ◌∷◌, ◌++◌, ℤ, pos, nat_abs, Ok, Err, Result, refl, ap, ◌∙◌, add-one, arith}
use Rattle.std.specs.Char.{encode_utf8}
use Rattle.std.proofs.Math.Pow.{pow_mono}
use Rattle.std.proofs.lemmas.Int.{ints}
use Rattle.std.proofs.lemmas.Str.{encode_ascii}
use Rattle.std.proofs.lemmas.Bool.{cases_Bool, and_from, and_parts}
use Rattle.std.proofs.lemmas.Bool.Decides.{nat_tests}
use Rattle.raster.specs.Picture.{Picture, sizes, Sound}
use Rattle.raster.specs.Blt.{holds}
use Rattle.raster.specs.Calls.{read_at, bitmap_answer}
use Rattle.raster.specs.declared.fault.Fault.{Fault}
use Rattle.raster.specs.Printed.{digit, digits_of}
use Rattle.raster.proofs.Accepts.{read_inside, read_within, answer_accepted, unless_ok}

-- what a read of a column of the bitmap says of the row
module _ (p : Picture) (y : ℤ) (x : ℕ) (across : x < p.width) where
  column : holds (pos 0) p.width (pos x) ≡ true
  column = grind (arith, ints, nat_tests)

  pub read_there : (v : ℕ) → ◌≡◌ {A = Result ℕ Fault} (Ok v) (bitmap_answer p (read_at (pos x) y)) → (holds (pos 0) p.height y ≡ true) × (v ≡ p.at x (nat_abs y))
  unfolding bitmap_answer
  read_there v e =
      let q = unless_ok _ _ v e in
      ((and_parts _ _ (read_within (sizes p) (pos x) y q.0)).1, q.1)

  pub read_gone : (f : Fault) → ◌≡◌ {A = Result ℕ Fault} (Err f) (bitmap_answer p (read_at (pos x) y)) → holds (pos 0) p.height y ≡ false
  read_gone f e = go (cases_Bool (holds (pos 0) p.height y))
    where
      go : (holds (pos 0) p.height y ≡ true) ⊎ (holds (pos 0) p.height y ≡ false) → holds (pos 0) p.height y ≡ false
      go (inr out) = out
      go (inl down) = cc (e ∙ answer_accepted p (read_at (pos x) y) (read_inside (sizes p) (pos x) y (and_from _ _ column down)))

-- the character of a pixel
pub digit_char : (v c : ℕ) → v < 16 → c ≡ (if ltb (v % 16) 10 then v % 16 + 48 else v % 16 + 87) → encode_utf8 c ≡ digit v ∷ []
digit_char v c small e = encode_ascii c (grind (arith, nat_tests)) ∙ ap (λ d. d ∷ []) (grind (arith, nat_tests))

-- a pixel is below 16
pub pixel_small : (p : Picture) → Sound p → (x y : ℕ) → p.at x y < 16
pixel_small p s x y = let v = s.values x y in let m = pow_mono {i = p.depth} {j = 4} s.deep.1 in omega arith

-- a row printed up to a column, and one pixel more
module _ (p : Picture) (y : ℤ) where
  abbrev pub so_far : ℕ → List ℕ
  so_far n = cond (holds (pos 0) p.height y) (digits_of p (nat_abs y) n) []

  pub printed_more : (x c : ℕ) → holds (pos 0) p.height y ≡ true → encode_utf8 c ≡ digit (p.at x (nat_abs y)) ∷ [] → so_far x ++ encode_utf8 c ≡ so_far (x + 1)
  printed_more x c there e = rw (there, e, add-one x) refl

  pub printed_none : (x : ℕ) → holds (pos 0) p.height y ≡ false → so_far x ≡ so_far (x + 1)
  printed_none x gone = rw gone refl
