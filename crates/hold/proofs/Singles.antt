-- Single pixels of a bitmap by unsigned coordinates, which are cut at 32,767 for its calls.
use Rattle.std.proofs.Common.{◌≡◌, ℕ, ◌<◌, ◌≤◌, min, true, ℤ, pos, Ok, Err, Result, sym, ap, ◌∙◌, ap₂, inl, inr, ⊎_elim, arith, w16, to_z, of_z}
use Rattle.std.proofs.lemmas.Option.{none-some}
use Rattle.std.specs.Result.{result_unwrap_or}
use Rattle.std.proofs.lemmas.Int.{ints, to_z_pos}
use Rattle.std.proofs.lemmas.Bool.Decides.{nat_tests}
use Rattle.std.proofs.lemmas.Bool.{cases_lt, lt-leb}
use Rattle.raster.specs.Picture.{Picture, sizes, Sound, with_pixel}
use Rattle.raster.specs.Blt.{inside}
use Rattle.raster.specs.Calls.{read_at, write_at, bitmap_fault, bitmap_answer, bitmap_after}
use Rattle.raster.specs.declared.fault.Fault.{Fault}
use Rattle.raster.specs.declared.size.Size.{Size}
use Rattle.raster.proofs.Accepts.{unless_ok, unless_err, read_inside, read_within, place_within, write_as_read, after_accepted}
use Rattle.hold.specs.Spots.{Settable}

-- a coordinate as a call gets it
pub passed : (r : ℤ) (n : ℕ) → r ≡ pos (min n 32767) → to_z w16 (of_z w16 r) ≡ pos (min n 32767)
passed r n e = ap (λ z. to_z w16 (of_z w16 z)) e ∙ to_z_pos w16 (min n 32767) (omega arith)

inside_from : (s : Size) (x y : ℕ) → x < s.width → y < s.height → inside s (pos x) (pos y) ≡ true
inside_from s x y hx hy = grind (arith, ints, nat_tests)

module _ (p : Picture) (sound : Sound p) (x y : ℕ) where
  abbrev a : ℕ
  a = min x 32767

  abbrev b : ℕ
  b = min y 32767

  accepted : (value : ℕ) → ◌≡◌ {A = Result ℕ Fault} (Ok value) (bitmap_answer p (read_at (pos a) (pos b))) → value ≡ p.at x y
  unfolding bitmap_answer
  accepted value e =
      let q = unless_ok (bitmap_fault (sizes p) (read_at (pos a) (pos b))) (p.at a b) value e in
      let w = place_within (sizes p) (pos a) (pos b) (read_within (sizes p) (pos a) (pos b) q.0) in
      let ea : a ≡ x = omega (arith, sound.wide, w) in
      let eb : b ≡ y = omega (arith, sound.high, w) in
      q.1 ∙ ap₂ p.at ea eb

  refused : (f : Fault) → ◌≡◌ {A = Result ℕ Fault} (Err f) (bitmap_answer p (read_at (pos a) (pos b))) → 0 ≡ p.at x y
  unfolding bitmap_answer
  refused f e =
      let q = unless_err (bitmap_fault (sizes p) (read_at (pos a) (pos b))) (p.at a b) f e in
      sym (sound.outside x y
      (⊎_elim
      (λ (hx : x < p.width). ⊎_elim
      (λ (hy : y < p.height). absurd (none-some _ (sym (read_inside (sizes p) (pos a) (pos b) (inside_from (sizes p) a b (omega (arith, sound.wide)) (omega (arith, sound.high)))) ∙ q)))
      (λ (hy : p.height ≤ y). inr hy) (cases_lt y p.height))
      (λ (hx : p.width ≤ x). inl hx) (cases_lt x p.width)))

  -- what is read, or 0 where that is refused
  pub read_cut : (r : Result ℕ Fault) → r ≡ bitmap_answer p (read_at (pos a) (pos b)) → result_unwrap_or r 0 ≡ p.at x y
  read_cut (Ok value) e = accepted value e
  read_cut (Err f) e = refused f e

  pub write_cut : (value : ℕ) → Settable p x y value → bitmap_after p (write_at (pos a) (pos b) value) ≡ with_pixel p x y value
  write_cut value s =
      let ea : a ≡ x = omega (arith, sound.wide, s.across) in
      let eb : b ≡ y = omega (arith, sound.high, s.down) in
      let on : inside (sizes p) (pos a) (pos b) ≡ true = inside_from (sizes p) a b (omega (arith, s.across)) (omega (arith, s.down)) in
      after_accepted p (write_at (pos a) (pos b) value) (write_as_read (sizes p) (pos a) (pos b) value (lt-leb _ _ s.small) ∙ read_inside (sizes p) (pos a) (pos b) on)
      ∙ ap₂ (λ m n. with_pixel p m n value) ea eb
