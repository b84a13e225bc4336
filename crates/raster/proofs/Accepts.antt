-- When a call of a bitmap is refused, and what it answers and leaves then and otherwise.
use Rattle.std.proofs.Common.{◌≡◌, Bool, ◌&&◌, if◌then◌else◌, ℕ, ◌^◌, ◌<◌, true, false, ltb, leb, ℤ, pos, nat_abs, Some, None, Ok, Err, Option, Result, sym, refl, ap, ◌∙◌, ⊎_elim, arith}
use Rattle.std.proofs.lemmas.Option.{none-some}
use Rattle.std.proofs.lemmas.Int.{ints}
use Rattle.std.proofs.lemmas.Bool.{cases_Bool, and_from, and_right}
use Rattle.std.proofs.lemmas.Bool.Decides.{nat_tests}
use Rattle.raster.specs.Picture.{Picture, sizes}
use Rattle.raster.specs.Blt.{holds, inside}
use Rattle.raster.specs.declared.transfer.Transfer.{Transfer}
use Rattle.raster.specs.Calls.{BitmapCall, read_at, write_at, fill_with, scroll_by, bitmap_fault, bitmap_value, bitmap_change, bitmap_answer, bitmap_after, row_concerned, any_below, concerns, fault, unless}
use Rattle.raster.specs.declared.refusal.Refusal.TheVariants.{RuleAboveFifteen, ValueTooLarge, OutsideBitmap}
use Rattle.raster.specs.declared.fault.Fault.{Fault}
use Rattle.raster.specs.declared.size.Size.{Size}

-- each call's fault, by its tests

module _ (s : Size) (x y : ℤ) where
  pub read_outside : inside s x y ≡ false → bitmap_fault s (read_at x y) ≡ Some (fault OutsideBitmap x y)
  unfolding bitmap_fault
  read_outside e = rw e refl

  pub read_inside : inside s x y ≡ true → bitmap_fault s (read_at x y) ≡ None
  unfolding bitmap_fault
  read_inside e = rw e refl

  pub write_too_large : (v : ℕ) → leb (2 ^ s.depth) v ≡ true → bitmap_fault s (write_at x y v) ≡ Some (fault ValueTooLarge x y)
  unfolding bitmap_fault
  write_too_large v e = rw e refl

  pub write_as_read : (v : ℕ) → leb (2 ^ s.depth) v ≡ false → bitmap_fault s (write_at x y v) ≡ bitmap_fault s (read_at x y)
  unfolding bitmap_fault
  write_as_read v e = rw e refl

  module _ (rule v w h : ℕ) where
    pub fill_no_rule : ltb 15 rule ≡ true → bitmap_fault s (fill_with rule v x y w h) ≡ Some (fault RuleAboveFifteen (pos 0) (pos 0))
    unfolding bitmap_fault
    fill_no_rule e = rw e refl

    pub fill_too_large : ltb 15 rule ≡ false → leb (2 ^ s.depth) v ≡ true → bitmap_fault s (fill_with rule v x y w h) ≡ Some (fault ValueTooLarge (pos 0) (pos 0))
    unfolding bitmap_fault
    fill_too_large e f = rw (e, f) refl

    pub fill_accepted : ltb 15 rule ≡ false → leb (2 ^ s.depth) v ≡ false → bitmap_fault s (fill_with rule v x y w h) ≡ None
    unfolding bitmap_fault
    fill_accepted e f = rw (e, f) refl

module _ (s : Size) (t : Transfer) where
  pub scroll_no_rule : ltb 15 t.rule ≡ true → bitmap_fault s (scroll_by t) ≡ Some (fault RuleAboveFifteen (pos 0) (pos 0))
  unfolding bitmap_fault
  scroll_no_rule e = rw e refl

  pub scroll_accepted : ltb 15 t.rule ≡ false → bitmap_fault s (scroll_by t) ≡ None
  unfolding bitmap_fault
  scroll_accepted e = rw e refl

-- the place of a read: both coordinates are below the bitmap's size, or the fault says so

-- a coordinate that is below a size, and one that is not
below_some : (there : Bool) (z a : ℕ) → Some a ≡ (if there then Some z else None) → (there ≡ true) × (a ≡ z)
below_some true z a e = (refl, cc)
below_some false z a e = absurd (none-some a (sym e))

below_none : (there : Bool) (z : ℕ) → None ≡ (if there then Some z else None) → there ≡ false
below_none true z e = absurd (none-some z e)
below_none false z e = refl

module _ (s : Size) (x y : ℤ) where
  abbrev pub below_by : ℕ → ℤ → Option ℕ
  below_by n z = if holds (pos 0) n z then Some (nat_abs z) else None

  abbrev pub place_by : Result (ℕ × ℕ) Fault
  place_by = unless (bitmap_fault s (read_at x y)) (nat_abs x, nat_abs y)

  pub placed : (a b : ℕ) → Some a ≡ below_by s.width x → Some b ≡ below_by s.height y → Ok (a, b) ≡ place_by
  placed a b e f =
      let p = below_some (holds (pos 0) s.width x) (nat_abs x) a e in
      let q = below_some (holds (pos 0) s.height y) (nat_abs y) b f in
      rw (read_inside s x y (and_from _ _ p.0 q.0), p.1, q.1) refl

  pub no_column : None ≡ below_by s.width x → Err (fault OutsideBitmap x y) ≡ place_by
  no_column e = rw (read_outside s x y (ap (λ b. b && holds (pos 0) s.height y) (below_none (holds (pos 0) s.width x) (nat_abs x) e))) refl

  pub no_row : None ≡ below_by s.height y → Err (fault OutsideBitmap x y) ≡ place_by
  no_row e = rw (read_outside s x y (ap (λ b. holds (pos 0) s.width x && b) (below_none (holds (pos 0) s.height y) (nat_abs y) e) ∙ and_right _ _ refl)) refl

-- a fault makes the answer, and leaves the picture

module _ (p : Picture) (call : BitmapCall) where
  pub answer_refused : (f : Fault) → bitmap_fault (sizes p) call ≡ Some f → bitmap_answer p call ≡ Err f
  unfolding bitmap_answer
  answer_refused f e = rw e refl

  pub after_refused : (f : Fault) → bitmap_fault (sizes p) call ≡ Some f → bitmap_after p call ≡ p
  unfolding bitmap_after
  after_refused f e = rw e refl

  pub rows_refused : (f : Fault) → bitmap_fault (sizes p) call ≡ Some f → (b : ℕ) → row_concerned p call b ≡ false
  unfolding row_concerned
  rows_refused f e b = rw e refl

  pub answer_accepted : bitmap_fault (sizes p) call ≡ None → bitmap_answer p call ≡ Ok (bitmap_value p call)
  unfolding bitmap_answer
  answer_accepted e = rw e refl

  pub after_accepted : bitmap_fault (sizes p) call ≡ None → bitmap_after p call ≡ bitmap_change p call
  unfolding bitmap_after
  after_accepted e = rw e refl

  pub rows_accepted : bitmap_fault (sizes p) call ≡ None → (b : ℕ) → row_concerned p call b ≡ any_below (λ a. concerns p call a b) p.width
  unfolding row_concerned
  rows_accepted e b = rw e refl

-- from what a check of the place answers

pub unless_err : {A F : Type 0} (o : Option F) (a : A) (f : F) → ◌≡◌ {A = Result A F} (Err f) (unless o a) → o ≡ Some f
unless_err (Some g) a f e = cc
unless_err None a f e = cc

pub unless_ok : {A F : Type 0} (o : Option F) (a b : A) → ◌≡◌ {A = Result A F} (Ok b) (unless o a) → (o ≡ None) × (b ≡ a)
unless_ok (Some g) a b e = (cc, cc)
unless_ok None a b e = (refl, cc)

module _ (s : Size) (x y : ℤ) where
  pub read_within : bitmap_fault s (read_at x y) ≡ None → inside s x y ≡ true
  unfolding bitmap_fault
  read_within e = ⊎_elim (λ (t : inside s x y ≡ true). t) (λ (t : inside s x y ≡ false). absurd (none-some _ (sym e ∙ read_outside s x y t))) (cases_Bool (inside s x y))

  pub place_within : inside s x y ≡ true → (nat_abs x < s.width) × (nat_abs y < s.height)
  place_within e = (grind (arith, ints, nat_tests), grind (arith, ints, nat_tests))

  -- such a place is one of natural numbers
  pub inside_place : inside s x y ≡ true → (x ≡ pos (nat_abs x)) × (y ≡ pos (nat_abs y))
  inside_place e = (grind (arith, ints, nat_tests), grind (arith, ints, nat_tests))
