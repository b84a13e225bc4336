-- What a kind of bitmap has to show of each call, from what the checks of raster answer.
use Rattle.std.proofs.Common.{◌≡◌, ℕ, ◌+◌, ◌*◌, ◌^◌, ◌<◌, Bool, true, false, ◌&&◌, eqb, ltb, leb, ℤ, nat_abs, Some, Ok, Err, Result, sym, refl, ap, ◌∙◌, ⊎_elim, arith}
use Rattle.std.proofs.Math.Bool.{and-true}
use Rattle.std.proofs.lemmas.Option.{none-some}
use Rattle.std.specs.Result.{IsErrAnd}
use Rattle.std.proofs.lemmas.Result.{err_from_is_err_and}
use Rattle.std.proofs.lemmas.Bool.{cases_Bool, leb-false}
use Rattle.std.proofs.lemmas.Bool.Decides.{nat_tests}
use Rattle.raster.specs.Picture.{Picture, sizes, with_pixel}
use Rattle.raster.specs.Calls.{BitmapCall, read_at, write_at, bitmap_fault, bitmap_answer, bitmap_after, row_concerned, any_below, unless, Called}
use Rattle.raster.specs.Blits.{performed, spans, Performs}
use Rattle.raster.specs.declared.fault.Fault.{Fault}
use Rattle.raster.specs.declared.blit.Blit.{Blit}
use Rattle.raster.proofs.Accepts.{unless_err, unless_ok, read_within, place_within, write_too_large, write_as_read, answer_refused, after_refused, rows_refused, answer_accepted, after_accepted, rows_accepted}
use Rattle.raster.proofs.Counts.{any_with, any_between, any_same}

-- a refused call
pub record Refused (p : Picture) (call : BitmapCall) (f : Fault) : Type 0 where
  pub answer : ◌≡◌ {A = Result ℕ Fault} (Err f) (bitmap_answer p call)
  pub after : p ≡ bitmap_after p call
  pub rows : (b : ℕ) → row_concerned p call b ≡ false

pub refused : (p : Picture) (call : BitmapCall) (f : Fault) → bitmap_fault (sizes p) call ≡ Some f → Refused p call f
refused p call f e = record { answer = sym (answer_refused p call f e); after = sym (after_refused p call f e); rows = rows_refused p call f e }

pub place_refused : {A : Type 0} (p : Picture) (call : BitmapCall) (f : Fault) (a : A) → ◌≡◌ {A = Result A Fault} (Err f) (unless (bitmap_fault (sizes p) call) a) → Refused p call f
place_refused p call f a e = refused p call f (unless_err (bitmap_fault (sizes p) call) a f e)

-- an answer that hands on the fault of a refused call
pub hands_on : {p : Picture} {call : BitmapCall} (r : Result ℕ Fault) (f : Fault) → IsErrAnd r (λ e. e ≡ f) → Refused p call f → r ≡ bitmap_answer p call
hands_on r f h q = let e = err_from_is_err_and r h in rw (e.1, e.2) q.answer

-- and leaves the very same value
pub call_refused : {B : Type 0} (picture : B → Picture) (keeps : B → B → Type 0) (b : B) → keeps b b → (call : BitmapCall) (r : Result ℕ Fault) (f : Fault) → IsErrAnd r (λ e. e ≡ f)
    → Refused (picture b) call f → Called picture keeps b call r b
call_refused picture keeps b same call (Ok n) f h q = absurd h
call_refused picture keeps b same call (Err e) f h q = record { answer = hands_on (Err e) f h q; after = q.after; rest = same; refused = refl }

-- a read whose pixel is (a, b)
pub record ReadFound (p : Picture) (x y : ℤ) (a b : ℕ) : Type 0 where
  pub across : a < p.width
  pub down : b < p.height
  pub answer : (r : ℕ) → r ≡ p.at a b → ◌≡◌ {A = Result ℕ Fault} (Ok r) (bitmap_answer p (read_at x y))

pub read_found : (p : Picture) (x y : ℤ) (a b : ℕ) → ◌≡◌ {A = Result (ℕ × ℕ) Fault} (Ok (a, b)) (unless (bitmap_fault (sizes p) (read_at x y)) (nat_abs x, nat_abs y)) → ReadFound p x y a b
read_found p x y a b e =
    let q = unless_ok (bitmap_fault (sizes p) (read_at x y)) (nat_abs x, nat_abs y) (a, b) e in
    let ea : a ≡ nat_abs x = ap (λ (z : ℕ × ℕ). z.0) q.1 in
    let eb : b ≡ nat_abs y = ap (λ (z : ℕ × ℕ). z.1) q.1 in
    let w = place_within (sizes p) x y (read_within (sizes p) x y q.0) in
    record {
      across = omega (arith, w);
      down = omega (arith, w);
      answer = λ r er. ap Ok (er ∙ ap (λ n. p.at n b) ea ∙ ap (p.at (nat_abs x)) eb) ∙ sym (answer_accepted p (read_at x y) q.0);
    }

-- a write whose pixel is (a, b)
pub record WriteFound (p : Picture) (x y : ℤ) (v a b : ℕ) : Type 0 where
  pub across : a < p.width
  pub down : b < p.height
  pub small : v < 2 ^ p.depth
  pub answer : ◌≡◌ {A = Result ℕ Fault} (Ok 0) (bitmap_answer p (write_at x y v))
  pub after : (q : Picture) → q ≡ with_pixel p a b v → q ≡ bitmap_after p (write_at x y v)
  pub rows : (z : ℕ) → eqb z b ≡ row_concerned p (write_at x y v) z

one_row : (x w : ℕ) (t : Bool) → x < w → t ≡ any_below (λ a. eqb a x && t) w
one_row x w t l =
    sym (any_same (λ a. eqb a x && t) (λ a. (leb x a && ltb a (x + 1)) && t) (λ a. ap (λ s. s && t) (single a)) w ∙ any_with t _ w ∙ ap (λ s. t && s) (any_between x 1 w (omega arith)) ∙ and-true t)
  where
    single : (a : ℕ) → eqb a x ≡ (leb x a && ltb a (x + 1))
    single a = grind (arith, nat_tests)

pub write_found : (p : Picture) (x y : ℤ) (v a b : ℕ) → ◌≡◌ {A = Result (ℕ × ℕ) Fault} (Ok (a, b)) (unless (bitmap_fault (sizes p) (write_at x y v)) (nat_abs x, nat_abs y)) → WriteFound p x y v a b
write_found p x y v a b e =
    let q = unless_ok (bitmap_fault (sizes p) (write_at x y v)) (nat_abs x, nat_abs y) (a, b) e in
    let ea : a ≡ nat_abs x = ap (λ (z : ℕ × ℕ). z.0) q.1 in
    let eb : b ≡ nat_abs y = ap (λ (z : ℕ × ℕ). z.1) q.1 in
    let fits : leb (2 ^ p.depth) v ≡ false =
    ⊎_elim (λ (t : leb (2 ^ p.depth) v ≡ true). absurd (none-some _ (sym q.0 ∙ write_too_large (sizes p) x y v t))) (λ (t : leb (2 ^ p.depth) v ≡ false). t) (cases_Bool (leb (2 ^ p.depth) v)) in
    let w = place_within (sizes p) x y (read_within (sizes p) x y (sym (write_as_read (sizes p) x y v fits) ∙ q.0)) in
    record {
      across = omega (arith, w);
      down = omega (arith, w);
      small = leb-false (2 ^ p.depth) v fits;
      answer = sym (answer_accepted p (write_at x y v) q.0);
      after = λ r er. er ∙ ap (λ n. with_pixel p n b v) ea ∙ ap (λ n. with_pixel p (nat_abs x) n v) eb ∙ sym (after_accepted p (write_at x y v) q.0);
      rows = λ z. ap (eqb z) eb ∙ one_row (nat_abs x) p.width (eqb z (nat_abs y)) w.0 ∙ sym (rows_accepted p (write_at x y v) q.0 z);
    }

-- a fill or a scroll whose blit was performed
pub record Painted (p : Picture) (call : BitmapCall) (b : Blit) : Type 0 where
  pub answer : (n : ℕ) → n ≡ b.rows.len * b.columns.len → ◌≡◌ {A = Result ℕ Fault} (Ok n) (bitmap_answer p call)
  pub after : (q : Picture) → q ≡ performed b p → q ≡ bitmap_after p call
  pub rows : (z : ℕ) → (spans b.rows z && ltb 0 b.columns.len) ≡ row_concerned p call z

pub blit_painted : (p : Picture) (call : BitmapCall) (b : Blit) → Performs (sizes p) call b → Painted p call b
blit_painted p call b d =
    record {
      answer = λ n e. ap Ok (e ∙ d.counts p refl) ∙ sym (answer_accepted p call d.accepted);
      after = λ q e. e ∙ d.leaves p refl ∙ sym (after_accepted p call d.accepted);
      rows = d.touches p refl;
    }
