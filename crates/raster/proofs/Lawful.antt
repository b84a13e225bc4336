-- The laws over the definitions.
use Rattle.std.proofs.Common.{◌≡◌, ℕ, ◌+◌, ◌*◌, ◌^◌, ◌<◌, ◌≤◌, Bool, true, false, cond, ◌&&◌, eqb, ℤ, pos, nat_abs, Some, None, Option, sym, refl, ap, ◌∙◌, ⊎_elim, mod-eq_of_lt, arith}
use Rattle.std.proofs.lemmas.Int.{ints}
use Rattle.std.proofs.lemmas.Bool.{cases_Bool, cond-false, cond_both, and_parts, eqb-true}
use Rattle.std.proofs.lemmas.Bool.Decides.{nat_tests}
use Rattle.raster.specs.Rules.{bit, result, combined}
use Rattle.raster.specs.Picture.{Picture, sizes, Sound, painted}
use Rattle.raster.specs.Blt.{Source, transfer, holds, in_rectangle, inside, behind, from_picture, everywhere, concerned, count, blt}
use Rattle.raster.specs.declared.transfer.Transfer.{Transfer}
use Rattle.raster.specs.Calls.{BitmapCall, read_at, write_at, fill_with, scroll_by, bitmap_fault, bitmap_change, bitmap_after, concerns, fill_transfer, if_refused, unless}
use Rattle.raster.specs.Laws.{HasEverywhere, BitmapLaws}
use Rattle.raster.specs.declared.fault.Fault.{Fault}
use Rattle.raster.specs.declared.size.Size.{Size}
use Rattle.raster.proofs.Accepts.{place_within, answer_refused, after_refused}
use Rattle.raster.proofs.Called.{write_found}
use Rattle.raster.proofs.Digits.{at_below, of_two_bits, total_alike, bit_below, bits_all, combined_below, combined_bit}
use Rattle.raster.proofs.Paints.{painted_same, painted_at, painted_sizes}

-- rules

rule_is_sum : (rule : ℕ) → rule < 16 → 8 * result rule 0 0 + 4 * result rule 0 1 + 2 * result rule 1 0 + result rule 1 1 ≡ rule
rule_is_sum rule l = eqb-true _ _ (at_below (λ r. eqb (8 * result r 0 0 + 4 * result r 0 1 + 2 * result r 1 0 + result r 1 1) r) 16 refl rule l)

-- a rule whose result bit is always that of one of the two pixels
one_of : (rule depth s d v : ℕ) → ((j : ℕ) → result rule (bit s j) (bit d j) ≡ bit v j) → v < 2 ^ depth → combined depth rule s d ≡ v
unfolding combined
one_of rule depth s d v e l = total_alike _ _ depth (λ j _. ap (λ b. b * 2 ^ j) (e j)) ∙ bits_all v depth ∙ mod-eq_of_lt l

-- fill

module _ (p s : Picture) (rule v : ℕ) (x y sx sy : ℤ) (w h : ℕ) (has : HasEverywhere s v sx sy w h) where
  shifted : (d s' : ℤ) (n a : ℕ) → holds d n (pos a) ≡ true → holds s' n (behind s' d a) ≡ true
  shifted d s' n a t = grind (arith, ints, nat_tests)

  source_there : (a b : ℕ) → in_rectangle x y w h (pos a) (pos b) ≡ true
      → (inside (sizes s) (behind sx x a) (behind sy y b) ≡ true) × (s.at (nat_abs (behind sx x a)) (nat_abs (behind sy y b)) ≡ v)
  source_there a b t =
      let q = and_parts (holds x w (pos a)) (holds y h (pos b)) t in
      has (behind sx x a) (behind sy y b) (ap (λ u. u && holds sy h (behind sy y b)) (shifted x sx w a q.0) ∙ shifted y sy h b q.1)

  same_concerned : (a b : ℕ) → concerned (transfer rule sx sy x y w h) (from_picture s) (sizes p) a b ≡ concerned (fill_transfer rule x y w h) (everywhere v) (sizes p) a b
  unfolding concerned
  same_concerned a b =
      under (in_rectangle x y w h (pos a) (pos b)) (inside (sizes p) (pos a) (pos b)) (inside (sizes s) (behind sx x a) (behind sy y b)) (λ t. (source_there a b t).0)
    where
      under : (t u r : Bool) → (t ≡ true → r ≡ true) → (t && (u && r)) ≡ (t && (u && true))
      under true u r e = ap (λ z. u && z) (e refl)
      under false u r e = refl

  in_part : (a b : ℕ) → concerned (transfer rule sx sy x y w h) (from_picture s) (sizes p) a b ≡ true → in_rectangle x y w h (pos a) (pos b) ≡ true
  unfolding concerned
  in_part a b t = (and_parts _ _ t).0

  fill_from_any : (blt (transfer rule sx sy x y w h) (from_picture s) p ≡ blt (fill_transfer rule x y w h) (everywhere v) p)
      × (count (transfer rule sx sy x y w h) (from_picture s) (sizes p) ≡ count (fill_transfer rule x y w h) (everywhere v) (sizes p))
  unfolding blt count
  fill_from_any = (
    painted_same p _ _ _ _ same_concerned (λ a b t. ap (λ n. combined p.depth rule n (p.at a b)) (source_there a b (in_part a b t)).1),
    total_alike _ _ p.height (λ b _. total_alike _ _ p.width (λ a _. ap (λ t. cond t 1 0) (same_concerned a b))),
  )

-- what calls leave

painted_stays : (p : Picture) (t : ℕ → ℕ → Bool) (v : ℕ → ℕ → ℕ) (x y : ℕ) → t x y ≡ false → (painted p t v).at x y ≡ p.at x y
painted_stays p t v x y e = painted_at p t v x y ∙ cond-false (t x y) _ _ e

change_others : (p : Picture) (call : BitmapCall) (x y : ℕ) → concerns p call x y ≡ false → (bitmap_change p call).at x y ≡ p.at x y
unfolding blt
change_others p (read_at a b) x y e = refl
change_others p (write_at a b v) x y e = painted_stays p _ _ x y e
change_others p (fill_with rule v a b w h) x y e = painted_stays p _ _ x y e
change_others p (scroll_by t) x y e = painted_stays p _ _ x y e

change_size : (p : Picture) (call : BitmapCall) → sizes (bitmap_change p call) ≡ sizes p
unfolding blt
change_size p (read_at a b) = refl
change_size p (write_at a b v) = painted_sizes p _ _
change_size p (fill_with rule v a b w h) = painted_sizes p _ _
change_size p (scroll_by t) = painted_sizes p _ _

painted_sound : (p : Picture) (t : ℕ → ℕ → Bool) (v : ℕ → ℕ → ℕ) → Sound p → ((x y : ℕ) → t x y ≡ true → v x y < 2 ^ p.depth)
    → ((x y : ℕ) → t x y ≡ true → (x < p.width) × (y < p.height)) → Sound (painted p t v)
unfolding painted
painted_sound p t v s small within =
    record {
      wide = s.wide;
      high = s.high;
      deep = s.deep;
      values = λ x y. cond_both (t x y) (v x y) (p.at x y) (λ n. n < 2 ^ p.depth) (small x y) (λ _. s.values x y);
      outside = λ x y o.
          ⊎_elim (λ (e : t x y ≡ true). let q = within x y e in absurd (⊎_elim (λ (l : p.width ≤ x). omega (arith, q)) (λ (l : p.height ≤ y). omega (arith, q)) o))
          (λ (e : t x y ≡ false). cond-false (t x y) _ _ e ∙ s.outside x y o) (cases_Bool (t x y));
    }

concerned_within : (t : Transfer) (src : Source) (d : Size) (x y : ℕ) → concerned t src d x y ≡ true → (x < d.width) × (y < d.height)
unfolding concerned
concerned_within t src d x y e =
    let there : Bool = src.has (behind t.sx t.dx x) (behind t.sy t.dy y) in
    let inner : Bool = inside d (pos x) (pos y) && there in
    place_within d (pos x) (pos y) (and_parts (inside d (pos x) (pos y)) there (and_parts (in_rectangle t.dx t.dy t.w t.h (pos x) (pos y)) inner e).1).0

change_sound : (p : Picture) (call : BitmapCall) → Sound p → bitmap_fault (sizes p) call ≡ None → Sound (bitmap_change p call)
unfolding blt
change_sound p (read_at a b) s ok = s
change_sound p (write_at a b v) s ok =
    let f = write_found p a b v (nat_abs a) (nat_abs b) (ap (λ o. unless o (nat_abs a, nat_abs b)) (sym ok)) in
    painted_sound p _ _ s (λ x y _. f.small)
    (λ x y t. let q = and_parts (eqb x (nat_abs a)) (eqb y (nat_abs b)) t in (omega (arith, eqb-true x (nat_abs a) q.0, f.across), omega (arith, eqb-true y (nat_abs b) q.1, f.down)))
change_sound p (fill_with rule v a b w h) s ok = painted_sound p _ _ s (λ x y _. combined_below p.depth rule _ _) (λ x y t. concerned_within _ _ (sizes p) x y t)
change_sound p (scroll_by t) s ok = painted_sound p _ _ s (λ x y _. combined_below p.depth t.rule _ _) (λ x y e. concerned_within _ _ (sizes p) x y e)

-- a fact of both pictures that a call may leave
either_after : (p : Picture) (call : BitmapCall) (P : Picture → Type 0) → P p → (bitmap_fault (sizes p) call ≡ None → P (bitmap_change p call)) → P (bitmap_after p call)
unfolding bitmap_after
either_after p call P before changed = by (bitmap_fault (sizes p) call) changed
  where
    by : (o : Option Fault) → (o ≡ None → P (bitmap_change p call)) → P (if_refused o p (bitmap_change p call))
    by (Some f) g = before
    by None g = g refl

pub bitmap_laws_lem : BitmapLaws
bitmap_laws_lem =
    record {
      rule_is_sum = rule_is_sum;
      every_bit = combined_bit;
      none_above = combined_below;
      source_rule = λ depth s d l. one_of 3 depth s d s (λ j. of_two_bits 3 (λ s d. s) refl (bit s j) (bit d j) (bit_below s j) (bit_below d j)) l;
      destination_rule = λ depth s d l. one_of 5 depth s d d (λ j. of_two_bits 5 (λ s d. d) refl (bit s j) (bit d j) (bit_below s j) (bit_below d j)) l;
      fill_from_any = fill_from_any;
      refused_stays = λ p call f e. (answer_refused p call f e, after_refused p call f e);
      others_stay = λ p call x y e. either_after p call (λ q. q.at x y ≡ p.at x y) refl (λ _. change_others p call x y e);
      size_stays = λ p call. either_after p call (λ q. sizes q ≡ sizes p) refl (λ _. change_size p call);
      sound_stays = λ p call s. either_after p call Sound s (change_sound p call s);
    }
