-- The clients above one and the topmost client, areas of one place, and sums in 32 bits.
use Rattle.std.proofs.Common.{◌≡◌, ℕ, zero, suc, ◌+◌, ◌<◌, Bool, true, false, cond, ◌&&◌, ◌||◌, eqb, List, [], ◌∷◌, length, get_or, drop, find, reverse, ℤ, pos, ◌+ℤ◌, Some, None, Option, sym, refl, ap, ◌∙◌, ap₂, add-one, arith, w16, w32, SFits, to_z, of_z}
use Rattle.std.specs.List.{position, list_any}
use Rattle.std.specs.Option.{option_or}
use Rattle.std.proofs.lemmas.List.{reverse-append}
use Rattle.std.proofs.lemmas.List.Folds.{find-append}
use Rattle.std.proofs.lemmas.List.Quantifiers.{position-Some}
use Rattle.std.proofs.lemmas.Int.{ints}
use Rattle.std.proofs.lemmas.Bool.{or_parts}
use Rattle.std.proofs.lemmas.Bool.Decides.{nat_tests}
use Rattle.raster.specs.Blt.{holds, in_rectangle}
use Rattle.paper.specs.Layers.{Layer, or_else, covers, covered, topmost}
use Rattle.paper.specs.Desk.{client_if}
use Rattle.raster.specs.declared.rectangle.Rectangle.{Rectangle}
use Rattle.plan.specs.Frames.{no_frame, has}
use Rattle.plan.specs.Plans.{outline, outlines, above}
use Rattle.plan.specs.Areas.{reaches, meets, met}

-- ── The clients above one ──

pub above_open : (c i : ℕ) (cs : List ℕ) (fs : List Rectangle) → Some i ≡ position (λ d. eqb d c) cs → outlines (drop (i + 1) cs) fs ≡ above c (outlines cs fs)
above_open c i cs fs e = let q = position-Some (λ d. eqb d c) cs i 0 (sym e) in ap (λ k. outlines (drop k cs) fs) (add-one i) ∙ go i cs q.0 q.1 q.2
  where
    go : (i : ℕ) (cs : List ℕ) → i < length cs → eqb (get_or cs i 0) c ≡ true → ((k : ℕ) → k < i → eqb (get_or cs k 0) c ≡ false)
        → outlines (drop (suc i) cs) fs ≡ above c (outlines cs fs)
    go i [] l e h = absurd (omega arith)
    go zero (d ∷ cs) l e h = sym (ap (λ b. cond b (outlines cs fs) (above c (outlines cs fs))) e)
    go (suc i) (d ∷ cs) l e h = go i cs (omega arith) e (λ k m. h (suc k) (omega arith)) ∙ sym (ap (λ b. cond b (outlines cs fs) (above c (outlines cs fs))) (h 0 (omega arith)))

pub above_closed : (c : ℕ) (cs : List ℕ) (fs : List Rectangle) → has c cs ≡ false → [] ≡ above c (outlines cs fs)
above_closed c [] fs h = refl
above_closed c (d ∷ cs) fs h =
    let q = or_parts (eqb d c) (has c cs) h in
    above_closed c cs fs q.1 ∙ sym (ap (λ b. cond b (outlines cs fs) (above c (outlines cs fs))) q.0)

-- ── Areas ──

module _ (fs : List Rectangle) (left top right bottom : ℤ) where
  abbrev pub meets_frame : ℕ → Bool
  meets_frame c = meets (get_or fs c no_frame).x (get_or fs c no_frame).y (get_or fs c no_frame).w (get_or fs c no_frame).h left top right bottom

  pub met_any : (cs : List ℕ) → list_any meets_frame cs ≡ met (outlines cs fs) left top right bottom
  met_any [] = refl
  met_any (c ∷ cs) = ap (λ b. meets_frame c || b) (met_any cs)

-- One place is an area.
pub meets_place : (x y : ℤ) (w h : ℕ) (a b : ℤ) → meets x y w h a b (a +ℤ pos 1) (b +ℤ pos 1) ≡ in_rectangle x y w h a b
meets_place x y w h a b = ap₂ ◌&&◌ (one x w a) (one y h b)
  where
    one : (x : ℤ) (w : ℕ) (a : ℤ) → reaches x w a (a +ℤ pos 1) ≡ holds x w a
    one x w a = grind (arith, ints, nat_tests)

pub met_place : (ls : List Layer) (a b : ℤ) → met ls a b (a +ℤ pos 1) (b +ℤ pos 1) ≡ covered ls a b
met_place [] a b = refl
met_place (l ∷ ls) a b = ap₂ ◌||◌ (meets_place l.x l.y l.pixels.width l.pixels.height a b) (met_place ls a b)

-- ── The topmost client ──

topmost_found : (fs : List Rectangle) (a b : ℤ) (cs : List ℕ) → find (λ c. covers (outline c (get_or fs c no_frame)) a b) (reverse cs) ≡ client_if (topmost (outlines cs fs) a b)
topmost_found fs a b [] = refl
topmost_found fs a b (c ∷ cs) =
    let test : ℕ → Bool = λ c. covers (outline c (get_or fs c no_frame)) a b in
    ap (find test) (reverse-append (c ∷ []) cs) ∙ find-append test (reverse cs) (c ∷ []) ∙ ap (λ o. option_or o (cond (test c) (Some c) None)) (topmost_found fs a b cs)
    ∙ go (topmost (outlines cs fs) a b) (test c)
  where
    go : (t : Option Layer) (k : Bool) → option_or (client_if t) (cond k (Some c) None) ≡ client_if (or_else t (cond k (Some (outline c (get_or fs c no_frame))) None))
    go (Some l) k = refl
    go None true = refl
    go None false = refl

pub topmost_met : (fs : List Rectangle) (a b : ℤ) (cs : List ℕ) → find (meets_frame fs a b (a +ℤ pos 1) (b +ℤ pos 1)) (reverse cs) ≡ client_if (topmost (outlines cs fs) a b)
topmost_met fs a b cs =
    (λ i. find (λ c. meets_place (get_or fs c no_frame).x (get_or fs c no_frame).y (get_or fs c no_frame).w (get_or fs c no_frame).h a b i) (reverse cs)) ∙ topmost_found fs a b cs

-- ── Sums in 32 bits of numbers in 16 ──

pub wide : (x : ℤ) → SFits w16 x → to_z w32 (of_z w32 (to_z w16 (of_z w16 x))) ≡ x
wide x f = omega (arith, ints)

abbrev pub summed : ℤ → ℕ → ℤ
summed x u = to_z w32 (of_z w32 (to_z w32 (of_z w32 (to_z w16 (of_z w16 x))) +ℤ to_z w32 u))

pub wide_sum : (x : ℤ) (u : ℕ) → SFits w16 x → u < 65536 → summed x u ≡ x +ℤ pos u
wide_sum x u f h = omega (arith, ints)
