-- A patch is hidden exactly if its rectangle is not on the screen as a whole, or meets that of a higher layer.
use Rattle.std.proofs.Common.{◌≡◌, ℕ, zero, suc, ◌+◌, ◌-◌, ◌*◌, ◌<◌, ◌≤◌, min, Bool, true, false, cond, not, ◌&&◌, ◌||◌, eqb, ltb, ◌⊎◌, List, [], ◌∷◌, get_or, ℤ, pos, ◌+ℤ◌, ◌-ℤ◌, nat_abs, sym, refl, ap, ◌∙◌, inl, inr, ⊎_elim, arith, w16, SFits}
use lib.Signed.{le_z}
use Rattle.std.specs.Cmp.{both_ways}
use Rattle.std.proofs.lemmas.Int.{ints}
use Rattle.std.proofs.lemmas.Bool.{and_parts, and_from, and_cases, and_left, and_right, le-ltb, or_left, or_right, or_cases, or_parts, eqb-true, not-true, not_from_false, cases_Bool, cases_lt, lt-ltb, ltb-true, false≢true}
use Rattle.std.proofs.lemmas.Bool.Decides.{nat_tests}
use Rattle.raster.specs.Blt.{holds, inside}
use Rattle.raster.specs.Calls.{any_below}
use Rattle.raster.specs.declared.size.Size.{Size}
use Rattle.paper.specs.Layers.{Layer, covers, covered}
use Rattle.paper.specs.Slots.{obscured, hidden, hidden_in}
use Rattle.raster.specs.declared.rectangle.Rectangle.{Rectangle}
use Rattle.plan.specs.Frames.{no_frame, has}
use Rattle.plan.specs.Plans.{outline, outlines, above}
use Rattle.plan.proofs.Turns.{summed, wide_sum}
use Rattle.plan.specs.Areas.{reaches, meets, met, within, on_screen, hidden_area}

-- ── One axis: u + a are the pixels of a patch at u, of w pixels, of a layer at x ──

abbrev Pixel : (u w : ℕ) → (ℕ → Type 0) → Type 0
Pixel u w P = (a : ℕ) × (a < 16) × (u + a < w) × P (u + a)

axis_in : (x : ℤ) (u a w n : ℕ) → a < 16 → u + a < w → within (x +ℤ pos u) (x +ℤ pos (min (u + 16) w)) n ≡ true → holds (pos 0) n (x +ℤ pos (u + a)) ≡ true
axis_in x u a w n ha hw e = grind (arith, ints, nat_tests)

axis_out : (x : ℤ) (u w n : ℕ) → u < w → within (x +ℤ pos u) (x +ℤ pos (min (u + 16) w)) n ≡ false → Pixel u w (λ k. holds (pos 0) n (x +ℤ pos k) ≡ false)
axis_out x u w n h e =
    ⊎_elim
    (λ (l : le_z (pos 0) (x +ℤ pos u) ≡ false). (0, omega arith, omega arith, grind (arith, ints, nat_tests)))
    (λ (r : le_z (x +ℤ pos (min (u + 16) w)) (pos n) ≡ false). (min (u + 16) w - 1 - u, omega arith, omega arith, grind (arith, ints, nat_tests)))
    (and_cases (le_z (pos 0) (x +ℤ pos u)) (le_z (x +ℤ pos (min (u + 16) w)) (pos n)) e)

axis_covered : (x : ℤ) (u a w : ℕ) (y : ℤ) (n : ℕ) → a < 16 → u + a < w → holds y n (x +ℤ pos (u + a)) ≡ true → reaches y n (x +ℤ pos u) (x +ℤ pos (min (u + 16) w)) ≡ true
axis_covered x u a w y n ha hw e = grind (arith, ints, nat_tests)

axis_meets : (x : ℤ) (u w : ℕ) (y : ℤ) (n : ℕ) → u < w → reaches y n (x +ℤ pos u) (x +ℤ pos (min (u + 16) w)) ≡ true → Pixel u w (λ k. holds y n (x +ℤ pos k) ≡ true)
axis_meets x u w y n h e =
    ⊎_elim
    (λ (l : le_z y (x +ℤ pos u) ≡ true). (0, omega arith, omega arith, grind (arith, ints, nat_tests)))
    (λ (r : le_z y (x +ℤ pos u) ≡ false). (nat_abs (y -ℤ (x +ℤ pos u)), grind (arith, ints, nat_tests), grind (arith, ints, nat_tests), grind (arith, ints, nat_tests)))
    (cases_Bool (le_z y (x +ℤ pos u)))

-- ── One of the numbers below n passes a test ──

pub any_of : (f : ℕ → Bool) (n k : ℕ) → k < n → f k ≡ true → any_below f n ≡ true
any_of f zero k h e = absurd (omega arith)
any_of f (suc n) k h e =
    ⊎_elim (λ (l : k < n). or_left (any_below f n) (f n) (any_of f n k l e))
    (λ (l : n ≤ k). let same : k ≡ n = omega arith in or_right (any_below f n) (f n) (ap f (sym same) ∙ e)) (cases_lt k n)

pub any_one : (f : ℕ → Bool) (n : ℕ) → any_below f n ≡ true → (k : ℕ) × (k < n) × (f k ≡ true)
any_one f zero e = absurd (false≢true e)
any_one f (suc n) e =
    ⊎_elim (λ (h : any_below f n ≡ true). let q = any_one f n h in (q.0, omega (arith, q.1), q.2)) (λ (h : f n ≡ true). (n, omega arith, h)) (or_cases (any_below f n) (f n) e)

-- ── Both axes ──

module _ (f : Rectangle) (u v : ℕ) where
  abbrev x : ℕ → ℤ
  x k = f.x +ℤ pos k

  abbrev y : ℕ → ℤ
  y k = f.y +ℤ pos k

  abbrev right : ℤ
  right = f.x +ℤ pos (min (u + 16) f.w)

  abbrev bottom : ℤ
  bottom = f.y +ℤ pos (min (v + 16) f.h)

  -- some pixel of the patch
  abbrev SomePixel : (ℕ → ℕ → Type 0) → Type 0
  SomePixel P = (a : ℕ) × (b : ℕ) × (a < 16) × (b < 16) × (u + a < f.w) × (v + b < f.h) × P (u + a) (v + b)

  covered_met : (ls : List Layer) (a b : ℕ) → a < 16 → b < 16 → u + a < f.w → v + b < f.h → covered ls (x (u + a)) (y (v + b)) ≡ true → met ls (x u) (y v) right bottom ≡ true
  covered_met [] a b ha hb hw hh e = e
  covered_met (l ∷ ls) a b ha hb hw hh e =
      ⊎_elim
      (λ (c : covers l (x (u + a)) (y (v + b)) ≡ true).
      let q = and_parts (holds l.x l.pixels.width (x (u + a))) (holds l.y l.pixels.height (y (v + b))) c in
      or_left _ _ (and_from _ _ (axis_covered f.x u a f.w l.x l.pixels.width ha hw q.0) (axis_covered f.y v b f.h l.y l.pixels.height hb hh q.1)))
      (λ (c : covered ls (x (u + a)) (y (v + b)) ≡ true). or_right _ _ (covered_met ls a b ha hb hw hh c))
      (or_cases (covers l (x (u + a)) (y (v + b))) (covered ls (x (u + a)) (y (v + b))) e)

  met_covered : (ls : List Layer) → u < f.w → v < f.h → met ls (x u) (y v) right bottom ≡ true → SomePixel (λ p q. covered ls (x p) (y q) ≡ true)
  met_covered [] hu hv e = absurd (false≢true e)
  met_covered (l ∷ ls) hu hv e =
      ⊎_elim
      (λ (c : meets l.x l.y l.pixels.width l.pixels.height (x u) (y v) right bottom ≡ true).
      let q = and_parts (reaches l.x l.pixels.width (x u) right) (reaches l.y l.pixels.height (y v) bottom) c in
      let p = axis_meets f.x u f.w l.x l.pixels.width hu q.0 in
      let r = axis_meets f.y v f.h l.y l.pixels.height hv q.1 in
      (p.0, r.0, p.1, r.1, p.2, r.2, or_left _ _ (and_from _ _ p.3 r.3)))
      (λ (c : met ls (x u) (y v) right bottom ≡ true).
      let p = met_covered ls hu hv c in
      (p.0, p.1, p.2, p.3, p.4, p.5, or_right (covers l (x (u + p.0)) (y (v + p.1))) _ p.6))
      (or_cases (meets l.x l.y l.pixels.width l.pixels.height (x u) (y v) right bottom) (met ls (x u) (y v) right bottom) e)

  module _ (s : Size) (higher : List Layer) where
    on_inside : (a b : ℕ) → a < 16 → b < 16 → u + a < f.w → v + b < f.h → on_screen s (x u) (y v) right bottom ≡ true → inside s (x (u + a)) (y (v + b)) ≡ true
    on_inside a b ha hb hw hh e =
        let q = and_parts (within (x u) right s.width) (within (y v) bottom s.height) e in
        and_from _ _ (axis_in f.x u a f.w s.width ha hw q.0) (axis_in f.y v b f.h s.height hb hh q.1)

    off_outside : u < f.w → v < f.h → on_screen s (x u) (y v) right bottom ≡ false → SomePixel (λ p q. inside s (x p) (y q) ≡ false)
    off_outside hu hv e =
        ⊎_elim
        (λ (l : within (x u) right s.width ≡ false).
        let p = axis_out f.x u f.w s.width hu l in
        (p.0, 0, p.1, omega arith, p.2, omega arith, ap (λ b. b && holds (pos 0) s.height (y (v + 0))) p.3))
        (λ (l : within (y v) bottom s.height ≡ false).
        let p = axis_out f.y v f.h s.height hv l in
        (0, p.0, omega arith, p.1, omega arith, p.2, and_right _ _ p.3))
        (and_cases (within (x u) right s.width) (within (y v) bottom s.height) e)

    -- a pixel that is off the screen or covered, and one of each
    abbrev lost : ℕ → ℕ → Bool
    lost p q = not (inside s (x p) (y q) && not (covered higher (x p) (y q)))

    lost_from : (on over : Bool) → (on ≡ false) ⊎ (over ≡ true) → not (on && not over) ≡ true
    lost_from true true h = refl
    lost_from true false h = ⊎_elim (λ (e : true ≡ false). sym e) (λ (e : false ≡ true). e) h
    lost_from false over h = refl

    lost_to : (on over : Bool) → not (on && not over) ≡ true → (on ≡ false) ⊎ (over ≡ true)
    lost_to true true e = inr refl
    lost_to true false e = absurd (false≢true e)
    lost_to false over e = inl refl

    area_lost : hidden_area s higher f u v ≡ true → SomePixel (λ p q. lost p q ≡ true)
    unfolding hidden_area
    area_lost e =
        let q = and_parts (ltb u f.w && ltb v f.h) _ e in
        let r = and_parts (ltb u f.w) (ltb v f.h) q.0 in
        let hu = ltb-true u f.w r.0 in
        let hv = ltb-true v f.h r.1 in
        ⊎_elim
        (λ (k : not (on_screen s (x u) (y v) right bottom) ≡ true).
        let p = off_outside hu hv (not-true _ k) in (p.0, p.1, p.2, p.3, p.4, p.5, lost_from _ _ (inl p.6)))
        (λ (k : met higher (x u) (y v) right bottom ≡ true).
        let p = met_covered higher hu hv k in (p.0, p.1, p.2, p.3, p.4, p.5, lost_from _ _ (inr p.6)))
        (or_cases (not (on_screen s (x u) (y v) right bottom)) (met higher (x u) (y v) right bottom) q.1)

    lost_area : (a b : ℕ) → a < 16 → b < 16 → u + a < f.w → v + b < f.h → lost (u + a) (v + b) ≡ true → hidden_area s higher f u v ≡ true
    unfolding hidden_area
    lost_area a b ha hb hw hh e =
        and_from _ _ (and_from _ _ (lt-ltb u f.w (omega arith)) (lt-ltb v f.h (omega arith)))
        (⊎_elim
        (λ (k : inside s (x (u + a)) (y (v + b)) ≡ false). or_left _ _ (not_from_false _ (off k (on_screen s (x u) (y v) right bottom) (on_inside a b ha hb hw hh))))
        (λ (k : covered higher (x (u + a)) (y (v + b)) ≡ true). or_right _ _ (covered_met higher a b ha hb hw hh k))
        (lost_to (inside s (x (u + a)) (y (v + b))) (covered higher (x (u + a)) (y (v + b))) e))
      where
        off : inside s (x (u + a)) (y (v + b)) ≡ false → (t : Bool) → (t ≡ true → inside s (x (u + a)) (y (v + b)) ≡ true) → t ≡ false
        off k true g = sym (g refl) ∙ k
        off k false g = refl

-- ── The patch in column i and row j ──

-- it is hidden if one of its pixels is obscured
pub obscured_hides : (s : Size) (higher : List Layer) (l : Layer) (i j a b : ℕ) → a < 16 → b < 16 → obscured s higher l (16 * i + a) (16 * j + b) ≡ true → hidden s higher l i j ≡ true
unfolding hidden
obscured_hides s higher l i j a b ha hb e =
    any_of (λ v. any_below (λ u. obscured s higher l (16 * i + u) (16 * j + v)) 16) 16 b hb (any_of (λ u. obscured s higher l (16 * i + u) (16 * j + b)) 16 a ha e)

module _ (s : Size) (higher : List Layer) (c : ℕ) (f : Rectangle) (i j : ℕ) where
  area_hidden : hidden_area s higher f (16 * i) (16 * j) ≡ true → hidden s higher (outline c f) i j ≡ true
  area_hidden e =
      let p = area_lost f (16 * i) (16 * j) s higher e in
      obscured_hides s higher (outline c f) i j p.0 p.1 p.2 p.3 (and_from _ _ (and_from _ _ (lt-ltb (16 * i + p.0) f.w p.4) (lt-ltb (16 * j + p.1) f.h p.5)) p.6)

  hidden_lost : hidden s higher (outline c f) i j ≡ true → hidden_area s higher f (16 * i) (16 * j) ≡ true
  unfolding hidden
  hidden_lost e =
      let p = any_one (λ v. any_below (λ u. obscured s higher (outline c f) (16 * i + u) (16 * j + v)) 16) 16 e in
      let q = any_one (λ u. obscured s higher (outline c f) (16 * i + u) (16 * j + p.0)) 16 p.2 in
      let r = and_parts (ltb (16 * i + q.0) f.w && ltb (16 * j + p.0) f.h) _ q.2 in
      let t = and_parts (ltb (16 * i + q.0) f.w) (ltb (16 * j + p.0) f.h) r.0 in
      lost_area f (16 * i) (16 * j) s higher q.0 p.0 q.1 p.1 (ltb-true _ _ t.0) (ltb-true _ _ t.1) r.1

  pub hidden_by_area : hidden s higher (outline c f) i j ≡ hidden_area s higher f (16 * i) (16 * j)
  hidden_by_area = both_ways _ _ hidden_lost area_hidden

-- ── Among the layers of some clients ──

module _ (s : Size) (fs : List Rectangle) (c i j : ℕ) where
  pub hidden_open : (cs : List ℕ) → has c cs ≡ true
      → hidden_in s (outlines cs fs) c i j ≡ hidden s (above c (outlines cs fs)) (outline c (get_or fs c no_frame)) i j
  hidden_open [] h = absurd (false≢true h)
  hidden_open (d ∷ cs) h = go (hidden_open cs) (eqb d c) refl h
    where
      go : (has c cs ≡ true → hidden_in s (outlines cs fs) c i j ≡ hidden s (above c (outlines cs fs)) (outline c (get_or fs c no_frame)) i j)
          → (b : Bool) → eqb d c ≡ b → (b || has c cs) ≡ true
          → cond b (hidden s (outlines cs fs) (outline d (get_or fs d no_frame)) i j) (hidden_in s (outlines cs fs) c i j)
          ≡ hidden s (cond b (outlines cs fs) (above c (outlines cs fs))) (outline c (get_or fs c no_frame)) i j
      go ih true e h = ap (λ k. hidden s (outlines cs fs) (outline k (get_or fs k no_frame)) i j) (eqb-true d c e)
      go ih false e h = ih h

  pub hidden_closed : (cs : List ℕ) → has c cs ≡ false → hidden_in s (outlines cs fs) c i j ≡ false
  hidden_closed [] h = refl
  hidden_closed (d ∷ cs) h =
      let q = or_parts (eqb d c) (has c cs) h in
      ap (λ b. cond b (hidden s (outlines cs fs) (outline d (get_or fs d no_frame)) i j) (hidden_in s (outlines cs fs) c i j)) q.0 ∙ hidden_closed cs q.1

  -- by areas
  pub hidden_at : (cs : List ℕ) → has c cs ≡ true → hidden_in s (outlines cs fs) c i j ≡ hidden_area s (above c (outlines cs fs)) (get_or fs c no_frame) (16 * i) (16 * j)
  hidden_at cs h = hidden_open cs h ∙ hidden_by_area s (above c (outlines cs fs)) c (get_or fs c no_frame) i j

-- ── An area, as it is computed ──

pub no_area : (s : Size) (higher : List Layer) (f g : Rectangle) (u v : ℕ) → g ≡ f → (g.w ≤ u) ⊎ (g.h ≤ v) → false ≡ hidden_area s higher f u v
unfolding hidden_area
no_area s higher f g u v e h =
    ap (λ (b : Bool). b && (not (on_screen s (g.x +ℤ pos u) (g.y +ℤ pos v) (g.x +ℤ pos (min (u + 16) g.w)) (g.y +ℤ pos (min (v + 16) g.h)))
    || met higher (g.x +ℤ pos u) (g.y +ℤ pos v) (g.x +ℤ pos (min (u + 16) g.w)) (g.y +ℤ pos (min (v + 16) g.h))))
    (⊎_elim (λ (l : g.w ≤ u). sym (and_left _ _ (le-ltb u g.w l))) (λ (l : g.h ≤ v). sym (and_right _ _ (le-ltb v g.h l))) h)
    ∙ ap (λ g. hidden_area s higher g u v) e

-- the patch's area, with its ends as they are summed: it is hidden if it is not on the screen as a whole, and otherwise if the layers above meet it
module _ (s : Size) (higher : List Layer) (f g : Rectangle) (u v r b : ℕ) (e : g ≡ f) (fx : SFits w16 g.x) (fy : SFits w16 g.y) (narrow : f.w ≤ 320) (short : f.h ≤ 240)
    (hu : u < g.w) (hv : v < g.h) (er : r ≡ min (u + 16) g.w) (eb : b ≡ min (v + 16) g.h) where
  abbrev on : Bool
  on = on_screen s (summed g.x u) (summed g.y v) (summed g.x r) (summed g.y b)

  abbrev over : Bool
  over = met higher (summed g.x u) (summed g.y v) (summed g.x r) (summed g.y b)

  either : (not on || over) ≡ hidden_area s higher f u v
  unfolding hidden_area
  either =
      let nw = ap (λ f. f.w) e in
      let nh = ap (λ f. f.h) e in
      let left = wide_sum g.x u fx (omega arith) in
      let top = wide_sum g.y v fy (omega arith) in
      let across = wide_sum g.x r fx (omega arith) ∙ ap (λ k. g.x +ℤ pos k) er in
      let down = wide_sum g.y b fy (omega arith) ∙ ap (λ k. g.y +ℤ pos k) eb in
      (λ i. not (on_screen s (left i) (top i) (across i) (down i)) || met higher (left i) (top i) (across i) (down i))
      ∙ ap (λ (b : Bool). b && (not (on_screen s (g.x +ℤ pos u) (g.y +ℤ pos v) (g.x +ℤ pos (min (u + 16) g.w)) (g.y +ℤ pos (min (v + 16) g.h)))
      || met higher (g.x +ℤ pos u) (g.y +ℤ pos v) (g.x +ℤ pos (min (u + 16) g.w)) (g.y +ℤ pos (min (v + 16) g.h))))
      (sym (and_from _ _ (lt-ltb u g.w hu) (lt-ltb v g.h hv)))
      ∙ ap (λ g. hidden_area s higher g u v) e

  pub off_hidden : (t : Bool) → t ≡ on → t ≡ false → not t ≡ hidden_area s higher f u v
  off_hidden t q h = ap not h ∙ ap (λ t. not t || over) (sym h ∙ q) ∙ either

  pub over_hidden : (t w : Bool) → t ≡ on → t ≡ true → w ≡ over → w ≡ hidden_area s higher f u v
  over_hidden t w q h k = k ∙ ap (λ t. not t || over) (sym h ∙ q) ∙ either
