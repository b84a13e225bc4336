-- What an arrangement becomes when its layers are put in another order, moved or opened.
use Rattle.std.proofs.Common.{◌≡◌, ℕ, zero, suc, ◌+◌, ◌<◌, ◌≤◌, Bool, true, false, not, ◌&&◌, ◌||◌, eqb, ltb, List, [], ◌∷◌, ◌++◌, length, get_or, take, set, ℤ, sym, refl, ap, ◌∙◌, subst, ap₂, ⊎_elim, arith}
use Rattle.std.proofs.lemmas.List.{length-take-le, take_more_set, get_or-set_same, get_or-set_other, get_or_past, get_or-take, length-take}
use Rattle.std.proofs.Math.Bool.{or-false}
use Rattle.std.proofs.lemmas.Bool.{cases_eq, cases_lt, and_from, and_parts, ltb-true, not-true}
use Rattle.paper.specs.Layers.{Layer, without, only, alter, at_corner}
use Rattle.raster.specs.declared.rectangle.Rectangle.{Rectangle}
use Rattle.plan.specs.declared.plan.Plan.{Plan}
use Rattle.plan.specs.Frames.{no_frame, has}
use Rattle.plan.specs.Plans.{listed, layers_in, frame_in, outline, outlines}
use Rattle.plan.specs.Arranged.{Arranged, cornered, can_open}
use Rattle.plan.proofs.Orders.{has_low, others_have, others_all, closed_none, raised_none, lowered_none, alter_none, room_for, outlines_moved, outlines_opened, has-++}

pub low_set : (n d : ℕ) (xs : List ℕ) → n < length xs → d < 8 → ((k : ℕ) → get_or xs k 0 < 8) → (k : ℕ) → get_or (set xs n d) k 0 < 8
low_set n d xs h l low k =
    ⊎_elim
    (λ (e : k ≡ n). let s = ap (λ i. get_or (set xs n d) i 0) e in omega (arith, get_or-set_same xs n d 0 h))
    (λ (ne : k ≡ n → ⊥). omega (arith, get_or-set_other xs n k d 0 ne, low k))
    (cases_eq k n)

-- ── The arrangement ──

module _ (p r : Plan) (cs : List ℕ) (after : List Layer) (opens : ℕ → Bool) (es : r.screen ≡ p.screen) (ef : r.frames ≡ p.frames) where
  pub arranged : listed r ≡ cs → outlines cs p.frames ≡ after → ((d : ℕ) → has d cs ≡ opens d) → Arranged p r after opens
  arranged el e h = record { screen = es; layers = ap₂ outlines el ef ∙ e; clients = λ d. ap (has d) el ∙ h d }

-- ── A client that is open, and one that is not ──

pub listed_low : (p : Plan) (k : ℕ) → get_or (listed p) k 0 < 8
listed_low p k =
    ⊎_elim (λ (h : k < p.count). omega (arith, get_or-take p.count p.order k 0 h, p.low k))
    (λ (h : p.count ≤ k). omega (arith, get_or_past (listed p) k 0 (omega (arith, length-take p.count p.order))))
    (cases_lt k p.count)

pub open_low : (p : Plan) (c : ℕ) → has c (listed p) ≡ true → c < 8
open_low p c h = has_low 8 c (listed p) (listed_low p) h

module _ (p : Plan) (c : ℕ) (h : has c (listed p) ≡ false) where
  pub closed_same : Arranged p p (without c (layers_in p)) (λ d. has d (listed p) && not (eqb c d))
  closed_same = record {
    screen = refl;
    layers = closed_none c (listed p) p.frames h;
    clients = λ d. ap (has d) (sym (others_all c (listed p) h)) ∙ others_have c d (listed p);
  }

  pub raised_same : Arranged p p (without c (layers_in p) ++ only c (layers_in p)) (λ d. has d (listed p))
  raised_same = record { screen = refl; layers = raised_none c (listed p) p.frames p.once h; clients = λ d. refl }

  pub lowered_same : Arranged p p (only c (layers_in p) ++ without c (layers_in p)) (λ d. has d (listed p))
  lowered_same = record { screen = refl; layers = lowered_none c (listed p) p.frames p.once h; clients = λ d. refl }

  pub moved_same : (x y : ℤ) → Arranged p p (alter c (at_corner x y) (layers_in p)) (λ d. has d (listed p))
  moved_same x y = record { screen = refl; layers = alter_none c (at_corner x y) (listed p) p.frames h; clients = λ d. refl }

-- ── The frames after a move, and after an opening ──

frames_where : (P : Rectangle → Type 0) (fs : List Rectangle) (c : ℕ) (g : Rectangle) → ((d : ℕ) → P (get_or fs d no_frame)) → c < length fs → P g → (d : ℕ) → P (get_or (set fs c g) d no_frame)
frames_where P fs c g all l own d =
    ⊎_elim
    (λ (e : d ≡ c). subst P (sym (ap (λ i. get_or (set fs c g) i no_frame) e ∙ get_or-set_same fs c g no_frame l)) own)
    (λ (ne : d ≡ c → ⊥). subst P (sym (get_or-set_other fs c d g no_frame ne)) (all d))
    (cases_eq d c)

module _ (p : Plan) (c : ℕ) where
  pub set_narrow : (g : Rectangle) → c < 8 → g.w ≤ 320 → (d : ℕ) → (get_or (set p.frames c g) d no_frame).w ≤ 320
  set_narrow g l h = frames_where (λ f. f.w ≤ 320) p.frames c g p.narrow (let e = p.long in omega arith) h

  pub set_short : (g : Rectangle) → c < 8 → g.h ≤ 240 → (d : ℕ) → (get_or (set p.frames c g) d no_frame).h ≤ 240
  set_short g l h = frames_where (λ f. f.h ≤ 240) p.frames c g p.short (let e = p.long in omega arith) h

  pub set_own : (g : Rectangle) → c < 8 → get_or (set p.frames c g) c no_frame ≡ g
  set_own g l = get_or-set_same p.frames c g no_frame (let e = p.long in omega arith)

  pub moved_layers : (x y : ℤ) → has c (listed p) ≡ true → outlines (listed p) (set p.frames c (cornered x y (frame_in p c))) ≡ alter c (at_corner x y) (layers_in p)
  moved_layers x y h = outlines_moved c x y (listed p) p.frames p.once (let l = open_low p c h in let e = p.long in omega arith)

  pub opened_layers : (g : Rectangle) → c < 8 → has c (listed p) ≡ false → outlines (listed p ++ (c ∷ [])) (set p.frames c g) ≡ layers_in p ++ (outline c g ∷ [])
  opened_layers g l h = outlines_opened c (listed p) p.frames g h (let e = p.long in omega arith)

-- ── A layer that can be opened ──

pub record Opens (p : Plan) (c : ℕ) (f : Rectangle) : Type 0 where
  pub client : c < 8
  pub none : has c (listed p) ≡ false
  pub narrow : f.w ≤ 320
  pub short : f.h ≤ 240

pub opens : (p : Plan) (c : ℕ) (f : Rectangle) → can_open p c f ≡ true → Opens p c f
opens p c f h =
    let a = and_parts (ltb c 8) (not (has c (listed p)) && (ltb f.w 321 && ltb f.h 241)) h in
    let b = and_parts (not (has c (listed p))) (ltb f.w 321 && ltb f.h 241) a.1 in
    let d = and_parts (ltb f.w 321) (ltb f.h 241) b.1 in
    record {
      client = ltb-true c 8 a.0;
      none = not-true _ b.0;
      narrow = omega (arith, ltb-true f.w 321 d.0);
      short = omega (arith, ltb-true f.h 241 d.1);
    }

-- it finds room, and comes after the others
module _ (p : Plan) (c : ℕ) (f : Rectangle) (k : length p.order ≡ 8) (o : Opens p c f) where
  pub open_place : p.count < 8
  open_place =
      let few = room_for 8 (c ∷ listed p) (and_from _ _ (ap not o.none) p.once) (λ d e. has_low 8 d (c ∷ listed p) (low (listed p) (listed_low p)) e) in
      omega (arith, length-take-le p.count p.order (omega (arith, p.few)))
    where
      low : (cs : List ℕ) → ((k : ℕ) → get_or cs k 0 < 8) → (k : ℕ) → get_or (c ∷ cs) k 0 < 8
      low cs l zero = o.client
      low cs l (suc k) = l k

  pub open_order : take (p.count + 1) (set p.order p.count c) ≡ listed p ++ (c ∷ [])
  open_order = let r = open_place in take_more_set p.order p.count c (omega arith)

pub has_last : (c d : ℕ) (cs : List ℕ) → has d (cs ++ (c ∷ [])) ≡ (has d cs || eqb c d)
has_last c d cs = has-++ d cs (c ∷ []) ∙ ap (λ b. has d cs || b) (or-false (eqb c d))
