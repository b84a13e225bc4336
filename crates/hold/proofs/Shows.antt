-- A covered place of the screen shows the topmost layer, so a screen on which only such places change follows the screen rule.
use Rattle.std.proofs.Common.{◌≡◌, ℕ, ◌<◌, Bool, true, false, cond, not, ◌&&◌, ◌||◌, List, [], ◌∷◌, ℤ, pos, ◌+ℤ◌, ◌-ℤ◌, nat_abs, is_some, Some, None, Option, sym, refl, ap, ◌∙◌, ap₂, arith}
use Rattle.std.proofs.lemmas.Int.{ints}
use Rattle.std.proofs.lemmas.Bool.Decides.{nat_tests}
use Rattle.std.proofs.lemmas.Bool.{ne_eqb, false≢true, and_parts, and_from, or_left, or_right, not-true, not_from_false, eq-eqb, lt-ltb, cond-true}
use Rattle.raster.specs.Picture.{Picture, sizes, painted}
use Rattle.raster.specs.Blt.{holds, inside}
use Rattle.raster.specs.declared.size.Size.{Size}
use Rattle.raster.proofs.Paints.{same_picture}
use Rattle.paper.specs.Layers.{Layer, or_else, covers, covered, topmost, pixel_of, shown, screen_after}
use Rattle.paper.proofs.Screen.{topmost_tells, none_topmost}
use Rattle.raster.specs.declared.rectangle.Rectangle.{Rectangle}
use Rattle.plan.specs.declared.plan.Plan.{Plan}
use Rattle.slots.specs.declared.slots.Slots.{Slots}
use Rattle.plan.specs.Frames.{has, distinct}
use Rattle.plan.specs.Plans.{outline, outlines, listed, layers_in, frame_in, above, seen}
use Rattle.hold.specs.Spots.{spot_of, screen_spot, store_spot, look}
use Rattle.hold.specs.Held.{Pixels, layer_with, layers_with, held, paper_of, Fitting}
use Rattle.hold.proofs.Papers.{listed_apart, covered_with, paper_covered}

shown_higher : (l : Layer) (ls : List Layer) (x y : ℤ) → covered ls x y ≡ true → shown (l ∷ ls) x y ≡ shown ls x y
shown_higher l ls x y e = go (topmost ls x y) (sym (topmost_tells ls x y) ∙ e)
  where
    go : (o : Option Layer) → is_some o ≡ true → pixel_of (or_else o (cond (covers l x y) (Some l) None)) x y ≡ pixel_of o x y
    go (Some m) e = refl
    go None e = absurd (false≢true e)

shown_here : (l : Layer) (ls : List Layer) (x y : ℤ) → covered ls x y ≡ false → covers l x y ≡ true → shown (l ∷ ls) x y ≡ pixel_of (Some l) x y
shown_here l ls x y e k = ap₂ (λ o b. pixel_of (or_else o (cond b (Some l) None)) x y) (none_topmost ls x y e) k

only_left : (a b : Bool) → (a || b) ≡ true → b ≡ false → a ≡ true
only_left a b e n = grind (arith, nat_tests)

-- the layer's pixel at a place that it covers
pub record PixelAt (f : Rectangle) (x y : ℕ) (u v : ℕ) : Type 0 where
  pub across : u < f.w
  pub down : v < f.h
  pub column : f.x +ℤ pos u ≡ pos x
  pub row : f.y +ℤ pos v ≡ pos y

axis_at : (a : ℤ) (n x : ℕ) → holds a n (pos x) ≡ true → (nat_abs (pos x -ℤ a) < n) × (a +ℤ pos (nat_abs (pos x -ℤ a)) ≡ pos x)
axis_at a n x e = (grind (arith, ints, nat_tests), grind (arith, ints, nat_tests))

pub pixel_at : (c : ℕ) (f : Rectangle) (x y : ℕ) → covers (outline c f) (pos x) (pos y) ≡ true → PixelAt f x y (nat_abs (pos x -ℤ f.x)) (nat_abs (pos y -ℤ f.y))
pixel_at c f x y e =
    let q = and_parts (holds f.x f.w (pos x)) (holds f.y f.h (pos y)) e in
    let a = axis_at f.x f.w x q.0 in
    let b = axis_at f.y f.h y q.1 in
    record { across = a.0; down = b.0; column = a.1; row = b.1 }

module _ (depth : ℕ) (p : Plan) (px : Pixels) (x y value : ℕ) where
  -- the visible pixel at the place, if there is one, has the value
  abbrev Shows : List ℕ → Type 0
  Shows cs = (c u v : ℕ) → has c cs ≡ true → PixelAt (frame_in p c) x y u v → covered (above c (outlines cs p.frames)) (pos x) (pos y) ≡ false → px c u v ≡ value

  layers_show : (cs : List ℕ) → distinct cs ≡ true → Shows cs → covered (outlines cs p.frames) (pos x) (pos y) ≡ true → shown (layers_with depth p px cs) (pos x) (pos y) ≡ value
  layers_show [] one s e = absurd (false≢true e)
  layers_show (d ∷ ds) one s e =
      let q = and_parts (not (has d ds)) (distinct ds) one in
      go (layers_show ds q.1) (not-true _ q.0) (covered (outlines ds p.frames) (pos x) (pos y)) refl
    where
      below : has d ds ≡ false → Shows ds
      below n c u v m k free =
          s c u v (or_right _ _ m) k
          (ap (λ b. covered (cond b (outlines ds p.frames) (above c (outlines ds p.frames))) (pos x) (pos y)) (ne_eqb d c (listed_apart d c ds n m)) ∙ free)

      go : (Shows ds → covered (outlines ds p.frames) (pos x) (pos y) ≡ true → shown (layers_with depth p px ds) (pos x) (pos y) ≡ value) → has d ds ≡ false
          → (b : Bool) → covered (outlines ds p.frames) (pos x) (pos y) ≡ b → shown (layers_with depth p px (d ∷ ds)) (pos x) (pos y) ≡ value
      go ih n true c =
          shown_higher (layer_with depth p px d) (layers_with depth p px ds) (pos x) (pos y) (covered_with depth p px ds (pos x) (pos y) ∙ c) ∙ ih (below n) c
      go ih n false c =
          let f = frame_in p d in
          let k : covers (outline d f) (pos x) (pos y) ≡ true = only_left _ _ e c in
          let w = pixel_at d f x y k in
          shown_here (layer_with depth p px d) (layers_with depth p px ds) (pos x) (pos y) (covered_with depth p px ds (pos x) (pos y) ∙ c) k
          ∙ cond-true _ _ _ (and_from _ _ (lt-ltb _ _ w.across) (lt-ltb _ _ w.down))
          ∙ s d _ _ (or_left _ _ (eq-eqb d d refl)) w (ap (λ b. covered (cond b (outlines ds p.frames) (above d (outlines ds p.frames))) (pos x) (pos y)) (eq-eqb d d refl) ∙ c)

module _ (screen store : Picture) (p : Plan) (t : Slots) (f : Fitting screen store p t) where
  -- a covered place of the screen has the topmost layer's pixel, since that is visible
  pub paper_shows : (x y : ℕ) → inside (sizes screen) (pos x) (pos y) ≡ true → covered (layers_in p) (pos x) (pos y) ≡ true → shown (paper_of screen store p t).layers (pos x) (pos y) ≡ screen.at x y
  unfolding paper_of spot_of
  paper_shows x y on e =
      layers_show screen.depth p (held screen store p t) x y (screen.at x y) (listed p) p.once
      (λ c u v m k free.
      let s : seen p c u v ≡ true =
      ap₂ (λ a b. inside p.screen a b && not (covered (above c (layers_in p)) a b)) k.column k.row
      ∙ and_from _ _ (ap (λ (z : Size). inside z (pos x) (pos y)) f.size ∙ on) (not_from_false _ free) in
      ap (λ b. look screen store (cond b (screen_spot p c u v) (store_spot store.width t c u v))) s ∙ ap₂ (λ a b. screen.at (nat_abs a) (nat_abs b)) k.column k.row)
      e

one_place : (on before after cov : Bool) (new shows old : ℕ) → before ≡ cov → after ≡ cov → (on ≡ true → cov ≡ true → shows ≡ new) → ((on && cov) ≡ false → new ≡ old)
    → new ≡ cond (on && (before || after)) shows old
one_place on before after cov new shows old eb ea top bare = go on cov top bare ∙ ap₂ (λ b a. cond (on && (b || a)) shows old) (sym eb) (sym ea)
  where
    go : (on cov : Bool) → (on ≡ true → cov ≡ true → shows ≡ new) → ((on && cov) ≡ false → new ≡ old) → new ≡ cond (on && (cov || cov)) shows old
    go true true top bare = sym (top refl refl)
    go true false top bare = bare refl
    go false cov top bare = bare refl

-- A screen on which only covered places changed follows the screen rule.
pub screen_drawn : (screen store screen' store' : Picture) (p : Plan) (t : Slots) → Fitting screen' store' p t → sizes screen' ≡ sizes screen
    → ((x y : ℕ) → (inside (sizes screen) (pos x) (pos y) && covered (layers_in p) (pos x) (pos y)) ≡ false → screen'.at x y ≡ screen.at x y)
    → screen' ≡ screen_after screen (paper_of screen store p t) (paper_of screen' store' p t)
unfolding screen_after painted
screen_drawn screen store screen' store' p t f e bare =
    same_picture screen' (screen_after screen (paper_of screen store p t) (paper_of screen' store' p t))
    (ap (λ (s : Size). s.width) e) (ap (λ (s : Size). s.height) e) (ap (λ (s : Size). s.depth) e)
    (λ x y.
    one_place (inside (sizes screen) (pos x) (pos y)) (covered (paper_of screen store p t).layers (pos x) (pos y)) (covered (paper_of screen' store' p t).layers (pos x) (pos y))
    (covered (layers_in p) (pos x) (pos y)) (screen'.at x y) (shown (paper_of screen' store' p t).layers (pos x) (pos y)) (screen.at x y)
    (paper_covered screen store p t (pos x) (pos y)) (paper_covered screen' store' p t (pos x) (pos y))
    (λ on cov. paper_shows screen' store' p t f x y (ap (λ (s : Size). inside s (pos x) (pos y)) e ∙ on) cov)
    (bare x y))
