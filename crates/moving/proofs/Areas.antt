-- The places of an area, one after the other.
use Rattle.std.proofs.Common.{◌≡◌, ℕ, ◌+◌, ◌*◌, ◌/◌, ◌<◌, ◌≤◌, Bool, true, false, cond, not, ◌&&◌, ◌||◌, ltb, ℤ, pos, Some, sym, refl, ap, ◌∙◌, subst, ap₂, arith}
use Rattle.std.proofs.lemmas.Bool.Decides.{nat_tests}
use Rattle.std.proofs.lemmas.Int.{ints}
use Rattle.std.proofs.lemmas.Bool.{and_parts}
use Rattle.raster.specs.Picture.{Picture, sizes}
use Rattle.raster.specs.Blt.{holds, in_rectangle, inside}
use Rattle.raster.specs.Blits.{between, spans}
use Rattle.raster.specs.Clip.{hits, Clipped}
use Rattle.raster.specs.declared.size.Size.{Size}
use Rattle.raster.specs.declared.span.Span.{Span}
use Rattle.raster.proofs.Accepts.{place_within}
use Rattle.paper.specs.Slots.{slots_of}
use Rattle.raster.specs.declared.rectangle.Rectangle.{Rectangle}
use Rattle.plan.specs.declared.plan.Plan.{Plan}
use Rattle.slots.specs.declared.slots.Slots.{Slots}
use Rattle.moving.specs.declared.walk.Places.{Places}
use Rattle.moving.specs.Phases.{Fitting, on_screen, ahead, just, Gives, Stowed, repainted}
use Rattle.moving.proofs.Stows.{is_just, stowed_as, stowed_join, repainted_as, repainted_join}

-- ── What a clip leaves of an area ──

own_axis : (d : ℤ) (n size x : ℕ) → hits d d n size size x ≡ (holds d n (pos x) && holds (pos 0) size (pos x))
unfolding hits
own_axis d n size x = grind (arith, ints, nat_tests)

pub and_swap : (a b c d : Bool) → ((a && b) && (c && d)) ≡ ((a && c) && (b && d))
and_swap a b c d = grind (arith, nat_tests)

clipped_area : (size : Size) (f : Rectangle) (columns rows : Span) → Clipped f.x f.x f.w size.width size.width columns → Clipped f.y f.y f.h size.height size.height rows
    → (a b : ℕ) → on_screen size f a b ≡ (spans columns a && spans rows b)
clipped_area size f columns rows cc cr a b =
    and_swap (holds f.x f.w (pos a)) (holds f.y f.h (pos b)) (holds (pos 0) size.width (pos a)) (holds (pos 0) size.height (pos b))
    ∙ ap₂ ◌&&◌ (sym (own_axis f.x f.w size.width a) ∙ cc.hit a) (sym (own_axis f.y f.h size.height b) ∙ cr.hit b)

-- A walk before its first step: all of the area is ahead.
pub walk_whole : (size : Size) (f : Rectangle) (zx zy : ℤ) (columns rows : Span) → zx ≡ f.x → zy ≡ f.y → Clipped zx zx f.w size.width size.width columns → Clipped zy zy f.h size.height size.height rows
    → (a b : ℕ) → ahead (record { left = columns.first; right = columns.first + columns.len; bottom = rows.first + rows.len; x = columns.first; y = rows.first }) a b ≡ on_screen size f a b
walk_whole size f zx zy columns rows ex ey hc hr a b =
    two_axes columns.first columns.len rows.first rows.len a b
    ∙ sym (clipped_area size f columns rows (subst (λ (z : ℤ). Clipped z z f.w size.width size.width columns) ex hc) (subst (λ (z : ℤ). Clipped z z f.h size.height size.height rows) ey hr) a b)
  where
    two_axes : (c n r m a b : ℕ) → ahead (record { left = c; right = c + n; bottom = r + m; x = c; y = r }) a b ≡ (between c n a && between r m b)
    two_axes c n r m a b = grind (arith, nat_tests)

pub walk_starts : (w w' : Places) (z z' : Size) (f : Rectangle) → w ≡ w' → ((a b : ℕ) → ahead w' a b ≡ on_screen z f a b) → z ≡ z' → (a b : ℕ) → ahead w a b ≡ on_screen z' f a b
walk_starts w w' z z' f e h ez a b = ap (λ v. ahead v a b) e ∙ h a b ∙ ap (λ (y : Size). on_screen y f a b) ez

-- ── The places that a walk has passed ──

abbrev pub passed : Size → Rectangle → Places → ℕ → ℕ → Bool
passed size f w a b = on_screen size f a b && not (ahead w a b)

-- a place on the screen
pub place_below : (size : Size) (f : Rectangle) (x y : ℕ) → on_screen size f x y ≡ true → (x < size.width) × (y < size.height)
place_below size f x y e = place_within size (pos x) (pos y) (and_parts (in_rectangle f.x f.y f.w f.h (pos x) (pos y)) (inside size (pos x) (pos y)) e).1

module _ (size : Size) (f : Rectangle) (w : Places) where
  pub passed_none : ((a b : ℕ) → ahead w a b ≡ on_screen size f a b) → (a b : ℕ) → passed size f w a b ≡ false
  passed_none h a b = let e = h a b in grind (arith, nat_tests, e)

  pub passed_all : ((a b : ℕ) → ahead w a b ≡ false) → (a b : ℕ) → on_screen size f a b ≡ passed size f w a b
  passed_all h a b = let e = h a b in grind (arith, nat_tests, e)

  module _ (w' : Places) (x y : ℕ) (within : (a b : ℕ) → ahead w a b ≡ true → on_screen size f a b ≡ true) (step : Gives w (Some (x, y)) w') where
    pub passed_more : (a b : ℕ) → passed size f w' a b ≡ (passed size f w a b || just x y a b)
    passed_more a b =
        ap (λ c. on_screen size f a b && not c) (step.1 a b)
        ∙ go (on_screen size f a b) (ahead w a b) (just x y a b) (within a b) (λ e. let q = is_just x y a b e in ap₂ (ahead w) q.0 q.1 ∙ step.0)
      where
        go : (o h j : Bool) → (h ≡ true → o ≡ true) → (j ≡ true → h ≡ true) → (o && not (h && not j)) ≡ ((o && not h) || j)
        go o h j k l = grind (arith, nat_tests)

    pub within_more : (a b : ℕ) → ahead w' a b ≡ true → on_screen size f a b ≡ true
    within_more a b e = within a b (and_parts (ahead w a b) (not (just x y a b)) (sym (step.1 a b) ∙ e)).0

-- ── One more turn of stowing ──

pub fitting_same : (s s' m m' : Picture) (p : Plan) (t : Slots) → sizes s' ≡ sizes s → sizes m' ≡ sizes m → Fitting s m p t → Fitting s' m' p t
fitting_same s s' m m' p t es em f = record { sized = f.sized ∙ sym es; places = f.places ∙ sym (ap₂ (λ (z y : Size). slots_of z y.depth) em es) }

pub stow_more : (s m m' m'' : Picture) (p : Plan) (t : Slots) (f g h : ℕ → ℕ → Bool) → sizes m' ≡ sizes m → ((x y : ℕ) → h x y ≡ (f x y || g x y))
    → (Fitting s m p t → Stowed s p t f m m') → (Fitting s m' p t → Stowed s p t g m' m'') → Fitting s m p t → Stowed s p t h m m''
stow_more s m m' m'' p t f g h e eh a b fit =
    stowed_as s p t (λ x y. f x y || g x y) h m m'' eh (stowed_join s p t f g m m' m'' (a fit) (b (fitting_same s s m m' p t refl e fit)))

pub repaint_more : (s s' s'' m : Picture) (p : Plan) (t : Slots) (f g h : ℕ → ℕ → Bool) → sizes s' ≡ sizes s → ((x y : ℕ) → h x y ≡ (f x y || g x y))
    → (Fitting s m p t → s' ≡ repainted m p t f s) → (Fitting s' m p t → s'' ≡ repainted m p t g s') → Fitting s m p t → s'' ≡ repainted m p t h s
repaint_more s s' s'' m p t f g h e eh a b fit =
    b (fitting_same s s' m m p t e refl fit) ∙ ap (repainted m p t g) (a fit) ∙ repainted_join m p t f g s ∙ repainted_as m p t (λ x y. f x y || g x y) h s (λ x y. sym (eh x y))

-- A table has no more slots than the store has squares.
pub fitting_few : (s m : Picture) (p : Plan) (t : Slots) → Fitting s m p t → t.places ≤ (m.width / 16) * (m.height / 16)
fitting_few s m p t f = subst (λ (n : ℕ). n ≤ (m.width / 16) * (m.height / 16)) (sym f.places) (go (ltb m.depth s.depth) ((m.width / 16) * (m.height / 16)))
  where
    go : (b : Bool) (n : ℕ) → cond b 0 n ≤ n
    go b n = grind (arith, nat_tests)
