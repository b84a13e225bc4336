-- Drawings on one layer: one after another, and of a single pixel.
use Rattle.std.proofs.Common.{◌≡◌, ℕ, ◌^◌, ◌<◌, Bool, true, false, cond, ◌&&◌, eqb, ltb, pos, Some, Option, sym, refl, ap, ◌∙◌, subst, ap₂, arith, pow_mono}
use Rattle.std.proofs.lemmas.Bool.{both_ways, and_parts, and_from, or_left, eqb-true, eq-eqb, lt-ltb}
use Rattle.raster.specs.Picture.{Picture, sizes, painted, with_pixel}
use Rattle.raster.specs.Blt.{inside}
use Rattle.raster.specs.declared.size.Size.{Size}
use Rattle.raster.proofs.Paints.{same_picture}
use Rattle.paper.specs.Layers.{covered, screen_after, pane}
use Rattle.paper.specs.Desk.{repaint}
use Rattle.paper.proofs.Screen.{screen_joins}
use Rattle.paper.proofs.Pane.{repaint_own, repaint_again, repainted_pane}
use Rattle.plan.specs.declared.plan.Plan.{Plan}
use Rattle.slots.specs.declared.slots.Slots.{Slots}
use Rattle.plan.specs.Frames.{has}
use Rattle.plan.specs.Plans.{listed, layers_in, frame_in}
use Rattle.hold.specs.declared.spot.Spot.{Spot}
use Rattle.hold.specs.declared.spot.Spot.TheVariants.{Screen, Store}
use Rattle.hold.specs.Spots.{spot_of, Settable, screen_with, store_with}
use Rattle.hold.specs.Held.{with_one, layer_with, held, paper_of, layer_held, Holds, Fitting, OwnPixel, Drawn, PixelPut}
use Rattle.hold.proofs.Places.{seen_place, seen_covers, covered_listed, spot_by, Within, spot_within}
use Rattle.hold.proofs.Puts.{screen_with_sizes, store_with_sizes, fitting_same, elsewhere, held_put}
use Rattle.hold.proofs.Papers.{held_pane, paper_pixels, paper_covered, held_repaint}
use Rattle.hold.proofs.Shows.{screen_drawn}

-- ── Drawings on one layer ──

module _ (p : Plan) (t : Slots) (c : ℕ) (opened : has c (listed p) ≡ true) where
  -- nothing drawn
  pub drawn_none : (screen store : Picture) → Fitting screen store p t → Drawn p t screen store screen store c (layer_held screen store p t c)
  drawn_none screen store f = record {
    screen_size = refl;
    store_size = refl;
    paper = sym (repaint_own c (paper_of screen store p t));
    shows = screen_drawn screen store screen store p t f refl (λ x y _. refl);
  }

  -- one drawing after another
  pub drawn_joins : (s0 t0 s1 t1 s2 t2 q r : Picture) → Drawn p t s0 t0 s1 t1 c q → Drawn p t s1 t1 s2 t2 c r → Drawn p t s0 t0 s2 t2 c r
  drawn_joins s0 t0 s1 t1 s2 t2 q r d e = record {
    screen_size = e.screen_size ∙ d.screen_size;
    store_size = e.store_size ∙ d.store_size;
    paper = e.paper ∙ ap (repaint c r) d.paper ∙ repaint_again c q r (paper_of s0 t0 p t);
    shows =
        e.shows ∙ ap (λ (s : Picture). screen_after s (paper_of s1 t1 p t) (paper_of s2 t2 p t)) d.shows
        ∙ screen_joins s0 (paper_of s0 t0 p t) (paper_of s1 t1 p t) (paper_of s2 t2 p t)
        (λ x y k. or_left _ _ (paper_covered s0 t0 p t x y ∙ sym (paper_covered s1 t1 p t x y) ∙ k));
  }

  module _ (screen store screen' store' q : Picture) (d : Drawn p t screen store screen' store' c q) where
    -- the layer is what was drawn
    pub drawn_pane : layer_held screen' store' p t c ≡ q
    drawn_pane = ap (pane c) d.paper ∙ repainted_pane c q _ (paper_of screen store p t) (paper_pixels screen store p t c opened)

    pub drawn_fits : Fitting screen store p t → Fitting screen' store' p t
    drawn_fits f = fitting_same screen store screen' store' p t d.screen_size d.store_size f

-- ── A value put at a pixel ──

-- a pixel set before or after the picture is cut to its size
pixel_either : (value was : ℕ) (same within : Bool) → (same ≡ true → within ≡ true) → cond same value (cond within was 0) ≡ cond within (cond same value was) 0
pixel_either value was true within e = rw (e refl) refl
pixel_either value was false within e = refl

module _ (screen store : Picture) (p : Plan) (t : Slots) (f : Fitting screen store p t) (value : ℕ) (c u v : ℕ) (o : OwnPixel p c u v) where
  abbrev at : Spot
  at = spot_of store.width p t c u v

  -- the client's picture with the value
  put_picture : with_pixel (layer_held screen store p t c) u v value ≡ (layer_with screen.depth p (with_one (held screen store p t) c u v value) c).pixels
  unfolding painted
  put_picture =
      ap (λ (q : Picture). with_pixel q u v value) (held_pane screen store p t c o.opened)
      ∙ same_picture _ _ refl refl refl
      (λ a b.
      let within : Bool = ltb a (frame_in p c).w && ltb b (frame_in p c).h in
      pixel_either value (held screen store p t c a b) (eqb a u && eqb b v) within
      (λ e.
      let q = and_parts (eqb a u) (eqb b v) e in
      and_from _ _ (lt-ltb a _ (omega (arith, eqb-true a u q.0, o.across))) (lt-ltb b _ (omega (arith, eqb-true b v q.1, o.down))))
      ∙ ap (λ z. cond within (cond (z && (eqb a u && eqb b v)) value (held screen store p t c a b)) 0) (sym (eq-eqb c c refl)))

  -- a visible pixel's place is covered, so that no other place of the screen changes
  put_bare : (x y : ℕ) → (inside (sizes screen) (pos x) (pos y) && covered (layers_in p) (pos x) (pos y)) ≡ false → (screen_with screen at value).at x y ≡ screen.at x y
  put_bare x y e =
      spot_by store.width p t c u v (λ s. (screen_with screen s value).at x y ≡ screen.at x y)
      (λ on.
      let s = seen_place p c u v on in
      elsewhere screen _ _ value x y
      (λ q.
      let k = covered_listed p.frames c _ _ (listed p) o.opened (seen_covers p c u v _ _ o s) in
      both_ways _ e
      (and_from _ _ (ap (λ (z : Size). inside z (pos x) (pos y)) (sym f.size) ∙ ap₂ (λ a b. inside p.screen (pos a) (pos b)) q.0 q.1 ∙ s.within)
      (ap₂ (λ a b. covered (layers_in p) (pos a) (pos b)) q.0 q.1 ∙ k))))
      (λ _. refl)

  -- A value put at a pixel's spot draws that pixel.
  pub put_drawn : value < 2 ^ screen.depth → Drawn p t screen store (screen_with screen at value) (store_with store at value) c (with_pixel (layer_held screen store p t c) u v value)
  put_drawn small = record {
    screen_size = screen_with_sizes screen at value;
    store_size = store_with_sizes store at value;
    paper =
        held_repaint screen store (screen_with screen at value) (store_with store at value) p t (with_one (held screen store p t) c u v value) c
        (screen_with_sizes screen at value) (store_with_sizes store at value) (held_put screen store value p t f small c u v o)
        (λ d m n a b ha hb. ap (λ z. cond (z && (eqb a u && eqb b v)) value (held screen store p t d a b)) n)
        ∙ ap (λ (q : Picture). repaint c q (paper_of screen store p t)) (sym put_picture);
    shows =
        screen_drawn screen store (screen_with screen at value) (store_with store at value) p t
        (fitting_same screen store _ _ p t (screen_with_sizes screen at value) (store_with_sizes store at value) f) (screen_with_sizes screen at value) put_bare;
  }

pub pixel_put : (screen store screen' store' : Picture) (p : Plan) (t : Slots) → Fitting screen store p t → (c u v value : ℕ) → OwnPixel p c u v → value < 2 ^ screen.depth
    → screen' ≡ screen_with screen (spot_of store.width p t c u v) value → store' ≡ store_with store (spot_of store.width p t c u v) value
    → PixelPut p t screen store screen' store' c u v value
pixel_put screen store screen' store' p t f c u v value o small es et =
    let at = spot_of store.width p t c u v in
    let s1 = screen_with screen at value in
    let t1 = store_with store at value in
    record {
      on_screen = es;
      in_store = et;
      fitting = fitting_same screen store screen' store' p t (ap sizes es ∙ screen_with_sizes screen at value) (ap sizes et ∙ store_with_sizes store at value) f;
      pixels =
          subst (λ (s : Picture). Holds s store' p t (with_one (held screen store p t) c u v value)) (sym es)
          (subst (λ (m : Picture). Holds s1 m p t (with_one (held screen store p t) c u v value)) (sym et) (held_put screen store value p t f small c u v o));
      drawn =
          subst (λ (s : Picture). Drawn p t screen store s store' c (with_pixel (layer_held screen store p t c) u v value)) (sym es)
          (subst (λ (m : Picture). Drawn p t screen store s1 m c (with_pixel (layer_held screen store p t c) u v value)) (sym et) (put_drawn screen store p t f value c u v o small));
    }

-- The spot that was found, set on the screen or in the store.
module _ (screen store : Picture) (p : Plan) (t : Slots) (f : Fitting screen store p t) (c u v value : ℕ) (o : OwnPixel p c u v) (small : value < 2 ^ screen.depth)
    (width : ℕ) (w : store.width ≡ width) (x y : ℕ) where
  at_spot : (s : Spot) → ◌≡◌ {A = Option Spot} (Some s) (Some (spot_of width p t c u v)) → s ≡ spot_of store.width p t c u v
  at_spot s e = let q : s ≡ spot_of width p t c u v = cc in q ∙ ap (λ n. spot_of n p t c u v) (sym w)

  pub put_on_screen : (screen' : Picture) → ◌≡◌ {A = Option Spot} (Some (Screen x y)) (Some (spot_of width p t c u v)) → (Settable screen x y value → screen' ≡ with_pixel screen x y value)
      → PixelPut p t screen store screen' store c u v value
  put_on_screen screen' e set =
      let at = at_spot (Screen x y) e in
      let q = subst (Within screen store) (sym at) (spot_within screen store p t f c u v o) in
      pixel_put screen store screen' store p t f c u v value o small
      (set (record { across = q.0; down = q.1; small = small }) ∙ ap (λ s. screen_with screen s value) at) (ap (λ s. store_with store s value) at)

  pub put_in_store : (store' : Picture) → ◌≡◌ {A = Option Spot} (Some (Store x y)) (Some (spot_of width p t c u v)) → (Settable store x y value → store' ≡ with_pixel store x y value)
      → PixelPut p t screen store screen store' c u v value
  put_in_store store' e set =
      let at = at_spot (Store x y) e in
      let q = subst (Within screen store) (sym at) (spot_within screen store p t f c u v o) in
      pixel_put screen store screen store' p t f c u v value o small (ap (λ s. screen_with screen s value) at)
      (set (record { across = q.0; down = q.1; small = omega (arith, pow_mono q.2) }) ∙ ap (λ s. store_with store s value) at)
