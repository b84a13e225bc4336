-- A value put at the spot of a pixel: that pixel has it, and every other of an open layer stays.
use Rattle.std.proofs.Common.{◌≡◌, ℕ, ◌%◌, ◌^◌, ◌<◌, Bool, true, false, cond, ◌&&◌, eqb, sym, refl, ap, ◌∙◌, ap₂, mod-eq_of_lt}
use Rattle.std.proofs.lemmas.Bool.{false_from_ne_true, true≢false, and_parts, and_from, eqb-true, eq-eqb, cond-true, cond-false}
use Rattle.raster.specs.Picture.{Picture, sizes, painted, with_pixel}
use Rattle.raster.specs.declared.size.Size.{Size}
use Rattle.raster.proofs.Paints.{painted_sizes, painted_at}
use Rattle.paper.specs.Slots.{slots_of}
use Rattle.plan.specs.declared.plan.Plan.{Plan}
use Rattle.slots.specs.declared.slots.Slots.{Slots}
use Rattle.hold.specs.declared.spot.Spot.{Spot}
use Rattle.hold.specs.declared.spot.Spot.TheVariants.{Screen, Store}
use Rattle.hold.specs.Spots.{spot_of, look, screen_with, store_with}
use Rattle.hold.specs.Held.{held, with_one, Holds, Fitting, OwnPixel}
use Rattle.hold.proofs.Places.{spots_apart}

pub screen_with_sizes : (screen : Picture) (at : Spot) (value : ℕ) → sizes (screen_with screen at value) ≡ sizes screen
screen_with_sizes screen (Screen x y) value = painted_sizes screen _ _
screen_with_sizes screen (Store x y) value = refl

pub store_with_sizes : (store : Picture) (at : Spot) (value : ℕ) → sizes (store_with store at value) ≡ sizes store
store_with_sizes store (Screen x y) value = refl
store_with_sizes store (Store x y) value = painted_sizes store _ _

-- To suit an arrangement and a table depends on the sizes alone.
pub fitting_same : (screen store screen' store' : Picture) (p : Plan) (t : Slots) → sizes screen' ≡ sizes screen → sizes store' ≡ sizes store → Fitting screen store p t → Fitting screen' store' p t
fitting_same screen store screen' store' p t e e' f = record {
  size = f.size ∙ sym e;
  places = f.places ∙ ap₂ (λ (s z : Size). slots_of s z.depth) (sym e') (sym e);
  fits = f.fits;
}

-- a picture with a value at (x, y), there and elsewhere

here : (p : Picture) (x y value : ℕ) → (with_pixel p x y value).at x y ≡ value
here p x y value = painted_at p _ _ x y ∙ cond-true _ _ _ (and_from _ _ (eq-eqb x x refl) (eq-eqb y y refl))

pub elsewhere : (p : Picture) (x y value a b : ℕ) → ((a ≡ x) × (b ≡ y) → ⊥) → (with_pixel p x y value).at a b ≡ p.at a b
elsewhere p x y value a b ne =
    painted_at p _ _ a b
    ∙ cond-false _ _ _ (false_from_ne_true _ (λ t. let q = and_parts (eqb a x) (eqb b y) t in ne (eqb-true a x q.0, eqb-true b y q.1)))

module _ (screen store : Picture) (value : ℕ) where
  pub look_here : value < 2 ^ screen.depth → (at : Spot) → look (screen_with screen at value) (store_with store at value) at ≡ value
  look_here small (Screen x y) = here screen x y value
  look_here small (Store x y) = ap (λ n. n % 2 ^ screen.depth) (here store x y value) ∙ mod-eq_of_lt small

  pub look_others : (at r : Spot) → (r ≡ at → ⊥) → look (screen_with screen at value) (store_with store at value) r ≡ look screen store r
  unfolding painted
  look_others (Screen x y) (Screen a b) ne = elsewhere screen x y value a b (λ q. ne (ap₂ Screen q.0 q.1))
  look_others (Screen x y) (Store a b) ne = refl
  look_others (Store x y) (Screen a b) ne = refl
  look_others (Store x y) (Store a b) ne = ap (λ n. n % 2 ^ screen.depth) (elsewhere store x y value a b (λ q. ne (ap₂ Store q.0 q.1)))

  module _ (p : Plan) (t : Slots) (f : Fitting screen store p t) (small : value < 2 ^ screen.depth) (c u v : ℕ) (o : OwnPixel p c u v) where
    abbrev at : Spot
    at = spot_of store.width p t c u v

    put_look : (d a b : ℕ) → OwnPixel p d a b → (same : Bool) → (eqb d c && (eqb a u && eqb b v)) ≡ same
        → look (screen_with screen at value) (store_with store at value) (spot_of store.width p t d a b) ≡ cond same value (held screen store p t d a b)
    put_look d a b o' true e =
        let q = and_parts (eqb d c) (eqb a u && eqb b v) e in
        let r = and_parts (eqb a u) (eqb b v) q.1 in
        ap (look (screen_with screen at value) (store_with store at value))
        (λ i. spot_of store.width p t (eqb-true d c q.0 i) (eqb-true a u r.0 i) (eqb-true b v r.1 i))
        ∙ look_here small at
    put_look d a b o' false e =
        look_others at (spot_of store.width p t d a b)
        (λ same.
        let q = spots_apart store.width p t f.fits d a b c u v o' o same in
        true≢false (sym (and_from _ _ (eq-eqb d c q.0) (and_from _ _ (eq-eqb a u q.1) (eq-eqb b v q.2))) ∙ e))

    -- After it screen and store hold the pixels as before but for that one.
    pub held_put : Holds (screen_with screen at value) (store_with store at value) p t (with_one (held screen store p t) c u v value)
    held_put d h a b ha hb =
        ap (λ (s : Size). look (screen_with screen at value) (store_with store at value) (spot_of s.width p t d a b)) (store_with_sizes store at value)
        ∙ put_look d a b (record { opened = h; across = ha; down = hb }) (eqb d c && (eqb a u && eqb b v)) refl
