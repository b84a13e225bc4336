-- A pane is a bitmap's picture.
-- Lemmas: proved, not to be believed. They stand here since the laws in the impl of Bitmap cite them.
use Rattle.std.specs.Prelude.{◌≡◌, ℕ, ◌^◌, ◌<◌, ◌≤◌, true, false, ◌&&◌, ◌⊎◌, nat_lt, refl}
use Rattle.std.proofs.Common.{sym, subst, ⊎_elim, arith, mod-lt}
use Rattle.std.proofs.lemmas.Nat.{pow_pos}
use Rattle.std.proofs.lemmas.Bool.{cases_Bool, cond-false, and_left, and_right, le-ltb}
use Rattle.raster.specs.Picture.{Picture, Sound}
use Rattle.raster.proofs.Paints.{cond_less}
use Rattle.paper.specs.Layers.{is_open, pane, blank}
use Rattle.plan.specs.declared.plan.Plan.{Plan}
use Rattle.slots.specs.declared.slots.Slots.{Slots}
use Rattle.plan.specs.Plans.{frame_in}
use Rattle.hold.specs.declared.spot.Spot.{Spot}
use Rattle.hold.specs.declared.spot.Spot.TheVariants.{Screen, Store}
use Rattle.hold.specs.Spots.{look, spot_of}
use Rattle.hold.specs.Held.{layer_with, held}
use Rattle.desk.specs.declared.book.Book.{Book}
use Rattle.desk.specs.Desks.{on_pictures}
use Rattle.desk.proofs.Fits.{open_pane, shut_pane}

module _ (screen store : Picture) (sound : Sound screen) where
  -- what is held has no more bits than the screen
  look_below : (at : Spot) → look screen store at < 2 ^ screen.depth
  look_below (Screen x y) = sound.values x y
  look_below (Store x y) = mod-lt (store.at x y) (pow_pos screen.depth)

  layer_sound : (p : Plan) (t : Slots) (c : ℕ) → Sound (layer_with screen.depth p (held screen store p t) c).pixels
  layer_sound p t c =
      record {
        wide = omega (arith, p.narrow c);
        high = omega (arith, p.short c);
        deep = sound.deep;
        values = λ x y. cond_less (nat_lt x (frame_in p c).w && nat_lt y (frame_in p c).h) (held screen store p t c x y) (2 ^ screen.depth) (look_below (spot_of store.width p t c x y));
        outside = λ x y o. cond-false (nat_lt x (frame_in p c).w && nat_lt y (frame_in p c).h) (held screen store p t c x y) 0 (beyond x y o);
      }
    where
      beyond : (x y : ℕ) → ((frame_in p c).w ≤ x) ⊎ ((frame_in p c).h ≤ y) → (nat_lt x (frame_in p c).w && nat_lt y (frame_in p c).h) ≡ false
      beyond x y o =
          ⊎_elim (λ (l : (frame_in p c).w ≤ x). and_left _ _ (le-ltb x (frame_in p c).w l)) (λ (l : (frame_in p c).h ≤ y). and_right (nat_lt x (frame_in p c).w) _ (le-ltb y (frame_in p c).h l)) o

  empty_sound : Sound (blank 0 0 screen.depth)
  empty_sound = record { wide = omega arith; high = omega arith; deep = sound.deep; values = λ _ _. pow_pos screen.depth; outside = λ _ _ _. refl }

  pub pane_sound : (b : Book) (c : ℕ) → Sound (pane c (on_pictures screen store b))
  pane_sound b c =
      ⊎_elim (λ (o : is_open c (on_pictures screen store b) ≡ true). subst Sound (sym (open_pane screen store b c o)) (layer_sound b.plan b.slots c))
      (λ (o : is_open c (on_pictures screen store b) ≡ false). subst Sound (sym (shut_pane screen store b c o)) empty_sound) (cases_Bool (is_open c (on_pictures screen store b)))
