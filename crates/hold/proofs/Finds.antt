-- A pixel's spot, from what an arrangement and a table answer.
use Rattle.std.proofs.Common.{◌≡◌, ℕ, ◌/◌, ◌<◌, ◌≤◌, false, cond, ◌&&◌, ltb, pos, ◌+ℤ◌, nat_abs, Some, None, Option, sym, ap, ◌∙◌, subst, arith}
use Rattle.std.proofs.lemmas.Bool.{false_from_ne_true, and_from, lt-ltb, cond-true, cond-false}
use Rattle.std.proofs.lemmas.Option.{none-some, cond_some}
use Rattle.raster.specs.Picture.{Picture, sizes}
use Rattle.plan.specs.declared.plan.Plan.{Plan}
use Rattle.slots.specs.declared.slots.Slots.{Slots}
use Rattle.plan.specs.Plans.{frame_in, seen, patch_at}
use Rattle.slots.specs.Tables.{slot_of, has_slot}
use Rattle.hold.specs.declared.layer.Layer.{Layer}
use Rattle.hold.specs.declared.spot.Spot.{Spot}
use Rattle.hold.specs.declared.spot.Spot.TheVariants.{Screen}
use Rattle.hold.specs.Spots.{own_slot, store_spot, spot_of}
use Rattle.hold.specs.Held.{Fitting}
use Rattle.hold.specs.Bitmaps.{HasPixel}
use Rattle.hold.proofs.Places.{own_patch, slot_held, slot_there, square, some_slot}

module _ (width : ℕ) (l : Layer) (u v : ℕ) where
  abbrev p : Plan
  p = l.layout.plan.now

  abbrev t : Slots
  t = l.layout.slots.now

  abbrev c : ℕ
  c = l.client

  abbrev place : ℕ × ℕ
  place = (nat_abs ((frame_in p c).x +ℤ pos u), nat_abs ((frame_in p c).y +ℤ pos v))

  pub found_seen : (x y : ℕ) → ◌≡◌ {A = Option (ℕ × ℕ)} (Some (x, y)) (cond (seen p c u v) (Some place) None) → ◌≡◌ {A = Option Spot} (Some (Screen x y)) (Some (spot_of width p t c u v))
  unfolding spot_of
  found_seen x y e =
      let q = cond_some (seen p c u v) place (x, y) (sym e) in
      ap (λ (z : ℕ × ℕ). Some (Screen z.0 z.1)) (sym q.1) ∙ ap Some (sym (cond-true _ _ _ q.0))

  pub found_unseen : ◌≡◌ {A = Option (ℕ × ℕ)} None (cond (seen p c u v) (Some place) None) → seen p c u v ≡ false
  found_unseen e = false_from_ne_true _ (λ on. none-some _ (e ∙ cond-true _ _ _ on))

  pub found_stored : seen p c u v ≡ false → store_spot width t c u v ≡ spot_of width p t c u v
  unfolding spot_of
  found_stored off = sym (cond-false _ _ _ off)

  module _ (screen store : Picture) (f : Fitting screen store p t) (w : store.width ≡ width) (o : HasPixel l u v) (off : seen p c u v ≡ false) where
    -- the table has the slot of an obscured pixel
    pub found_slot : (k : ℕ) → k ≡ patch_at c (u / 16) (v / 16) → cond (ltb k 2400 && has_slot t k) (Some (slot_of t k)) None ≡ Some (own_slot t c u v)
    found_slot k same =
        let low = own_patch p c u v o in
        cond-true _ _ _ (and_from _ _ (lt-ltb k 2400 (omega arith)) (ap (has_slot t) same ∙ slot_held p c u v o t f.fits off)) ∙ ap (λ n. Some (slot_of t n)) same

    -- and the store has that
    pub found_corner : (16 ≤ width) × (own_slot t c u v < 4096)
    found_corner =
        let h = subst (λ n. own_slot t c u v < n) f.places (slot_there p c u v o t f.fits off) in
        (omega (arith, (square (sizes store) _ (some_slot (sizes store) screen.depth _ h).0).wide), omega (arith, slot_there p c u v o t f.fits off, t.room))
