use Rattle.std.proofs.Common.{◌≡◌, ℕ, pos, refl, ap, ◌∙◌, subst, arith, w16, SFits, rules}
use Rattle.raster.specs.Picture.{sizes}
use Rattle.raster.specs.Calls.{fill_with, bitmap_after}
use Rattle.raster.specs.declared.size.Size.{Size}
use Rattle.raster.specs.declared.rectangle.Rectangle.{Rectangle}
use Rattle.raster.proofs.Lawful.{bitmap_laws_lem}
use Rattle.hold.specs.Spots.{slot_x, slot_y}
use Rattle.moving.proofs.Touched.{as_was}
use Rattle.hold.proofs.Places.{square}
use Rattle.moving.proofs.Blanks.{slot_few, slot_filled}
use Rattle.moving.proofs.blanking.blank_slot.Goals as goal

pub returns-in-Some : goal.returns-in-Some
returns-in-Some g c =
    let k = c.args.k in
    let m = g.T.Bitmap.picture c.args.store.now in
    let s = g.met.T.Bitmap.sound c.args.store.now in
    let w : c.size.result.width ≡ m.width = ap (λ (z : Size). z.width) c.size.ensures in
    let e = c.in-Some.ensures.1 in
    let ex : c.in-Some.x ≡ slot_x m.width k = ap (λ (p : ℕ × ℕ). p.0) e ∙ ap (λ n. slot_x n k) w in
    let ey : c.in-Some.y ≡ slot_y m.width k = ap (λ (p : ℕ × ℕ). p.1) e ∙ ap (λ n. slot_y n k) w in
    let fx : SFits w16 c.coordinate.result = search rules in
    let fy : SFits w16 c.coordinate-in-Some.result = search rules in
    record {
      keeps = c.fill.ensures.rest;
      size = ap sizes c.fill.ensures.after ∙ bitmap_laws_lem.size_stays m _;
      blanks = λ h.
          let q = square (sizes m) k h in
          subst (λ (z : Rectangle). g.T.Bitmap.picture c.fill.new.self ≡ bitmap_after m (fill_with 3 0 z.x z.y z.w z.h)) c.new-square.ensures c.fill.ensures.after
          ∙ slot_filled m k _ _ h
          (as_was _ fx ∙ c.coordinate.ensures ∙ ap pos (omega (arith, ex, q.across, s.wide)))
          (as_was _ fy ∙ c.coordinate-in-Some.ensures ∙ ap pos (omega (arith, ey, q.down, s.high)));
    }

pub returns-in_default : goal.returns-in_default
returns-in_default g c =
    let m = g.T.Bitmap.picture c.args.store.now in
    let s = g.met.T.Bitmap.sound c.args.store.now in
    let w : c.size.result.width ≡ m.width = ap (λ (z : Size). z.width) c.size.ensures in
    record {
      keeps = g.met.T.Bitmap.same c.args.store.now;
      size = refl;
      blanks = λ h. absurd (c.in_default.ensures (omega (arith, w, (square (sizes m) c.args.k h).wide), slot_few m s.wide s.high c.args.k h));
    }
