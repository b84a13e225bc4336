use Rattle.std.proofs.Common.{◌≡◌, true, [], ◌∷◌, refl, subst, w16, to_z, of_z}
use Rattle.std.proofs.lemmas.Result.{err_from_is_err_and}
use Rattle.std.proofs.lemmas.Int.{to_z-of_z}
use Rattle.raster.specs.declared.rectangle.Rectangle.{Rectangle}
use Rattle.plan.specs.Frames.{has}
use Rattle.plan.specs.Plans.{listed, layers_in, frame_in}
use Rattle.plan.specs.Arranged.{Arranged, cornered}
use Rattle.paper.specs.Layers.{alter, at_corner}
use Rattle.desk.specs.Moves.{Rearranges}
use Rattle.desk.proofs.Moved.{at_corner_passed, move_shut, move_few, move_does}
use Rattle.desk.proofs.desk.Desk.move_to.Goals as goal

pub returns-in_err-check_open : goal.returns-in_err-check_open
returns-in_err-check_open g c =
    let a = c.args in
    let d = a.self.now in
    let s = g.S.Bitmap.picture d.screen in
    let t = g.T.Bitmap.picture d.store in
    let err = err_from_is_err_and c.from_residual.result c.from_residual.ensures.1 in
    rw (err.1, err.2)
    (record {
      does = move_shut s t d.book a.c a.x a.y _ c.in_err-check_open.ensures;
      rest = record { screen = g.met.S.Bitmap.same d.screen; store = g.met.T.Bitmap.same d.store };
      refused = refl;
    })

pub returns-in_err-passage : goal.returns-in_err-passage
returns-in_err-passage g c =
    let a = c.args in
    let d = a.self.now in
    let s = g.S.Bitmap.picture d.screen in
    let t = g.T.Bitmap.picture d.store in
    let p = d.book.plan in
    let after = c.moved-after.result in
    let ex : to_z w16 (of_z w16 a.x) ≡ a.x = to_z-of_z w16 a.x c.ranges.x in
    let ey : to_z w16 (of_z w16 a.y) ≡ a.y = to_z-of_z w16 a.y c.ranges.y in
    let arranged = at_corner_passed (λ x y. Arranged p after (alter a.c (at_corner x y) (layers_in p)) (λ d. has d (listed p))) ex ey c.moved-after.ensures.arranged in
    let own = at_corner_passed (λ x y. has a.c (listed p) ≡ true → frame_in after a.c ≡ cornered x y (frame_in p a.c)) ex ey c.moved-after.ensures.own in
    let err = err_from_is_err_and c.from_residual-in_err-passage.result c.from_residual-in_err-passage.ensures.1 in
    rw (err.1, err.2)
    (record {
      does = move_few s t d.book a.c a.x a.y c.in_ok-check_open.ensures c.moved-after.result arranged c.moved-after.ensures.frames own
          _ c.in_err-passage.ensures.0 c.in_err-passage.ensures.1;
      rest = record { screen = g.met.S.Bitmap.same d.screen; store = g.met.T.Bitmap.same d.store };
      refused = refl;
    })

pub returns : goal.returns
returns g c =
    let a = c.args in
    let d = a.self.now in
    let s = g.S.Bitmap.picture d.screen in
    let t = g.T.Bitmap.picture d.store in
    let p = d.book.plan in
    let after = c.moved-after.result in
    let ex : to_z w16 (of_z w16 a.x) ≡ a.x = to_z-of_z w16 a.x c.ranges.x in
    let ey : to_z w16 (of_z w16 a.y) ≡ a.y = to_z-of_z w16 a.y c.ranges.y in
    let arranged = at_corner_passed (λ x y. Arranged p after (alter a.c (at_corner x y) (layers_in p)) (λ d. has d (listed p))) ex ey c.moved-after.ensures.arranged in
    let own = at_corner_passed (λ x y. has a.c (listed p) ≡ true → frame_in after a.c ≡ cornered x y (frame_in p a.c)) ex ey c.moved-after.ensures.own in
    let e = c.rearrange.new.self in
    let slots = c.in_ok-passage.passage.slots in
    let way = c.in_ok-passage.ensures in
    record {
      does = move_does s t d.book a.c a.x a.y c.in_ok-check_open.ensures after arranged c.moved-after.ensures.frames own
          (g.S.Bitmap.picture e.screen) (g.T.Bitmap.picture e.store) e.book slots (g.met.S.Bitmap.sound d.screen) way.1 way.2 (simp way.0 at c.rearrange.ensures.book)
          (subst (λ (z : Rectangle). Rearranges d.book.plan after slots (z ∷ frame_in after a.c ∷ []) s t (g.S.Bitmap.picture e.screen) (g.T.Bitmap.picture e.store)) c.frame-old.ensures
          (subst (λ (z : Rectangle). Rearranges d.book.plan after slots (c.frame-old.result ∷ z ∷ []) s t (g.S.Bitmap.picture e.screen) (g.T.Bitmap.picture e.store)) c.frame-new.ensures (simp way.0 at c.rearrange.ensures.pixels)));
      rest = c.rearrange.ensures.rest;
      refused = tt;
    }
