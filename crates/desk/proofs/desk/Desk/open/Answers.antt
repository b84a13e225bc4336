use Rattle.std.proofs.Common.{◌≡◌, refl, ap, ◌∙◌}
use Rattle.std.proofs.lemmas.Result.{err_from_is_err_and}
use Rattle.raster.specs.Picture.{sizes}
use Rattle.raster.specs.Calls.{fill_with, bitmap_after}
use Rattle.moving.proofs.Areas.{fitting_same, fitting_few}
use Rattle.desk.proofs.Opens.{fill_sizes, open_shut, can, low, open_few, open_does}
use Rattle.desk.proofs.Settles.{sized}
use Rattle.desk.proofs.desk.Desk.open.Goals as goal

pub returns-in_err-check_new : goal.returns-in_err-check_new
returns-in_err-check_new g c =
    let a = c.args in
    let d = a.self.now in
    let s = g.S.Bitmap.picture d.screen in
    let t = g.T.Bitmap.picture d.store in
    let f = a.frame in
    let err = err_from_is_err_and c.from_residual.result c.from_residual.ensures.1 in
    rw (err.1, err.2)
    (record {
      does = open_shut s t d.book a.c f _ c.in_err-check_new.ensures;
      rest = record { screen = g.met.S.Bitmap.same d.screen; store = g.met.T.Bitmap.same d.store };
      refused = refl;
    })

pub returns-in_err-passage : goal.returns-in_err-passage
returns-in_err-passage g c =
    let a = c.args in
    let d = a.self.now in
    let s = g.S.Bitmap.picture d.screen in
    let t = g.T.Bitmap.picture d.store in
    let f = a.frame in
    let b = c.current-book.result in
    let ok = c.in_ok-check_new.ensures in
    let fits = c.current-book.ensures.fits in
    let same = c.current-book.ensures.same in
    let is = can s t d.book a.c f b fits same ok in
    let err = err_from_is_err_and c.from_residual-in_err-passage.result c.from_residual-in_err-passage.ensures.1 in
    rw (err.1, err.2)
    (record {
      does = (open_few s t d.book a.c f b fits same ok c.opened-after.result (c.opened-after.ensures.arranged is) c.opened-after.ensures.frames
          _ c.in_err-passage.ensures.0 c.in_err-passage.ensures.1);
      rest = record { screen = g.met.S.Bitmap.same d.screen; store = g.met.T.Bitmap.same d.store };
      refused = refl;
    })

pub returns : goal.returns
returns g c =
    let a = c.args in
    let d = a.self.now in
    let s = g.S.Bitmap.picture d.screen in
    let t = g.T.Bitmap.picture d.store in
    let f = a.frame in
    let b = c.current-book.result in
    let ok = c.in_ok-check_new.ensures in
    let fits = c.current-book.ensures.fits in
    let same = c.current-book.ensures.same in
    let is = can s t d.book a.c f b fits same ok in
    let slots = c.in_ok-passage.passage.slots in
    let way = c.in_ok-passage.ensures in
    let t₁ = g.T.Bitmap.picture c.stow.new.store in
    let fit = sized s t b fits slots way.2.places in
    let zeros : g.S.Bitmap.picture c.fill.new.self ≡ bitmap_after s (fill_with 3 0 f.x f.y f.w f.h) = c.fill.ensures.after in
    record {
      does = (open_does s t d.book a.c f b fits same ok c.opened-after.result (c.opened-after.ensures.arranged is) c.opened-after.ensures.frames
          t₁ (g.S.Bitmap.picture c.fill.new.self) (g.T.Bitmap.picture c.blank.new.store) c.settled-self.result slots (g.met.S.Bitmap.sound d.screen) way.1 way.2
          (c.opened-after.ensures.own is) (ap sizes zeros ∙ fill_sizes s f) (c.blank.ensures.size ∙ c.stow.ensures.size) (simp way.0 at c.settled-self.ensures) ((simp (c.before-before.ensures.plan, c.before-before.ensures.slots) at c.stow.ensures.stows) fit)
          (c.blank.ensures.blanks (low s t d.book a.c f b fits same ok) (fitting_few s t₁ b.plan slots (fitting_same s s t t₁ b.plan slots refl c.stow.ensures.size fit))) zeros);
      rest = record {
        screen = c.fill.ensures.rest;
        store = g.met.T.Bitmap.joins d.store c.stow.new.store c.blank.new.store c.stow.ensures.keeps c.blank.ensures.keeps;
      };
      refused = tt;
    }
