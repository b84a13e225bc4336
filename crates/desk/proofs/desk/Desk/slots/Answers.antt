use Rattle.std.proofs.Common.{sym, ◌∙◌, ap₂}
use Rattle.raster.specs.declared.size.Size.{Size}
use Rattle.paper.specs.Slots.{slots_of}
use Rattle.desk.proofs.Fresh.{slots_fit, slots_other}
use Rattle.desk.proofs.desk.Desk.slots.Goals as goal

pub returns-then-fits : goal.returns-then-fits
returns-then-fits g c =
    let d = c.args.self.now in
    slots_fit (g.S.Bitmap.picture d.screen) (g.T.Bitmap.picture d.store) d.book (sym c.fits.ensures ∙ c.if-fits.true) c.used.result c.slots_there-places.result c.used.ensures
    (c.slots_there-places.ensures ∙ ap₂ (λ (z y : Size). slots_of z y.depth) c.size.ensures c.size-2.ensures)

pub returns-else-fits : goal.returns-else-fits
returns-else-fits g c =
    let d = c.args.self.now in
    slots_other (g.S.Bitmap.picture d.screen) (g.T.Bitmap.picture d.store) d.book (sym c.fits.ensures ∙ c.if-fits.false) c.slots_there-places.result
    (c.slots_there-places.ensures ∙ ap₂ (λ (z y : Size). slots_of z y.depth) c.size.ensures c.size-2.ensures)
