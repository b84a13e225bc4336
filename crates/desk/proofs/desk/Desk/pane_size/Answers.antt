use Rattle.std.proofs.Common.{sym, ap, ◌∙◌}
use Rattle.raster.specs.Picture.{sizes}
use Rattle.raster.specs.declared.size.Size.{Size}
use Rattle.raster.specs.declared.rectangle.Rectangle.{Rectangle}
use Rattle.desk.proofs.Fits.{shut_pane, open_pane}
use Rattle.desk.proofs.desk.Desk.pane_size.Goals as goal

pub returns-then-not-open_on : goal.returns-then-not-open_on
returns-then-not-open_on g c =
    let d = c.args.self.now in
    ap (λ (z : Size). record { width = 0; height = 0; depth = z.depth }) c.size-screen.ensures
    ∙ sym (ap sizes (shut_pane (g.S.Bitmap.picture d.screen) (g.T.Bitmap.picture d.store) d.book c.args.c (sym (c.if-not-open_on.ensures c.size-screen.ensures))))

pub returns : goal.returns
returns g c =
    let d = c.args.self.now in
    ap (λ (z : Size). record { width = c.frame-frame.result.w; height = c.frame-frame.result.h; depth = z.depth }) c.size-screen.ensures
    ∙ ap (λ (f : Rectangle). record { width = f.w; height = f.h; depth = (g.S.Bitmap.picture d.screen).depth }) c.frame-frame.ensures
    ∙ sym (ap sizes (open_pane (g.S.Bitmap.picture d.screen) (g.T.Bitmap.picture d.store) d.book c.args.c (sym (c.if-not-open_on.ensures c.size-screen.ensures))))
