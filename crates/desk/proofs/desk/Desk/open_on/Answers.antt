use Rattle.std.proofs.Common.{sym, ◌∙◌}
use Rattle.desk.proofs.Fits.{open_fits, open_other}
use Rattle.desk.proofs.desk.Desk.open_on.Goals as goal

pub returns-then-suits : goal.returns-then-suits
returns-then-suits g c =
    let d = c.args.self.now in
    λ e. c.is_open.ensures ∙ sym (open_fits (g.S.Bitmap.picture d.screen) (g.T.Bitmap.picture d.store) d.book c.args.c (sym (c.if-suits.ensures e)))

pub returns-else-suits : goal.returns-else-suits
returns-else-suits g c =
    let d = c.args.self.now in
    λ e. c.if-suits.false ∙ sym (open_other (g.S.Bitmap.picture d.screen) (g.T.Bitmap.picture d.store) d.book c.args.c (sym (c.if-suits.ensures e)))
