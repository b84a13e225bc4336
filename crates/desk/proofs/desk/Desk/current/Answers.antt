use Rattle.std.proofs.Common.{sym, ◌∙◌, subst, ap₂}
use Rattle.raster.specs.declared.size.Size.{Size}
use Rattle.paper.specs.Slots.{slots_of}
use Rattle.desk.specs.Moves.{Fresh}
use Rattle.desk.proofs.Fits.{paper_other}
use Rattle.desk.proofs.Fresh.{fresh_fits, fresh_paper}
use Rattle.desk.proofs.desk.Desk.current.Goals as goal

pub returns : goal.returns
returns g c =
    let d = c.args.self.now in
    let s = g.S.Bitmap.picture d.screen in
    let t = g.T.Bitmap.picture d.store in
    let places = c.slots_there.result in
    let all = c.slots_there.ensures ∙ ap₂ (λ (z y : Size). slots_of z y.depth) c.size.ensures c.size-size.ensures in
    let f = subst (λ (z : Size). Fresh z places c.fresh.result) c.size-size.ensures c.fresh.ensures in
    let sound = g.met.T.Bitmap.sound d.store in
    record {
      fits = fresh_fits s t c.fresh.result places sound all f;
      same = fresh_paper s t c.fresh.result places sound all f ∙ sym (paper_other s t d.book (sym c.fits.ensures ∙ c.if-fits.false));
    }
