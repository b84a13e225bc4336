use Rattle.std.proofs.Common.{ap, ◌∙◌, ap₂}
use Rattle.raster.specs.Picture.{sizes}
use Rattle.raster.specs.Calls.{write_at, bitmap_after}
use Rattle.raster.proofs.Lawful.{bitmap_laws_lem}
use Rattle.hold.proofs.Singles.{passed, write_cut}
use Rattle.hold.proofs.single.set_pixel.Goals as goal

pub returns-clause-after : goal.returns-clause-after
returns-clause-after g c =
    let a = c.args in
    let p = g.B.Bitmap.picture a.bitmap.now in
    λ s.
    c.write.ensures.after
    ∙ ap₂ (λ x y. bitmap_after p (write_at x y a.value)) (passed _ a.x c.coordinate.ensures) (passed _ a.y c.coordinate-2.ensures)
    ∙ write_cut p (g.met.B.Bitmap.sound a.bitmap.now) a.x a.y a.value s

pub returns-clause-size : goal.returns-clause-size
returns-clause-size g c = ap sizes c.write.ensures.after ∙ bitmap_laws_lem.size_stays (g.B.Bitmap.picture c.args.bitmap.now) _
