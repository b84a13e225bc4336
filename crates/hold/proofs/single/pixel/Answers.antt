use Rattle.std.proofs.Common.{◌∙◌, ap₂}
use Rattle.raster.specs.Calls.{read_at, bitmap_answer}
use Rattle.hold.proofs.Singles.{passed, read_cut}
use Rattle.hold.proofs.single.pixel.Goals as goal

pub returns : goal.returns
returns g c =
    let a = c.args in
    let p = g.B.Bitmap.picture a.bitmap.now in
    c.unwrap_or.ensures
    ∙ read_cut p (g.met.B.Bitmap.sound a.bitmap.now) a.x a.y c.read.result
    (c.read.ensures ∙ ap₂ (λ x y. bitmap_answer p (read_at x y)) (passed _ a.x c.coordinate.ensures) (passed _ a.y c.coordinate-2.ensures))
