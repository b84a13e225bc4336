use Rattle.std.proofs.Common.{◌∙◌, ap₂}
use Rattle.draw.proofs.Stamped.{at_most_there}
use Rattle.draw.proofs.source.LaidSource.sample.Goals as goal

pub returns : goal.returns
returns g c =
    let laid = c.args.self.now in
    let p = g.B.Bitmap.picture laid.bitmap.now in
    λ suits there. c.pixel.ensures ∙ ap₂ p.at c.opposite.ensures c.opposite-2.ensures ∙ at_most_there p (g.met.B.Bitmap.sound laid.bitmap.now) _ _
