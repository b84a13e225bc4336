use Rattle.std.proofs.Common.{sym, ap, ◌∙◌}
use Rattle.raster.specs.Blits.{inked}
use Rattle.raster.specs.declared.ink.Ink.{Ink}
use Rattle.hold.specs.Held.{layer_held}
use Rattle.hold.proofs.Papers.{layer_at}
use Rattle.draw.proofs.source.InkSource.sample.Goals as goal

pub returns-in-Itself : goal.returns-in-Itself
returns-in-Itself g c =
    let a = c.args in
    let screen = g.S.Bitmap.picture a.screen.now in
    let store = g.T.Bitmap.picture a.store.now in
    let p = a.layer.layout.plan.now in
    let t = a.layer.layout.slots.now in
    λ f o.
    c.read_pixel.ensures f o ∙ sym (layer_at screen store p t a.layer.client a.x a.y o)
    ∙ ap (λ (k : Ink). inked k (layer_held screen store p t a.layer.client) a.x a.y) (sym c.in-Itself.is)
