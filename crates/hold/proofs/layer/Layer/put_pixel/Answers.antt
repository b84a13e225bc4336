use Rattle.std.proofs.Common.{sym, ap}
use Rattle.raster.specs.declared.size.Size.{Size}
use Rattle.hold.proofs.Drawings.{put_on_screen, put_in_store}
use Rattle.hold.proofs.layer.Layer.put_pixel.Goals as goal

pub returns-in-Some-Screen-clause-put : goal.returns-in-Some-Screen-clause-put
returns-in-Some-Screen-clause-put g c =
    let a = c.args in
    let screen = g.S.Bitmap.picture a.screen.now in
    let store = g.T.Bitmap.picture a.store.now in
    let wide = ap (λ (s : Size). s.width) (sym c.size.ensures) in
    λ f o small.
    put_on_screen screen store a.self.layout.plan.now a.self.layout.slots.now f a.self.client a.u a.v a.value o small c.size.result.width wide
    c.in-Some-Screen.x c.in-Some-Screen.y (g.S.Bitmap.picture c.set_pixel.new.bitmap)
    (let e = c.in-Some-Screen.ensures screen store f wide o in cc) c.set_pixel.ensures.after

pub returns-in-Some-Store-clause-put : goal.returns-in-Some-Store-clause-put
returns-in-Some-Store-clause-put g c =
    let a = c.args in
    let screen = g.S.Bitmap.picture a.screen.now in
    let store = g.T.Bitmap.picture a.store.now in
    let wide = ap (λ (s : Size). s.width) (sym c.size.ensures) in
    λ f o small.
    put_in_store screen store a.self.layout.plan.now a.self.layout.slots.now f a.self.client a.u a.v a.value o small c.size.result.width wide
    c.in-Some-Store.x c.in-Some-Store.y (g.T.Bitmap.picture c.set_pixel-in-Some-Store.new.bitmap)
    (let e = c.in-Some-Store.ensures screen store f wide o in cc) c.set_pixel-in-Some-Store.ensures.after
