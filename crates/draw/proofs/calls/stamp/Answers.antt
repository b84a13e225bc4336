use Rattle.std.proofs.Common.{◌∙◌}
use Rattle.draw.proofs.Strokes.{drawn_as}
use Rattle.draw.proofs.Stamped.{stamp_within, stamp_blt, stamp_count}
use Rattle.draw.proofs.calls.stamp.Goals as goal

pub returns-clause-drawn : goal.returns-clause-drawn
returns-clause-drawn g c =
    let a = c.args in
    let screen = g.S.Bitmap.picture a.screen.now in
    let store = g.T.Bitmap.picture a.store.now in
    let source = g.B.Bitmap.picture a.source.now in
    let drawn = rw (c.in_place.ensures, c.in_place-2.ensures) at c.blend.ensures.drawn in
    λ t w f.
    drawn_as a.layer screen store (g.S.Bitmap.picture c.blend.new.screen) (g.T.Bitmap.picture c.blend.new.store) _ _
    (stamp_blt a.layer screen store source t a.rule a.clip.columns a.clip.rows w)
    (drawn (stamp_within a.layer screen store source t a.rule a.clip.columns a.clip.rows w, λ _ _ _ _. tt) f)

pub returns-clause-count : goal.returns-clause-count
returns-clause-count g c =
    let a = c.args in
    λ t w.
    c.count.ensures
    ∙ stamp_count a.layer (g.S.Bitmap.picture a.screen.now) (g.T.Bitmap.picture a.store.now) (g.B.Bitmap.picture a.source.now) t a.rule a.clip.columns a.clip.rows w
