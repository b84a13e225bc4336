use Rattle.std.proofs.Common.{◌+◌, ◌*◌, ◌<◌, ◌≤◌, sym, ap, ◌∙◌, subst, arith}
use Rattle.raster.specs.Picture.{sizes}
use Rattle.moving.proofs.Blanks.{Blanking, blank_turn, blank_past}
use Rattle.moving.proofs.blanking.blank.Goals as goal
use Rattle.moving.proofs.blanking.blank.Goals.{in-Some, in_default}

pub loop-patch-preserved : goal.loop-patch-preserved
loop-patch-preserved g c =
    let a = c.args in
    let l = c.loop-patch in
    let i = l.invariant in
    let m = g.T.Bitmap.picture a.store.now in
    let m' = g.T.Bitmap.picture l.store in
    let from : 300 * c.min.result ≤ l.patch = omega (arith, l.auto.patch, c.from-first.ensures) in
    let to : l.patch < 300 * c.min.result + 300 = omega (arith, c.loop-patch-test.true, c.from-first.ensures) in
    elim c.match-slot.branch [
      | in-Some w ↦ record {
        keeps = subst (g.T.Bitmap.keeps a.store.now) (sym w.store-is) (g.met.T.Bitmap.joins a.store.now l.store w.blank_slot.new.store i.keeps w.blank_slot.ensures.keeps);
        size = ap (λ z. sizes (g.T.Bitmap.picture z)) w.store-is ∙ w.blank_slot.ensures.size ∙ i.size;
        blanks = λ h f.
            blank_turn a.slots.now a.c l.patch m m' f h (omega (arith, from, c.min.ensures)) (omega (arith, to, c.min.ensures)) i.size (i.blanks h f) w.in-Some.k (g.T.Bitmap.picture c.match-slot.store) w.in-Some.ensures
            (λ k. ap g.T.Bitmap.picture w.store-is ∙ w.blank_slot.ensures.blanks k);
      }
      | in_default w ↦ record {
        keeps = subst (g.T.Bitmap.keeps a.store.now) (sym w.store-is) i.keeps;
        size = ap (λ z. sizes (g.T.Bitmap.picture z)) w.store-is ∙ i.size;
        blanks = λ h f.
            subst (λ z. Blanking a.slots.now a.c (l.patch + 1) m (g.T.Bitmap.picture z)) (sym w.store-is)
            (blank_past a.slots.now a.c l.patch m m' f h (omega (arith, from, c.min.ensures)) (omega (arith, to, c.min.ensures)) i.size (i.blanks h f) c.slot.result c.slot.ensures w.in_default.not-Some);
      }
    ]
