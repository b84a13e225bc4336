use Rattle.std.proofs.Common.{◌<◌, sym, refl, ap, ◌∙◌, subst}
use Rattle.raster.specs.Picture.{sizes}
use Rattle.raster.specs.declared.size.Size.{Size}
use Rattle.moving.specs.Phases.{on_screen, just}
use Rattle.moving.proofs.Stows.{repainted_none, repainted_as}
use Rattle.moving.proofs.Areas.{walk_starts, passed, place_below, passed_none, passed_all, passed_more, within_more, repaint_more}
use Rattle.moving.proofs.painting.repaint.Goals as goal

pub loop-x-init : goal.loop-x-init
loop-x-init g c =
    let a = c.args in
    let walk = c.into_iter-x-iterator.result in
    let size : Size = sizes (g.S.Bitmap.picture c.args.screen.now) in
    let whole = walk_starts walk c.new-x-items.result c.size.result size a.area c.into_iter-x-iterator.ensures.into_iter_gives c.new-x-items.ensures c.size.ensures in
    record {
      within = λ x y h. sym (whole x y) ∙ h;
      painted = record {
        keeps = g.met.S.Bitmap.same a.screen.now;
        size = refl;
        paints = λ f. sym (repainted_none (g.T.Bitmap.picture a.store.now) a.layout.plan.now a.layout.slots.now (passed size a.area walk) _ (passed_none size a.area walk whole));
      };
    }

pub repaint_pixel-requires : goal.repaint_pixel-requires
repaint_pixel-requires g c =
    let q = place_below (sizes (g.S.Bitmap.picture c.args.screen.now)) c.args.area c.in-Some.x c.in-Some.y (c.loop-x.invariant.within _ _ c.in-Some.ensures.steps.0) in
    let e = sym c.loop-x.invariant.painted.size in
    record { across = subst (λ (z : Size). c.in-Some.x < z.width) e q.0; down = subst (λ (z : Size). c.in-Some.y < z.height) e q.1 }

pub loop-x-preserved : goal.loop-x-preserved
loop-x-preserved g c =
    let a = c.args in
    let l = c.loop-x in
    let i = l.invariant in
    let size : Size = sizes (g.S.Bitmap.picture c.args.screen.now) in
    let walk = l.x-iterator in
    let x = c.in-Some.x in
    let y = c.in-Some.y in
    record {
      within = within_more size a.area walk c.next.new.self x y i.within c.in-Some.ensures.steps;
      painted = record {
        keeps = g.met.S.Bitmap.joins a.screen.now l.screen c.repaint_pixel.new.screen i.painted.keeps c.repaint_pixel.ensures.keeps;
        size = c.repaint_pixel.ensures.size ∙ i.painted.size;
        paints = repaint_more _ _ _ (g.T.Bitmap.picture a.store.now) a.layout.plan.now a.layout.slots.now (passed size a.area walk) (just x y) (passed size a.area c.next.new.self) i.painted.size
            (passed_more size a.area walk c.next.new.self x y i.within c.in-Some.ensures.steps) i.painted.paints c.repaint_pixel.ensures.paints;
      };
    }

pub returns : goal.returns
returns g c =
    let a = c.args in
    let l = c.loop-x in
    let size : Size = sizes (g.S.Bitmap.picture c.args.screen.now) in
    record {
      keeps = l.invariant.painted.keeps;
      size = l.invariant.painted.size;
      paints = λ f.
          l.invariant.painted.paints f
          ∙ sym (repainted_as (g.T.Bitmap.picture a.store.now) a.layout.plan.now a.layout.slots.now (on_screen a.layout.plan.now.screen a.area) (passed size a.area l.x-iterator) (g.S.Bitmap.picture a.screen.now)
          (λ x y. ap (λ (z : Size). on_screen z a.area x y) f.sized ∙ passed_all size a.area l.x-iterator c.in-None.ensures.steps x y));
    }
