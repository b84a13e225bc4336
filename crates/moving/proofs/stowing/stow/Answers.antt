use Rattle.std.proofs.Common.{ap, ◌∙◌}
use Rattle.raster.specs.Picture.{sizes}
use Rattle.raster.specs.declared.size.Size.{Size}
use Rattle.moving.specs.Phases.{on_screen, just}
use Rattle.moving.proofs.Stows.{stowed_as}
use Rattle.moving.proofs.Areas.{passed, place_below, passed_all, passed_more, within_more, stow_more}
use Rattle.moving.proofs.stowing.stow.Goals as goal

pub stow_pixel-requires : goal.stow_pixel-requires
stow_pixel-requires g c =
    let q = place_below (sizes (g.S.Bitmap.picture c.args.screen.now)) c.args.area c.in-Some.x c.in-Some.y (c.loop-x.invariant.within _ _ c.in-Some.ensures.steps.0) in
    record { across = q.0; down = q.1 }

pub loop-x-preserved : goal.loop-x-preserved
loop-x-preserved g c =
    let a = c.args in
    let l = c.loop-x in
    let i = l.invariant in
    let size : Size = sizes (g.S.Bitmap.picture c.args.screen.now) in
    let walk = l.x-iterator in
    let x = c.in-Some.x in
    let y = c.in-Some.y in
    record {
      within = within_more size a.area walk c.next.new.self x y i.within c.in-Some.ensures.steps;
      stowed = record {
        keeps = g.met.T.Bitmap.joins a.store.now l.store c.stow_pixel.new.store i.stowed.keeps c.stow_pixel.ensures.keeps;
        size = c.stow_pixel.ensures.size ∙ i.stowed.size;
        stows = stow_more (g.S.Bitmap.picture a.screen.now) _ _ _ a.layout.plan.now a.layout.slots.now (passed size a.area walk) (just x y) (passed size a.area c.next.new.self) i.stowed.size
            (passed_more size a.area walk c.next.new.self x y i.within c.in-Some.ensures.steps) i.stowed.stows c.stow_pixel.ensures.stows;
      };
    }

pub returns : goal.returns
returns g c =
    let a = c.args in
    let l = c.loop-x in
    let size : Size = sizes (g.S.Bitmap.picture c.args.screen.now) in
    record {
      keeps = l.invariant.stowed.keeps;
      size = l.invariant.stowed.size;
      stows = λ f.
          stowed_as (g.S.Bitmap.picture a.screen.now) a.layout.plan.now a.layout.slots.now (passed size a.area l.x-iterator) (on_screen a.layout.plan.now.screen a.area) _ _
          (λ x y. ap (λ (z : Size). on_screen z a.area x y) f.sized ∙ passed_all size a.area l.x-iterator c.in-None.ensures.steps x y) (l.invariant.stowed.stows f);
    }
