use Rattle.std.proofs.Common.{◌*◌, ◌/◌, ◌<◌, ◌≤◌}
use Rattle.moving.specs.Bitmaps.{Blanks}
use Rattle.moving.proofs.Blanks.{Blanking}
use Rattle.moving.proofs.blanking.blank.Given as goal

abbrev pub invariant-loop-patch : goal.invariant-loop-patch
invariant-loop-patch g l = Blanks g.T.Bitmap (λ m m'. l.c < 8 → l.slots.places ≤ (m.width / 16) * (m.height / 16) → Blanking l.slots l.c l.patch m m') l.initial.store l.store
