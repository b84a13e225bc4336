-- A BitBlt from another bitmap onto a layer, clipped.
use Rattle.std.specs.Prelude.{◌≡◌, ℕ, true}
use Rattle.raster.specs.declared.transfer.Transfer.{Transfer}
use Rattle.raster.specs.Clip.{Clipped}
use Rattle.raster.specs.declared.rule.Rule.{Rule}
use Rattle.raster.specs.declared.size.Size.{Size}
use Rattle.raster.specs.declared.span.Span.{Span}
use Rattle.plan.specs.declared.plan.Plan.{Plan}
use Rattle.plan.specs.Frames.{has}
use Rattle.plan.specs.Plans.{listed, frame_in}

-- Rule, columns and rows are what is left of a transfer from a bitmap of a size onto the client's open layer.
pub record Stamps (p : Plan) (c : ℕ) (t : Transfer) (source : Size) (rule : Rule) (columns rows : Span) : Type 0 where
  pub opened : has c (listed p) ≡ true
  pub by : rule.number ≡ t.rule
  pub across : Clipped t.sx t.dx t.w source.width (frame_in p c).w columns
  pub down : Clipped t.sy t.dy t.h source.height (frame_in p c).h rows
