use Rattle.std.proofs.Common.{refl}
use Rattle.moving.proofs.Areas.{walk_whole}
use Rattle.moving.proofs.walk.Places.new.Goals as goal

pub returns : goal.returns
returns c = walk_whole c.args.size c.args.area _ _ c.clip.result.columns c.clip.result.rows refl refl c.clip.ensures.columns c.clip.ensures.rows
