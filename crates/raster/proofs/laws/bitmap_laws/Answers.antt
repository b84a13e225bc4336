use Rattle.raster.proofs.Lawful.{bitmap_laws_lem}
use Rattle.raster.proofs.laws.bitmap_laws.Goals as goal

pub returns : goal.returns
returns c = bitmap_laws_lem
