use Rattle.std.proofs.Common.{nat_abs, sym, ap, ◌∙◌}
use Rattle.std.proofs.lemmas.Int.{to_z-of_z}
use Rattle.raster.specs.Calls.{unless}
use Rattle.raster.proofs.Accepts.{write_too_large, write_as_read}
use Rattle.raster.proofs.size.Size.write_place.Goals as goal

pub returns-then-excludes : goal.returns-then-excludes
returns-then-excludes c =
    let a = c.args in
    let fx = c.ranges.x in
    let fy = c.ranges.y in
    simp to_z-of_z (sym (ap (λ f. unless f (nat_abs a.x, nat_abs a.y)) (write_too_large a.self a.x a.y a.v (sym c.if-excludes.ensures))))

pub returns : goal.returns
returns c =
    let a = c.args in
    let fx = c.ranges.x in
    let fy = c.ranges.y in
    (simp to_z-of_z at c.read_place.ensures)
    ∙ sym (ap (λ f. unless f (nat_abs a.x, nat_abs a.y)) (write_as_read a.self a.x a.y a.v (sym c.if-excludes.ensures)))
