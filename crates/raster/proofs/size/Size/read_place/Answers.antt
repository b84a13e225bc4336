use Rattle.std.proofs.Common.{sym, ◌∙◌, w32, SFits, rules}
use Rattle.std.proofs.lemmas.Int.{to_z-of_z}
use Rattle.raster.proofs.Accepts.{no_column, no_row, placed}
use Rattle.raster.proofs.size.Size.read_place.Goals as goal

pub returns-in-Some-Some : goal.returns-in-Some-Some
returns-in-Some-Some c =
    let a = c.args in
    let fx = c.ranges.x in
    let fy = c.ranges.y in
    let wx : SFits w32 a.x = search rules in
    let wy : SFits w32 a.y = search rules in
    let i = c.in-Some-Some in
    placed a.self a.x a.y i.column i.row (simp (c.from.ensures, to_z-of_z) at i.ensures) (simp (c.from-2.ensures, to_z-of_z) at i.ensures')

pub returns-in_default : goal.returns-in_default
returns-in_default c =
    let a = c.args in
    let fx = c.ranges.x in
    let fy = c.ranges.y in
    let wx : SFits w32 a.x = search rules in
    let wy : SFits w32 a.y = search rules in
    simp to_z-of_z (no_row a.self a.x a.y (simp (c.from-2.ensures, to_z-of_z) at c.in_default.ensures'))

pub returns-in_default-2 : goal.returns-in_default-2
returns-in_default-2 c =
    let a = c.args in
    let fx = c.ranges.x in
    let fy = c.ranges.y in
    let wx : SFits w32 a.x = search rules in
    let wy : SFits w32 a.y = search rules in
    simp to_z-of_z (no_column a.self a.x a.y (sym c.in_default.is-0 ∙ simp (c.from.ensures, to_z-of_z) at c.below.ensures))
