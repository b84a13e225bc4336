use Rattle.std.proofs.Common.{nat_abs}
use Rattle.std.proofs.lemmas.Int.{to_z-of_z}
use Rattle.raster.specs.Calls.{read_at}
use Rattle.raster.proofs.Called.{place_refused, hands_on, read_found}
use Rattle.planes.specs.Means.{picture_of}
use Rattle.planes.proofs.calls.PlanesBitmap.read.Goals as goal

pub returns-in_err-column : goal.returns-in_err-column
returns-in_err-column c =
    let a = c.args in
    let fx = c.ranges.x in
    let fy = c.ranges.y in
    hands_on _ _ c.from_residual.ensures.1 (place_refused (picture_of a.self.now) (read_at a.x a.y) _ (nat_abs a.x, nat_abs a.y) (simp to_z-of_z at c.in_err-column.ensures))

pub get-requires : goal.get-requires
get-requires c =
    let a = c.args in
    let fx = c.ranges.x in
    let fy = c.ranges.y in
    let f = read_found (picture_of a.self.now) a.x a.y c.in_ok-column.column c.in_ok-column.row (simp to_z-of_z at c.in_ok-column.ensures) in
    record { line = c.line.ensures.words; pixel = (f.across, rw c.line.ensures.row f.down) }

pub returns : goal.returns
returns c =
    let a = c.args in
    let fx = c.ranges.x in
    let fy = c.ranges.y in
    let f = read_found (picture_of a.self.now) a.x a.y c.in_ok-column.column c.in_ok-column.row (simp to_z-of_z at c.in_ok-column.ensures) in
    f.answer c.get.result (rw c.line.ensures.row at c.get.ensures)
