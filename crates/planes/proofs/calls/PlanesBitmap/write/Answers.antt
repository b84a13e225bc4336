use Rattle.std.proofs.Common.{ℕ, nat_abs}
use Rattle.std.proofs.lemmas.Int.{to_z-of_z}
use Rattle.raster.specs.Calls.{write_at}
use Rattle.raster.proofs.Called.{place_refused, call_refused, write_found}
use Rattle.planes.specs.Means.{picture_of, PlanesKept}
use Rattle.planes.specs.Keep.{planes_same}
use Rattle.planes.proofs.calls.PlanesBitmap.write.Goals as goal

pub returns-in_err-column : goal.returns-in_err-column
returns-in_err-column c =
    let a = c.args in
    let fx = c.ranges.x in
    let fy = c.ranges.y in
    call_refused picture_of PlanesKept a.self.now (planes_same a.self.now) (write_at a.x a.y a.v) _ _ c.from_residual.ensures.1
    (place_refused (picture_of a.self.now) _ _ (nat_abs a.x, nat_abs a.y) (simp to_z-of_z at c.in_err-column.ensures))

pub put-requires : goal.put-requires
put-requires c =
    let a = c.args in
    let fx = c.ranges.x in
    let fy = c.ranges.y in
    let f = write_found (picture_of a.self.now) a.x a.y a.v c.in_ok-column.column c.in_ok-column.row (simp to_z-of_z at c.in_ok-column.ensures) in
    record { line = c.line-line.ensures.words; pixel = (f.across, rw c.line-line.ensures.row f.down); small = f.small }

pub returns : goal.returns
returns c =
    let a = c.args in
    let s = a.self.now in
    let fx = c.ranges.x in
    let fy = c.ranges.y in
    let column : ℕ = c.in_ok-column.column in
    let row : ℕ = c.in_ok-column.row in
    let f = write_found (picture_of s) a.x a.y a.v column row (simp to_z-of_z at c.in_ok-column.ensures) in
    record {
      answer = f.answer;
      after = f.after (picture_of c.put.new.self) (rw c.line-line.ensures.row at c.put.ensures.after);
      rest = c.put.ensures.rest;
      refused = tt;
    }
