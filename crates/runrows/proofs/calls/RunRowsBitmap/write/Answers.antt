use Rattle.std.proofs.Common.{ℕ, nat_abs}
use Rattle.std.proofs.lemmas.Int.{to_z-of_z}
use Rattle.raster.specs.Calls.{write_at}
use Rattle.raster.proofs.Called.{place_refused, write_found}
use Rattle.runrows.specs.Means.{picture_of}
use Rattle.runrows.specs.Keep.{rewritten_as}
use Rattle.runrows.proofs.Called.{call_refused, call_accepted}
use Rattle.runrows.proofs.calls.RunRowsBitmap.write.Goals as goal

pub returns-in_err-column : goal.returns-in_err-column
returns-in_err-column c =
    let a = c.args in
    let fx = c.ranges.x in
    let fy = c.ranges.y in
    call_refused a.self.now _ _ _ c.from_residual.ensures.1
    (place_refused (picture_of a.self.now) (write_at a.x a.y a.v) _ (nat_abs a.x, nat_abs a.y) (simp to_z-of_z at c.in_err-column.ensures))

pub put-requires : goal.put-requires
put-requires c =
    let a = c.args in
    let fx = c.ranges.x in
    let fy = c.ranges.y in
    let f = write_found (picture_of a.self.now) a.x a.y a.v c.in_ok-column.column c.in_ok-column.row (simp to_z-of_z at c.in_ok-column.ensures) in
    record { across = f.across; down = f.down; small = f.small }

pub returns : goal.returns
returns c =
    let a = c.args in
    let s = a.self.now in
    let fx = c.ranges.x in
    let fy = c.ranges.y in
    let column : ℕ = c.in_ok-column.column in
    let row : ℕ = c.in_ok-column.row in
    let f = write_found (picture_of s) a.x a.y a.v column row (simp to_z-of_z at c.in_ok-column.ensures) in
    let kept = rewritten_as s c.put.new.self _ _ f.rows c.put.ensures.rest in
    call_accepted s c.put.new.self _ 0 f.answer (f.after _ c.put.ensures.after) kept
