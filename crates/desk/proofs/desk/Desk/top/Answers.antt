use Rattle.std.proofs.Common.{◌≡◌, true, false, nat_abs, is_ok, Ok, Err, sym, ap, ◌∙◌, rules}
use Rattle.std.proofs.lemmas.Int.{to_z-of_z}
use Rattle.raster.specs.Picture.{Picture, sizes}
use Rattle.raster.specs.Blt.{inside}
use Rattle.raster.specs.declared.refusal.Refusal.TheVariants.{OutsideBitmap}
use Rattle.paper.specs.Desk.{unnamed}
use Rattle.desk.proofs.Fits.{place_test, top_off, top_fits, top_other}
use Rattle.desk.proofs.desk.Desk.top.Goals as goal

pub returns-in_err-map_err : goal.returns-in_err-map_err
returns-in_err-map_err g c =
    let a = c.args in
    let d = a.self.now in
    let fx = c.ranges.x in
    let fy = c.ranges.y in
    let s : Picture = g.S.Bitmap.picture d.screen in
    let test : false ≡ inside (sizes s) a.x a.y =
    ap is_ok (sym c.in_err-map_err.was) ∙ c.map_err.ensures.variant ∙ place_test c.size-screen.result (sizes s) a.x a.y (nat_abs a.x, nat_abs a.y) c.read_place.result (simp to_z-of_z at c.read_place.ensures) c.size-screen.ensures in
    let own : c.from_residual.result ≡ Err (unnamed OutsideBitmap) = search rules in
    own ∙ sym (top_off s (g.T.Bitmap.picture d.store) d.book a.x a.y (sym test))

pub returns-then-not-suits : goal.returns-then-not-suits
returns-then-not-suits g c =
    let a = c.args in
    let d = a.self.now in
    let fx = c.ranges.x in
    let fy = c.ranges.y in
    let s : Picture = g.S.Bitmap.picture d.screen in
    let test : true ≡ inside (sizes s) a.x a.y =
    ap is_ok (sym c.in_ok-map_err.was) ∙ c.map_err.ensures.variant ∙ place_test c.size-screen.result (sizes s) a.x a.y (nat_abs a.x, nat_abs a.y) c.read_place.result (simp to_z-of_z at c.read_place.ensures) c.size-screen.ensures in
    sym (top_other s (g.T.Bitmap.picture d.store) d.book a.x a.y (sym test) (sym (c.if-not-suits.ensures c.size-screen.ensures)))

pub returns : goal.returns
returns g c =
    let a = c.args in
    let d = a.self.now in
    let fx = c.ranges.x in
    let fy = c.ranges.y in
    let s : Picture = g.S.Bitmap.picture d.screen in
    let test : true ≡ inside (sizes s) a.x a.y =
    ap is_ok (sym c.in_ok-map_err.was) ∙ c.map_err.ensures.variant ∙ place_test c.size-screen.result (sizes s) a.x a.y (nat_abs a.x, nat_abs a.y) c.read_place.result (simp to_z-of_z at c.read_place.ensures) c.size-screen.ensures in
    ap Ok (simp to_z-of_z at c.top.ensures)
    ∙ sym (top_fits s (g.T.Bitmap.picture d.store) d.book a.x a.y (sym test) (sym (c.if-not-suits.ensures c.size-screen.ensures)))
