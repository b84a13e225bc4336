use Rattle.std.proofs.Common.{rules, nat_abs, ◌+◌, [], ◌∷◌, FitsSigned, w16, to_z, of_z, pos, ap₂, to_z-of_z, ◌≡◌, ◌<◌, refl, sym, subst, ap, ◌∙◌, arith}
use Rattle.std.specs.Fmt.{HasWritten}
use Rattle.std.proofs.Output.{has_written_append, has_written_of_eq}
use Rattle.std.proofs.lemmas.Int.{to_z_pos}
use Rattle.raster.specs.Calls.{read_at, bitmap_answer}
use Rattle.raster.specs.Printed.{digit}
use Rattle.raster.proofs.Printed.{so_far, read_there, read_gone, digit_char, pixel_small, printed_more, printed_none}
use Rattle.raster.proofs.row.RowDisplay.fmt.Goals.{in-Ok+in_ok-write_char, in_default}
use Rattle.raster.proofs.row.RowDisplay.fmt.Goals as goal

pub loop-x-preserved : goal.loop-x-preserved
loop-x-preserved g c =
    let row = c.args.self.now in
    let p = g.B.Bitmap.picture row.0.now in
    let took = g.W.Write.write_str_gives in
    let x = c.loop-x.x in
    let wide = ap (λ s. s.width) c.size.ensures in
    let end = c.min-x-end.ensures in
    let here = c.loop-x-test.true in
    let across : x < p.width = omega arith in
    let fits : FitsSigned w16 row.1 = search rules in
    let asked : bitmap_answer p (read_at (to_z w16 x) (to_z w16 (of_z w16 row.1))) ≡ bitmap_answer p (read_at (pos x) row.1) = ap₂ (λ a b. bitmap_answer p (read_at a b)) (to_z_pos w16 x (omega arith)) (to_z-of_z fits) in
    λ plain.
    let before = c.loop-x.invariant plain in
    elim c.match-read.branch [
      | in-Ok+in_ok-write_char w ↦
          let there = read_there p row.1 x across w.in-Ok.v (w.in-Ok.ensures ∙ asked) in
          let small = pixel_small p (g.met.B.Bitmap.sound row.0.now) x (nat_abs row.1) in
          let char = digit_char w.in-Ok.v w.digit.result (omega (arith, small, there.1)) w.digit.ensures in
          subst (λ f. HasWritten took c.args.f.now (so_far p row.1 (x + 1)) f) (sym w.f-is)
          (has_written_of_eq took _ _ _ _ (printed_more p row.1 x w.digit.result there.0 (char ∙ ap (λ v. digit v ∷ []) there.1))
          (has_written_append took _ _ _ _ _ before (w.in_ok-write_char.ensures.writes before.plain refl)))
      | in_default w ↦
          subst (λ f. HasWritten took c.args.f.now (so_far p row.1 (x + 1)) f) (sym w.f-is)
          (has_written_of_eq took _ _ _ _ (printed_none p row.1 x (read_gone p row.1 x across w.in_default.field-0 (w.in_default.ensures ∙ asked))) before)
    ]
