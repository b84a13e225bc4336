use Rattle.std.proofs.Common.{◌≡◌, ℕ, ◌+◌, ◌-◌, ◌*◌, ◌^◌, ◌≤◌, List, length, vec_items, vec_len, sym, refl, ◌∙◌, subst, arith, pow_mono}
use borrow.Rule.Slice.PartMut.{put_mid}
use Rattle.std.specs.Vec.{with_items}
use Rattle.std.proofs.lemmas.List.{with_items_is, length-take, length-drop}
use Rattle.runrows.specs.Runs.{Settled}
use Rattle.runrows.specs.Rows.{RowWritten, row_room, row_put, written_rewrites}
use Rattle.runrows.proofs.Blend.{row_written}
use Rattle.runrows.proofs.runrows.RunRows.write_row.Goals as goal

pub write_runs-requires-clause-small : goal.write_runs-requires-clause-small
write_runs-requires-clause-small c =
    let most : 2 ^ c.args.self.now.size.depth ≤ 2 ^ 4 = pow_mono {j = 4} (omega arith) in
    λ k l. omega (arith, c.requires.small k l)

pub returns : goal.returns
returns c =
    let a = c.args in
    let s = a.self.now.size in
    let at : ℕ = a.y * s.width in
    let xs : List ℕ = c.deref_mut.result.now in
    let ys : List ℕ = c.write_runs.new.row in
    let fs : List ℕ = put_mid at (at + s.width - at) xs ys in
    let is : xs ≡ vec_items a.self.now.entries = c.deref_mut.ensures.value in
    let room : at + s.width ≤ length xs = omega (arith, row_room s (vec_len a.self.now.entries) a.y a.self.now.carried c.requires.down) in
    let l : length ys ≡ s.width = c.write_runs.auto.row ∙ simp (length-take, length-drop) (omega arith) in
    let holds = c.write_runs.ensures s.depth c.requires.small in
    let w : RowWritten s a.y a.pixels.now xs fs =
    row_put xs ys a.pixels.now s a.y room l (subst (λ (n : ℕ). Settled s.depth ys n) c.requires.long holds.settled) (λ k m. holds.value k (omega (arith, c.requires.long))) in
    let now : vec_items (with_items a.self.now.entries fs) ≡ fs = with_items_is a.self.now.entries fs (w.long ∙ c.deref_mut.ensures.len) in
    let written : RowWritten s a.y a.pixels.now (vec_items a.self.now.entries) (vec_items (with_items a.self.now.entries fs)) =
    subst (λ (es : List ℕ). RowWritten s a.y a.pixels.now es (vec_items (with_items a.self.now.entries fs))) is (subst (λ (gs : List ℕ). RowWritten s a.y a.pixels.now xs gs) (sym now) w) in
    rw (c.range-range.ensures.start, c.range-range.ensures.end) record {
      after = row_written s a.y a.pixels.now _ _ c.requires.down written;
      rest = record { size = refl; entries = written_rewrites s a.y a.pixels.now _ _ c.requires.down written };
    }
