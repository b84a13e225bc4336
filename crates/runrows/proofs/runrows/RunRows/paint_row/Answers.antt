use Rattle.std.proofs.Common.{◌≡◌, length, ◌∙◌, rules}
use Rattle.std.proofs.lemmas.List.{places}
use Rattle.runrows.specs.Means.{picture_of}
use Rattle.runrows.specs.Keep.{rows_sound}
use Rattle.runrows.proofs.Blend.{blended_fits, row_blended}
use Rattle.runrows.proofs.runrows.RunRows.paint_row.Goals as goal

pub write_row-requires-clause-small : goal.write_row-requires-clause-small
write_row-requires-clause-small c =
    let a = c.args in
    let s = a.self.now in
    let long : length c.blend.new.out ≡ s.size.width = search (rules, places) in
    blended_fits (picture_of s) a.blit a.y a.sy c.source.new.out c.unpack.new.out c.blend.new.out (rows_sound s) c.requires.columns long c.source.ensures c.unpack.ensures c.blend.ensures

pub returns-clause-after : goal.returns-clause-after
returns-clause-after c =
    let a = c.args in
    let s = a.self.now in
    let long : length c.blend.new.out ≡ s.size.width = search (rules, places) in
    c.write_row.ensures.after
    ∙ row_blended (picture_of s) a.blit a.y a.sy c.source.new.out c.unpack.new.out c.blend.new.out (rows_sound s) c.requires.columns long c.source.ensures c.unpack.ensures c.blend.ensures
