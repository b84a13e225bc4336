use Rattle.std.proofs.Common.{◌≡◌, length, ◌∙◌, rules}
use Rattle.std.proofs.lemmas.List.{places}
use Rattle.runrows.specs.Means.{picture_of}
use Rattle.runrows.specs.Keep.{rows_sound}
use Rattle.runrows.proofs.Blend.{set_fits, row_set}
use Rattle.runrows.proofs.runrows.RunRows.put.Goals as goal

pub write_row-requires-clause-small : goal.write_row-requires-clause-small
write_row-requires-clause-small c =
    let a = c.args in
    let s = a.self.now in
    let long : length c.unpack.new.out ≡ s.size.width = search (rules, places) in
    set_fits (picture_of s) a.x a.y a.v c.unpack.new.out c.requires.across long c.unpack.ensures c.requires.small (rows_sound s)

pub returns-clause-after : goal.returns-clause-after
returns-clause-after c =
    let a = c.args in
    let s = a.self.now in
    let long : length c.unpack.new.out ≡ s.size.width = search (rules, places) in
    c.write_row.ensures.after ∙ row_set (picture_of s) a.x a.y a.v c.unpack.new.out c.requires.across long c.unpack.ensures
