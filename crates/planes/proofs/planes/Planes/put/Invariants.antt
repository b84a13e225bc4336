use Rattle.std.proofs.Common.{◌≡◌}
use Rattle.planes.specs.Layout.{word_of}
use Rattle.planes.specs.Means.{words_of}
use Rattle.planes.proofs.Store.{Stored}
use Rattle.planes.proofs.planes.Planes.put.Given as goal

abbrev pub invariant-loop-j : goal.invariant-loop-j
invariant-loop-j l =
    let before = l.initial.self in
    record {
      size : l.self.size ≡ before.size;
      word : l.i ≡ word_of before.size.width before.size.height l.j l.x l.line.row;
      stored : Stored before.size (words_of before) (words_of l.self) l.x l.line.row l.v l.j;
    }
