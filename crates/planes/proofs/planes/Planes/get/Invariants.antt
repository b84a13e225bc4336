use Rattle.std.proofs.Common.{◌≡◌}
use Rattle.planes.specs.Layout.{word_of, pixel}
use Rattle.planes.specs.Means.{words_of}
use Rattle.planes.proofs.planes.Planes.get.Given as goal

abbrev pub invariant-loop-j : goal.invariant-loop-j
invariant-loop-j l =
    let s = l.self.size in
    record {
      word : l.i ≡ word_of s.width s.height l.j l.x l.line.row;
      value : l.v ≡ pixel (words_of l.self) s.width s.height l.j l.x l.line.row;
    }
