use Rattle.std.proofs.Common.{◌≡◌, ◌+◌, ◌/◌, vec_len, get_or, refl, ap, ◌∙◌, ap₂, arith}
use Rattle.std.proofs.lemmas.Grind.{common_steps}
use Rattle.std.proofs.lemmas.Nat.Bits.{shr_and_one}
use Rattle.planes.specs.declared.words.Line.{Line}
use Rattle.planes.specs.Means.{words_of}
use Rattle.planes.proofs.Store.{word_first, word_there, word_next, plane_below, stored_none, stored_more, stored_kept, stored_picture}
use Rattle.planes.proofs.planes.Planes.put.Goals as goal

pub loop-j-init : goal.loop-j-init
loop-j-init c =
    let a = c.args in
    let s = a.self.now.size in
    record {
      size = refl;
      word = ap (λ n. a.line.first + n) c.from.ensures ∙ ap (λ (l : Line). l.first + a.x / 32) c.requires.line ∙ word_first s.width s.height a.x a.line.row;
      stored = stored_none s (words_of a.self.now) a.x a.line.row a.v;
    }

pub index-requires : goal.index-requires
index-requires c =
    let a = c.args in
    let l = c.loop-j in
    let deep = ap (λ (l : Line). l.depth) c.requires.line in
    word_there (vec_len l.self.words) l.i a.self.now.size l.self.size l.j a.x a.line.row l.invariant.size l.self.carried l.invariant.word (omega arith) c.requires.pixel.0 c.requires.pixel.1

pub index_mut-requires : goal.index_mut-requires
index_mut-requires c =
    let a = c.args in
    let l = c.loop-j in
    let deep = ap (λ (l : Line). l.depth) c.requires.line in
    word_there (vec_len l.self.words) l.i a.self.now.size l.self.size l.j a.x a.line.row l.invariant.size l.self.carried l.invariant.word (omega arith) c.requires.pixel.0 c.requires.pixel.1

pub overflow_add-i-in-loop-j : goal.overflow_add-i-in-loop-j
overflow_add-i-in-loop-j c =
    let a = c.args in
    let p = a.self.now in
    let l = c.loop-j in
    let deep = ap (λ (l : Line). l.depth) c.requires.line in
    let plane = ap (λ (l : Line). l.plane) c.requires.line in
    let room = word_there (vec_len l.self.words) l.i p.size l.self.size l.j a.x a.line.row l.invariant.size l.self.carried l.invariant.word (omega arith) c.requires.pixel.0 c.requires.pixel.1 in
    omega (arith, room, plane, plane_below (vec_len p.words) p.size p.carried)

pub loop-j-preserved : goal.loop-j-preserved
loop-j-preserved c =
    let a = c.args in
    let p = a.self.now in
    let l = c.loop-j in
    let at = c.requires.pixel in
    let deep = ap (λ (l : Line). l.depth) c.requires.line in
    let room = word_there (vec_len l.self.words) l.i p.size l.self.size l.j a.x a.line.row l.invariant.size l.self.carried l.invariant.word (omega arith) at.0 at.1 in
    let word : c.index.result.now ≡ get_or (words_of l.self) l.i 0 = grind (arith, common_steps) in
    record {
      size = l.invariant.size;
      word = ap₂ (λ i plane. i + plane) l.invariant.word (ap (λ (l : Line). l.plane) c.requires.line) ∙ word_next p.size.width p.size.height l.j a.x a.line.row;
      stored = stored_more p.size (words_of p) (words_of l.self) a.x a.line.row a.v at.0 at.1 l.j l.i c.put_bit.result
          (omega arith) l.invariant.stored l.invariant.word (omega arith) (c.put_bit.ensures.here ∙ shr_and_one a.v l.j) (rw word at c.put_bit.ensures.others);
    }

pub returns : goal.returns
returns c =
    let a = c.args in
    let p = a.self.now in
    let l = c.loop-j in
    let deep = ap (λ (l : Line). l.depth) c.requires.line in
    let e : l.j ≡ p.size.depth = omega arith in
    let t = rw e at l.invariant.stored in
    record {
      after = rw l.invariant.size (stored_picture p.size (words_of p) (words_of l.self) a.x a.line.row a.v c.requires.pixel.0 c.requires.pixel.1 c.requires.small t);
      rest = record { size = l.invariant.size; words = stored_kept p.size (words_of p) (words_of l.self) a.x a.line.row a.v c.requires.pixel.0 c.requires.pixel.1 t };
    }
