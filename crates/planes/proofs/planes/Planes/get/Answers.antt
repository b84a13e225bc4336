use Rattle.std.proofs.Common.{◌≡◌, ◌+◌, ◌/◌, vec_len, refl, get_or, ap, ◌∙◌, ap₂, arith}
use Rattle.std.proofs.lemmas.Grind.{common_steps}
use Rattle.planes.specs.declared.words.Line.{Line}
use Rattle.planes.specs.Means.{words_of}
use Rattle.planes.proofs.Store.{word_first, word_there, word_next, plane_below, read_none, read_more}
use Rattle.planes.proofs.planes.Planes.get.Goals as goal

pub loop-j-init : goal.loop-j-init
loop-j-init c =
    let a = c.args in
    let p = a.self.now in
    record {
      word = ap (λ n. a.line.first + n) c.from.ensures ∙ ap (λ (l : Line). l.first + a.x / 32) c.requires.line ∙ word_first p.size.width p.size.height a.x a.line.row;
      value = read_none (words_of p) p.size.width p.size.height a.x a.line.row;
    }

pub index-requires : goal.index-requires
index-requires c =
    let a = c.args in
    let p = a.self.now in
    let deep = ap (λ (l : Line). l.depth) c.requires.line in
    word_there (vec_len p.words) c.loop-j.i p.size p.size c.loop-j.j a.x a.line.row refl p.carried c.loop-j.invariant.word (omega arith) c.requires.pixel.0 c.requires.pixel.1

pub overflow_add-v : goal.overflow_add-v
overflow_add-v c =
    let a = c.args in
    let p = a.self.now in
    let l = c.loop-j in
    let deep = ap (λ (l : Line). l.depth) c.requires.line in
    let room = word_there (vec_len p.words) l.i p.size p.size l.j a.x a.line.row refl p.carried l.invariant.word (omega arith) c.requires.pixel.0 c.requires.pixel.1 in
    let word : c.index.result.now ≡ get_or (words_of p) l.i 0 = grind (arith, common_steps) in
    omega (
      arith,
      read_more (words_of p) p.size.width p.size.height a.x a.line.row l.j l.v c.index.result.now (omega arith) l.invariant.value
          (word ∙ ap (λ i. get_or (words_of p) i 0) l.invariant.word),
    )

pub overflow_add-i-in-loop-j : goal.overflow_add-i-in-loop-j
overflow_add-i-in-loop-j c =
    let a = c.args in
    let p = a.self.now in
    let l = c.loop-j in
    let deep = ap (λ (l : Line). l.depth) c.requires.line in
    let plane = ap (λ (l : Line). l.plane) c.requires.line in
    let room = word_there (vec_len p.words) l.i p.size p.size l.j a.x a.line.row refl p.carried l.invariant.word (omega arith) c.requires.pixel.0 c.requires.pixel.1 in
    omega (arith, room, plane, plane_below (vec_len p.words) p.size p.carried)

pub loop-j-preserved : goal.loop-j-preserved
loop-j-preserved c =
    let a = c.args in
    let p = a.self.now in
    let l = c.loop-j in
    let deep = ap (λ (l : Line). l.depth) c.requires.line in
    let room = word_there (vec_len p.words) l.i p.size p.size l.j a.x a.line.row refl p.carried l.invariant.word (omega arith) c.requires.pixel.0 c.requires.pixel.1 in
    let word : c.index.result.now ≡ get_or (words_of p) l.i 0 = grind (arith, common_steps) in
    record {
      word = ap₂ (λ i plane. i + plane) l.invariant.word (ap (λ (l : Line). l.plane) c.requires.line) ∙ word_next p.size.width p.size.height l.j a.x a.line.row;
      value = (read_more (words_of p) p.size.width p.size.height a.x a.line.row l.j l.v c.index.result.now (omega arith) l.invariant.value
          (word ∙ ap (λ i. get_or (words_of p) i 0) l.invariant.word)).0;
    }
