use Rattle.std.proofs.Common.{◌≡◌, ℕ, ◌+◌, ◌-◌, ◌<◌, ◌≤◌, List, length, get_or, refl, subst, ⊎_elim, arith}
use borrow.Rule.Slice.PartMut.{put_mid}
use Rattle.std.proofs.lemmas.List.{get_or_past}
use Rattle.std.proofs.lemmas.Bool.{cases_lt}
use Rattle.runrows.specs.Runs.{Runs}
use Rattle.runrows.specs.Writing.{Spelt}
use Rattle.runrows.specs.Spell.{add_more, entry_short, runs_kept, spelt_kept, runs_fit, spells}
use Rattle.runrows.proofs.Filled.{filled_length, filled_before, filled_within}
use Rattle.runrows.proofs.writes.write_runs.Goals as goal

pub add_pixel-n-requires-clause-small : goal.add_pixel-n-requires-clause-small
add_pixel-n-requires-clause-small c = omega (arith, c.requires.small c.loop-pixel.pixel-index c.loop-pixel-test.true)

pub add_pixel-n-requires-clause-short : goal.add_pixel-n-requires-clause-short
add_pixel-n-requires-clause-short c = λ k l. omega (arith, entry_short 4 c.loop-pixel.row c.loop-pixel.n c.loop-pixel.pixel-index k c.loop-pixel.invariant.0 l)

pub loop-pixel-preserved : goal.loop-pixel-preserved
loop-pixel-preserved c =
    let few = c.requires.small c.loop-pixel.pixel-index c.loop-pixel-test.true in
    add_more 4 c.loop-pixel.row c.add_pixel-n.new.row c.args.pixels.now c.loop-pixel.n c.add_pixel-n.result (get_or c.args.pixels.now c.loop-pixel.pixel-index 0)
    c.loop-pixel.pixel-index few (omega (arith, few)) refl c.loop-pixel.invariant.0 c.loop-pixel.invariant.1 c.loop-pixel.invariant.2 (omega arith) c.add_pixel-n.ensures

pub returns : goal.returns
returns c =
    let l = c.loop-pixel in
    let w : ℕ = length c.args.pixels.now in
    let e : l.pixel-index ≡ w = omega arith in
    let m : ℕ = length l.row - l.n in
    let fs : List ℕ = put_mid l.n m l.row c.fill.new.self in
    let room : l.n + m ≤ length l.row = omega (arith, l.invariant.2) in
    let zeros = c.fill.ensures.after (λ y q. q) in
    let long : length fs ≡ length l.row = filled_length l.row c.fill.new.self l.n m 0 room zeros in
    let kept = filled_before l.row c.fill.new.self l.n m 0 room zeros in
    let r : Runs 4 fs l.n w = subst (λ (n : ℕ). Runs 4 fs l.n n) e (runs_kept 4 l.row fs l.n l.pixel-index long kept l.invariant.0) in
    let s : Spelt fs l.n c.args.pixels.now = spelt_kept l.row fs c.args.pixels.now l.n kept l.invariant.1 in
    λ depth fit.
    let q = runs_fit 4 depth fs c.args.pixels.now l.n w r s fit in
    record {
      settled = (
        l.n,
        q,
        λ k h.
            ⊎_elim (λ (b : k < length l.row). filled_within l.row c.fill.new.self l.n m 0 room zeros k h (omega arith))
            (λ (p : length l.row ≤ k). get_or_past fs k 0 (omega (arith, long))) (cases_lt k (length l.row)),
      );
      value = spells depth fs c.args.pixels.now l.n w q s;
    }
