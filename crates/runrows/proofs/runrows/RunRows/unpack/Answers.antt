use Rattle.std.proofs.Common.{◌≡◌, ℕ, ◌+◌, ◌-◌, ◌<◌, ◌≤◌, List, length, drop, ◌∙◌, ⊎_elim, arith}
use Rattle.std.proofs.lemmas.Bool.{cases_lt}
use Rattle.std.proofs.lemmas.Grind.{common_steps}
use Rattle.runrows.specs.Runs.{run_at}
use Rattle.runrows.proofs.Filled.{filled_before, filled_within}
use Rattle.runrows.proofs.runrows.RunRows.unpack.Goals as goal
use Rattle.runrows.proofs.runrows.RunRows.unpack.Goals.{else-loop-entry-test, then-loop-entry-test+then-len-eq0}

pub loop-entry-preserved : goal.loop-entry-preserved
loop-entry-preserved c =
    let l = c.loop-entry in
    let len : ℕ = c.run-len.result.0 in
    let fill = c.fill_run-start.ensures in
    record {
      within = omega (arith, fill.long);
      done = λ k h.
          ⊎_elim (λ (b : k < l.start). fill.before k b ∙ l.invariant.done k b)
          (λ (b : l.start ≤ k). fill.run k b (omega arith) ∙ grind (arith, common_steps, l.invariant.ahead (k - l.start)))
          (cases_lt k l.start);
      ahead = λ k h. grind (arith, common_steps, l.invariant.ahead (len + k));
    }

pub returns : goal.returns
returns c =
    let l = c.loop-entry in
    let s = c.args.self.now in
    let depth : ℕ = s.size.depth in
    let row : List ℕ = c.row-row.result.now in
    let m : ℕ = length l.out - l.start in
    let room : l.start + m ≤ length l.out = omega arith in
    let fill = c.fill.ensures.after (λ y q. q) in
    let none : (k : ℕ) → run_at depth (drop l.entry-index row) k ≡ 0 =
    elim c.loop-entry-test.branch [ else-loop-entry-test w ↦ λ k. grind (arith, common_steps) | then-loop-entry-test+then-len-eq0 w ↦ λ k. grind (arith, common_steps) ] in
    λ k h.
    ⊎_elim (λ (b : k < l.start). filled_before l.out c.fill.new.self l.start m 0 room fill k b ∙ l.invariant.done k b)
    (λ (b : l.start ≤ k). filled_within l.out c.fill.new.self l.start m 0 room fill k b (omega arith) ∙ grind (arith, common_steps, l.invariant.ahead (k - l.start), none (k - l.start)))
    (cases_lt k l.start)
    ∙ grind (arith, common_steps)
