-- The worked examples, by computation.
use Rattle.std.proofs.Common.{◌≡◌, ℕ, suc, ◌+◌, ◌-◌, ◌*◌, ◌%◌, ◌<◌, get_or, ltb, eqb, not, refl, ap₂, arith}
use Rattle.std.proofs.lemmas.Bool.{ltb-true, eqb-false, not-true}
use Rattle.std.proofs.lemmas.List.{get_or_past}
use Rattle.raster.specs.Rules.{bit, result, combined}
use Rattle.raster.specs.Picture.{painted}
use Rattle.raster.specs.Blt.{concerned, count, blt}
use Rattle.raster.specs.Calls.{bitmap_fault, bitmap_answer, bitmap_after}
use Rattle.raster.proofs.Digits.{at_below, bit_below, of_two_bits}
use Rattle.planes.specs.Layout.{word_of}
use Rattle.runrows.specs.Runs.{run_len, Settled}
use Rattle.paper.proofs.Examples.{desk_examples}
use Rattle.worked.specs.Examples.{WorkedExamples, runs}

-- the complement of a source bit, whatever the destination bit, by one test
inverted : (s d : ℕ) → s < 2 → d < 2 → result 12 s d ≡ 1 - s
inverted s d ls ld = of_two_bits 12 (λ s d. 1 - s) refl s d ls ld

complement : (d : ℕ) → combined 2 12 1 d ≡ 2
unfolding combined
complement d =
    ap₂ (λ a b. 0 + a * 1 + b * 2) (inverted 1 (bit d 0) (omega arith) (bit_below d 0)) (inverted 0 (bit d 1) (omega arith) (bit_below d 1))

-- the row of runs: each run by one test of all three
settled : Settled 2 runs 4
settled = (
  3,
  record {
    within = omega arith;
    some = λ k l. ltb-true _ _ (at_below (λ k. ltb 0 (run_len runs k)) 3 refl k l);
    small = λ k l. ltb-true _ _ (at_below (λ k. ltb (get_or runs k 0 % 16) 4) 3 refl k l);
    differ = λ k l. eqb-false _ _ (not-true _ (at_below (λ k. not (eqb (get_or runs k 0 % 16) (get_or runs (suc k) 0 % 16))) 2 refl k (omega arith)));
    sum = refl;
  },
  λ k l. grind (arith, get_or_past),
)

pub worked_examples_lem : WorkedExamples
unfolding combined painted concerned count blt bitmap_fault bitmap_answer bitmap_after word_of
worked_examples_lem =
    record {
      complement = complement;
      fill_clipped = refl;
      onward = refl;
      onward_count = refl;
      cut = refl;
      cut_count = refl;
      far_word = λ h. omega arith;
      far_bit = refl;
      run_row = settled;
      run_pixels = refl;
      on_desks = desk_examples;
    }
