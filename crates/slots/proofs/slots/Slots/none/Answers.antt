use Rattle.std.proofs.Common.{◌≡◌, ℕ, ◌<◌, ◌≤◌, min, replicate, sym, ap, ◌∙◌, ⊎_elim, arith}
use Rattle.std.specs.Prelude.{None, Option, is_some}
use Rattle.std.proofs.lemmas.List.{get_or-replicate, get_or_past, length-replicate}
use Rattle.std.proofs.lemmas.Bool.{cases_lt}
use Rattle.std.proofs.lemmas.Option.{none-some}
use Rattle.slots.specs.Entries.{entry}
use Rattle.slots.proofs.Counts.{counted_none}
use Rattle.slots.proofs.slots.Slots.none.Goals as goal

few : (n m : ℕ) → m ≡ min n 4096 → m ≤ 4096
few n m e = omega arith

-- in a list of none, and beyond it, no patch has a slot
none_of : (n k : ℕ) → entry (replicate n None) k ≡ None
none_of n k =
    ⊎_elim
    (λ (l : k < n). get_or-replicate n k None None l)
    (λ (l : n ≤ k). get_or_past (replicate n None) k None (let e = length-replicate {A = Option ℕ} n None in omega arith))
    (cases_lt k n)

no_entry : (k : ℕ) → entry (replicate 2400 None) k ≡ None
no_entry = none_of 2400

pub invariant_of-result : goal.invariant_of-result
invariant_of-result c =
    let m = few _ _ c.min.ensures in
    let order = c.in_order.ensures in
    record {
      room = m;
      most = omega arith;
      count = sym (counted_none _ 2400 (λ k _. ap is_some (no_entry k)));
      low = λ k s e. absurd (none-some s (sym (no_entry k) ∙ e));
      apart = λ p q t. absurd (none-some t.slot (sym (no_entry p) ∙ t.one));
      there = λ i s. let b = s.below in let e = order i (omega arith) in omega arith;
      free = λ i k r. none-some _ (sym (no_entry k) ∙ r.same);
      once = λ i j d. let a = d.one.below in let b = d.other.below in let e = order i (omega arith) in let f = order j (omega arith) in let s = d.same in omega arith;
    }

pub returns-clause-empty : goal.returns-clause-empty
returns-clause-empty c = λ k _. ap is_some (no_entry k)
