use Rattle.std.proofs.Common.{◌≡◌, length, set, sym, ap, ◌∙◌, arith, rules}
use Rattle.std.specs.Prelude.{None}
use Rattle.std.proofs.lemmas.List.{set-get_or}
use Rattle.slots.proofs.Spares.{back_some, back_count, back_low, back_apart, back_there, back_free, back_once}
use Rattle.slots.proofs.slots.Slots.give_back.Goals as goal

pub overflow_sub-self : goal.overflow_sub-self
overflow_sub-self c =
    let t = c.args.self.now in
    let long : length t.table ≡ 2400 = search rules in
    let wide : length t.spare ≡ 4096 = search rules in
    omega (arith, back_some t c.args.patch c.requires long c.in-Some.slot (sym c.take.ensures.value ∙ c.in-Some.is) wide)

pub invariant_of-self : goal.invariant_of-self
invariant_of-self c =
    let t = c.args.self.now in
    let k = c.args.patch in
    let h = c.requires in
    let long : length t.table ≡ 2400 = search rules in
    let wide : length t.spare ≡ 4096 = search rules in
    let own = c.in-Some.slot in
    let had = sym c.take.ensures.value ∙ c.in-Some.is in
    let most = t.most in
    record {
      room = t.room;
      most = omega arith;
      count = rw c.take.ensures.after (back_count t k h long own had wide);
      low = rw c.take.ensures.after (back_low t k h long own had wide);
      apart = rw c.take.ensures.after (back_apart t k h long own had wide);
      there = back_there t k h long own had wide;
      free = rw c.take.ensures.after (back_free t k h long own had wide);
      once = back_once t k h long own had wide;
    }

-- a patch without a slot: the table stays
pub invariant_of-self-in_default : goal.invariant_of-self-in_default
invariant_of-self-in_default c =
    let t = c.args.self.now in
    let k = c.args.patch in
    let none = c.take.ensures.after ∙ sym c.in_default.is ∙ c.take.ensures.value in
    let same : set t.table k c.take.new.self ≡ t.table = ap (set t.table k) none ∙ set-get_or t.table k None in
    record {
      room = t.room;
      most = t.most;
      count = rw same t.count;
      low = rw same t.low;
      apart = rw same t.apart;
      there = t.there;
      free = rw same t.free;
      once = t.once;
    }
