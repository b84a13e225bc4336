use Rattle.std.proofs.Common.{◌≡◌, ◌<◌, length, arith, rules}
use Rattle.slots.proofs.Spares.{taken_count, taken_low, taken_apart, taken_there, taken_free, taken_once}
use Rattle.slots.proofs.slots.Slots.grant.Goals as goal

pub invariant_of-self : goal.invariant_of-self
invariant_of-self c =
    let t = c.args.self.now in
    let k = c.args.patch in
    let h = c.requires.there in
    let long : length t.table ≡ 2400 = search rules in
    let none = c.requires.none in
    let left : t.used < t.places = omega (arith, c.if-self.false) in
    record {
      room = t.room;
      most = omega arith;
      count = taken_count t k h long none left;
      low = taken_low t k h long none left;
      apart = taken_apart t k h long none left;
      there = taken_there t k h long none left;
      free = taken_free t k h long none left;
      once = taken_once t k h long none left;
    }
