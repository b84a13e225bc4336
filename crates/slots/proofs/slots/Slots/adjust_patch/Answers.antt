use Rattle.std.proofs.Common.{◌≡◌, false, sym, arith}
use Rattle.std.proofs.lemmas.Bool.Decides.{nat_tests}
use Rattle.std.proofs.lemmas.Grind.{common_steps}
use Rattle.std.proofs.lemmas.Result.{err_from_is_err_and}
use Rattle.slots.specs.Tables.{has_slot}
use Rattle.slots.proofs.Walks.{short_here}
use Rattle.slots.proofs.slots.Slots.adjust_patch.Goals as goal

pub returns-in_err-grant-in-false-true : goal.returns-in_err-grant-in-false-true
returns-in_err-grant-in-false-true g c =
    let t = c.args.self.now in
    let k = c.args.patch in
    let none = c.in-false-true.ensures in
    let need = c.in-false-true.ensures' in
    let slot = c.slot.ensures in
    let e : has_slot t k ≡ false = grind (arith, nat_tests, common_steps) in
    rw (err_from_is_err_and c.from_residual.result c.from_residual.ensures.1).1
    (short_here (g.W.Wanted.wanted c.args.wanted.now) t k c.requires e (sym need)
    c.in_err-grant-in-false-true.ensures.full)
