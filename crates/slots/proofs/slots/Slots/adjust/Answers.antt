use Rattle.std.proofs.Common.{◌≡◌, ◌/◌, ⊎_elim, arith}
use Rattle.std.proofs.lemmas.Bool.{cases_eq}
use Rattle.std.proofs.lemmas.Result.{err_from_is_err_and}
use Rattle.slots.specs.Changes.{needed}
use Rattle.slots.proofs.Walks.{but_none, but_join, short_join}
use Rattle.slots.proofs.slots.Slots.adjust.Goals as goal

pub loop-d-init : goal.loop-d-init
loop-d-init c = but_none (needed c.args.change) _ c.args.self.now (λ k h l. absurd (omega arith))

pub returns-in_err-adjust_layer : goal.returns-in_err-adjust_layer
returns-in_err-adjust_layer c =
    let t = c.args.self.now in
    let q = c.args.change.after.now in
    let a = c.loop-d.invariant in
    rw (err_from_is_err_and c.from_residual.result c.from_residual.ensures.1).1
    (short_join (needed c.args.change) a.within a.within t c.loop-d.self a.adjusted c.in_err-adjust_layer.ensures)

pub loop-d-preserved : goal.loop-d-preserved
loop-d-preserved c =
    but_join (needed c.args.change) _ _ _ c.args.self.now c.loop-d.self c.adjust_layer.new.self c.loop-d.invariant c.in_ok-adjust_layer.ensures
    (λ k h below here l. ⊎_elim (λ (e : k / 300 ≡ c.loop-d.d). here e) (λ (ne : k / 300 ≡ c.loop-d.d → ⊥). below (omega arith)) (cases_eq (k / 300) c.loop-d.d))
