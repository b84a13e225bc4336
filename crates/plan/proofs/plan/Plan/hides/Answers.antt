use Rattle.std.proofs.Common.{◌/◌, ◌%◌, ◌&&◌, sym, ap, ◌∙◌}
use Rattle.std.proofs.lemmas.Bool.{lt-ltb, and_right}
use Rattle.plan.specs.Plans.{listed, hidden_patch}
use Rattle.plan.proofs.Patches.{hidden_closed, hidden_at}
use Rattle.plan.proofs.plan.Plan.hides.Goals as goal

pub returns-else-is_open : goal.returns-else-is_open
returns-else-is_open c =
    let p = c.args.self.now in
    let k = c.args.patch in
    let listed_now = simp c.corner-c.ensures at c.if-is_open.ensures in
    c.if-is_open.false ∙ sym (and_right _ _ (hidden_closed p.screen p.frames (k / 300) (k % 300 % 20) (k % 300 / 20) (listed p) (sym listed_now)))

pub returns-then-is_open : goal.returns-then-is_open
returns-then-is_open c =
    let p = c.args.self.now in
    let k = c.args.patch in
    let listed_now = simp c.corner-c.ensures at c.if-is_open.ensures in
    let area = simp c.corner-c.ensures at c.hides_area.ensures in
    area ∙ sym (hidden_at p.screen p.frames (k / 300) (k % 300 % 20) (k % 300 / 20) (listed p) (sym listed_now))
    ∙ ap (λ b. b && hidden_patch p k) (sym (lt-ltb k 2400 c.if-patch-ge2400.false))
