use Rattle.std.proofs.Common.{◌≡◌, ◌/◌, sym}
use Rattle.slots.specs.Blocks.{in_block}
use Rattle.slots.specs.Walks.{InLayer, Clear}
use Rattle.slots.specs.Changes.{needed}
use Rattle.slots.proofs.Walks.{but_none, but_both, layer_clear, layer_shut}
use Rattle.slots.proofs.slots.Slots.adjust_layer.Goals as goal

pub returns-then-not-is_open : goal.returns-then-not-is_open
returns-then-not-is_open c =
    let a = c.args in
    but_none (needed a.change) _ a.self.now (λ k _ e i. absurd (layer_shut a.change.after.now a.c a.d k c.if-d-c.true (sym c.if-not-is_open.ensures) e i))

pub returns : goal.returns
returns c =
    let a = c.args in
    let q = a.change.after.now in
    let one = c.patches_met.result in
    let two = c.patches_met-2.result in
    let P = in_block one.first one.columns one.rows in
    let Q = in_block two.first two.columns two.rows in
    but_both (needed a.change) (λ k. k / 300 ≡ a.d → InLayer q a.c k → Clear q a.c a.area k) P a.self.now c.adjust_block.new.self c.adjust_block-2.new.self
    c.in_ok-adjust_block.ensures Q
    (λ k _ p r. layer_clear q a.c a.d a.area c.frame-own.result c.frame-frame.result P Q c.frame-frame.ensures c.frame-own.ensures c.patches_met.ensures
    c.patches_met-2.ensures k p r)
    c.adjust_block-2.result c.adjust_block-2.ensures
