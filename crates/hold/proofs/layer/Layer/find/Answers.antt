use Rattle.std.proofs.Common.{ℕ, ◌+◌, ◌%◌, ◌<◌, Some, sym, ap, ◌∙◌, ap₂, subst}
use Rattle.std.proofs.lemmas.Option.{none-some}
use Rattle.hold.specs.declared.spot.Spot.TheVariants.{Store}
use Rattle.hold.specs.Spots.{slot_x, slot_y}
use Rattle.hold.proofs.Finds.{found_seen, found_unseen, found_slot, found_corner, found_stored}
use Rattle.hold.proofs.layer.Layer.find.Goals as goal

pub returns-in-Some : goal.returns-in-Some
returns-in-Some c =
    let a = c.args in
    λ screen store f w o. found_seen a.width a.self a.u a.v c.in-Some.x c.in-Some.y c.in-Some.ensures

pub returns-in_err-slot : goal.returns-in_err-slot
returns-in_err-slot c =
    let a = c.args in
    λ screen store f w o.
    let off = found_unseen a.width a.self a.u a.v c.in_default.ensures in
    let slot = c.slot.ensures ∙ found_slot a.width a.self a.u a.v screen store f w o off c.in_ok-patch.field-0 c.in_ok-patch.ensures.1 in
    absurd (none-some _ (sym c.in_err-slot.was ∙ slot))

pub returns-in_err-x : goal.returns-in_err-x
returns-in_err-x c =
    let a = c.args in
    λ screen store f w o.
    let off = found_unseen a.width a.self a.u a.v c.in_default.ensures in
    let slot = c.slot.ensures ∙ found_slot a.width a.self a.u a.v screen store f w o off c.in_ok-patch.field-0 c.in_ok-patch.ensures.1 in
    let was = c.in_ok-slot.was in
    let corner = found_corner a.width a.self a.u a.v screen store f w o off in
    absurd (c.in_err-x.ensures (corner.0, subst (λ s. s < 4096) (cc) corner.1))

pub returns : goal.returns
returns c =
    let a = c.args in
    λ screen store f w o.
    let off = found_unseen a.width a.self a.u a.v c.in_default.ensures in
    let slot = c.slot.ensures ∙ found_slot a.width a.self a.u a.v screen store f w o off c.in_ok-patch.field-0 c.in_ok-patch.ensures.1 in
    let was = c.in_ok-slot.was in
    let corner = c.in_ok-x.ensures.1 in
    ap₂ (λ (x y : ℕ). Some (Store (x + a.u % 16) (y + a.v % 16))) (ap (λ (q : ℕ × ℕ). q.0) corner) (ap (λ (q : ℕ × ℕ). q.1) corner)
    ∙ ap (λ (s : ℕ). Some (Store (slot_x a.width s + a.u % 16) (slot_y a.width s + a.v % 16))) (cc)
    ∙ ap Some (found_stored a.width a.self a.u a.v off)
