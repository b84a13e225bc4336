-- The patches that an area meets are in its block.
use Rattle.std.proofs.Common.{◌≡◌, ℕ, ◌+◌, ◌-◌, ◌*◌, ◌/◌, ◌%◌, ◌<◌, true, eqb, ℤ, subst, arith}
use Rattle.std.specs.declared.ops.Range.{Range}
use Rattle.std.proofs.lemmas.Bool.{and_parts, eq-eqb}
use Rattle.raster.specs.declared.rectangle.Rectangle.{Rectangle}
use Rattle.plan.proofs.Patches.{any_of}
use Rattle.slots.specs.Blocks.{in_row, in_block, Reached, InFrame, patch_met}

-- a number in a block, by its row and its place in that
pub block_has : (first columns rows k j i : ℕ) → j < rows → i < columns → k ≡ first + 20 * j + i → in_block first columns rows k ≡ true
block_has first columns rows k j i hj hi e =
    any_of (λ j. in_row (first + 20 * j) columns k) rows j hj (any_of (λ i. eqb k (first + 20 * j + i)) columns i hi (eq-eqb k (first + 20 * j + i) e))

-- a range, for corners as they are passed to a call
pub reached_at : (x x' : ℤ) (n : ℕ) (y y' : ℤ) (m : ℕ) (s : Range ℕ) → x' ≡ x → y' ≡ y → Reached x' n y' m s → Reached x n y m s
reached_at x x' n y y' m s ex ey h = subst (λ z. Reached z n y m s) ex (subst (λ z. Reached x' n z m s) ey h)

pub near_has : (c : ℕ) (f a : Rectangle) (across down : Range ℕ) → Reached f.x f.w a.x a.w across → Reached f.y f.h a.y a.h down
    → (k : ℕ) → k / 300 ≡ c → InFrame f k → patch_met a f k ≡ true → in_block (300 * c + 20 * down.start + across.start) (across.end - across.start) (down.end - down.start) k ≡ true
near_has c f a across down hx hy k e i m =
    let q = and_parts _ _ m in
    let p = hx (k % 300 % 20) i.across q.0 in
    let r = hy (k % 300 / 20) i.down q.1 in
    let p0 = p.0 in let p1 = p.1 in let r0 = r.0 in let r1 = r.1 in
    block_has (300 * c + 20 * down.start + across.start) (across.end - across.start) (down.end - down.start) k (k % 300 / 20 - down.start) (k % 300 % 20 - across.start) (omega arith) (omega arith) (omega arith)
