-- Where a visible pixel lies on the screen.
use Rattle.std.proofs.Common.{◌≡◌, ℕ, ◌<◌, Bool, true, false, cond, not, ◌&&◌, ℤ, pos, negsuc, ◌+ℤ◌, nat_abs, Some, None, Option, sym, refl, ap, ◌∙◌, w16, w32, SFits, to_z, arith}
use Rattle.std.proofs.lemmas.Int.{ints}
use Rattle.std.proofs.lemmas.Bool.{and_from, and_right}
use Rattle.raster.specs.Blt.{holds, inside}
use Rattle.paper.specs.Layers.{covered}
use Rattle.plan.specs.declared.area.Area.{Area}
use Rattle.raster.specs.declared.rectangle.Rectangle.{Rectangle}
use Rattle.plan.specs.declared.plan.Plan.{Plan}
use Rattle.plan.specs.Plans.{layers_in, frame_in, above, seen}
use Rattle.plan.specs.Areas.{met}
use Rattle.plan.proofs.Turns.{met_place, summed, wide_sum}

-- ── One axis ──

abbrev pub on_axis : (n : ℕ) (z : ℤ) → Option ℕ
on_axis n z = cond (holds (pos 0) n z) (Some (nat_abs z)) None

pub record Held (n : ℕ) (z : ℤ) (k : ℕ) : Type 0 where
  pub there : holds (pos 0) n z ≡ true
  pub is : z ≡ pos k

pub held : (n : ℕ) (z : ℤ) (k : ℕ) → on_axis n z ≡ Some k → Held n z k
held n (pos m) k e = go (holds (pos 0) n (pos m)) refl e
  where
    go : (b : Bool) → holds (pos 0) n (pos m) ≡ b → cond b (Some m) None ≡ Some k → Held n (pos m) k
    go true h e = record { there = h; is = cc }
    go false h e = absurd cc
held n (negsuc m) k e = absurd cc

-- ── The screen place of the pixel (u, v), by a test on the frame f of the client ──

abbrev pub place_if : Bool → (x y : ℤ) → Option (ℕ × ℕ)
place_if b x y = cond b (Some (nat_abs x, nat_abs y)) None

abbrev pub if_clear : Bool → (x y : ℕ) → Option (ℕ × ℕ)
if_clear hit x y = cond hit None (Some (x, y))

abbrev sight : Plan → (client : ℕ) → (x y : ℤ) → Bool
sight p c x y = inside p.screen x y && not (covered (above c (layers_in p)) x y)

module _ (p : Plan) (c u v : ℕ) (f : Rectangle) (e : f ≡ frame_in p c) (fx : SFits w16 f.x) (fy : SFits w16 f.y) (hu : u < 65536) (hv : v < 65536) where
  abbrev Answer : Option (ℕ × ℕ) → Type 0
  Answer o = o ≡ place_if (seen p c u v) ((frame_in p c).x +ℤ pos u) ((frame_in p c).y +ℤ pos v)

  by_frame : place_if (sight p c (summed f.x u) (summed f.y v)) (summed f.x u) (summed f.y v) ≡ place_if (seen p c u v) ((frame_in p c).x +ℤ pos u) ((frame_in p c).y +ℤ pos v)
  by_frame =
      (λ i. place_if (sight p c (wide_sum f.x u fx hu i) (wide_sum f.y v fy hv i)) (wide_sum f.x u fx hu i) (wide_sum f.y v fy hv i))
      ∙ ap (λ g. place_if (sight p c (g.x +ℤ pos u) (g.y +ℤ pos v)) (g.x +ℤ pos u) (g.y +ℤ pos v)) e

  pub off_screen : on_axis p.screen.height (summed f.y v) ≡ None → Answer None
  off_screen h =
      let x = summed f.x u in let y = summed f.y v in
      sym (ap (λ b. place_if (b && not (covered (above c (layers_in p)) x y)) x y) (and_right (holds (pos 0) p.screen.width x) _ (go y (holds (pos 0) p.screen.height y) h)))
      ∙ by_frame
    where
      go : (y : ℤ) (b : Bool) → cond b (Some (nat_abs y)) None ≡ None → b ≡ false
      go y true h = cc
      go y false h = refl

  -- where the area a of the place is known to meet the layers above, or not
  pub on_screen : (x y : ℕ) → x < 65536 → y < 65536 → on_axis p.screen.width (summed f.x u) ≡ Some x → on_axis p.screen.height (summed f.y v) ≡ Some y
      → (a : Area) (hit : Bool) → a ≡ record { left = to_z w32 x; top = to_z w32 y; right = to_z w32 x +ℤ pos 1; bottom = to_z w32 y +ℤ pos 1 }
      → hit ≡ met (above c (layers_in p)) a.left a.top a.right a.bottom → Answer (if_clear hit x y)
  on_screen x y lx ly ex ey a hit ea eh =
      let ls = above c (layers_in p) in
      let wx : to_z w32 x ≡ pos x = omega (arith, ints) in
      let wy : to_z w32 y ≡ pos y = omega (arith, ints) in
      let hx = held p.screen.width (summed f.x u) x ex in
      let hy = held p.screen.height (summed f.y v) y ey in
      ap (λ b. if_clear b x y)
      (eh ∙ ap (λ a. met ls a.left a.top a.right a.bottom) ea ∙ (λ i. met ls (wx i) (wy i) (wx i +ℤ pos 1) (wy i +ℤ pos 1)) ∙ met_place ls (pos x) (pos y))
      ∙ go x y (covered ls (pos x) (pos y))
      ∙ sym ((λ i. place_if (sight p c (hx.is i) (hy.is i)) (hx.is i) (hy.is i))
      ∙ ap (λ b. place_if (b && not (covered ls (pos x) (pos y))) (pos x) (pos y))
      (and_from _ _ (ap (holds (pos 0) p.screen.width) (sym hx.is) ∙ hx.there) (ap (holds (pos 0) p.screen.height) (sym hy.is) ∙ hy.there)))
      ∙ by_frame
    where
      go : (x y : ℕ) (b : Bool) → if_clear b x y ≡ place_if (not b) (pos x) (pos y)
      go x y true = refl
      go x y false = refl
