-- Filling with 0, and blanking slot by slot.
use Rattle.std.proofs.Common.{rules, tests, ◌≡◌, ◌≢◌, ℕ, ◌+◌, ◌-◌, ◌*◌, ◌/◌, ◌%◌, ◌^◌, ◌<◌, ◌≤◌, Bool, true, false, cond, ◌&&◌, ltb, ℤ, pos, Some, None, Option, sym, refl, ap, ◌∙◌, subst, ap₂, ⊎_elim, mod-lt, arith}
use Rattle.std.proofs.lemmas.Nat.{mul-le, pow_pos}
use Rattle.std.proofs.lemmas.Bool.Decides.{nat_tests}
use Rattle.std.proofs.lemmas.Int.{ints}
use Rattle.std.proofs.lemmas.Bool.{and_parts, and_from, both_ways, cond-true, cond-false, cases_Bool, cases_lt, lt-leb}
use Rattle.raster.specs.Picture.{Picture, sizes, painted}
use Rattle.raster.specs.Blt.{holds, in_rectangle, inside, concerned, everywhere, blt}
use Rattle.raster.specs.Blits.{between}
use Rattle.raster.specs.Calls.{fill_with, fill_transfer, bitmap_after}
use Rattle.raster.specs.declared.size.Size.{Size}
use Rattle.raster.proofs.Accepts.{fill_accepted, after_accepted}
use Rattle.raster.proofs.Lawful.{bitmap_laws_lem}
use Rattle.raster.proofs.Paints.{painted_at, painted_same}
use Rattle.raster.specs.declared.rectangle.Rectangle.{Rectangle}
use Rattle.slots.proofs.Spares.{slot_low}
use Rattle.slots.specs.declared.slots.Slots.{Slots}
use Rattle.plan.specs.Plans.{patch_at}
use Rattle.slots.specs.Tables.{slot_of, has_slot}
use Rattle.hold.specs.Spots.{slot_x, slot_y, own_slot}
use Rattle.hold.proofs.Places.{square}
use Rattle.moving.proofs.Areas.{and_swap}
use Rattle.moving.specs.Phases.{on_screen, in_slot, store_x, store_y, in_store}

-- A rectangle filled with 0, by the rule that takes the source.
pub filled_zero : (m : Picture) (f : Rectangle) → bitmap_after m (fill_with 3 0 f.x f.y f.w f.h) ≡ painted m (on_screen (sizes m) f) (λ _ _. 0)
unfolding blt concerned
filled_zero m f =
    after_accepted m (fill_with 3 0 f.x f.y f.w f.h) (fill_accepted (sizes m) f.x f.y 3 0 f.w f.h refl (lt-leb (2 ^ m.depth) 0 (pow_pos m.depth)))
    ∙ painted_same m (concerned (fill_transfer 3 f.x f.y f.w f.h) (everywhere 0) (sizes m)) (on_screen (sizes m) f) _ (λ _ _. 0)
    (λ x y. same (in_rectangle f.x f.y f.w f.h (pos x) (pos y)) (inside (sizes m) (pos x) (pos y)))
    (λ x y h. bitmap_laws_lem.source_rule m.depth 0 (m.at x y) (pow_pos m.depth))
  where
    same : (a b : Bool) → (a && (b && true)) ≡ (a && b)
    same a b = grind (arith, nat_tests)

-- The slots of a store are no more than 4,096.
pub slot_few : (m : Picture) → m.width ≤ 1024 → m.height ≤ 1024 → (k : ℕ) → k < (m.width / 16) * (m.height / 16) → k < 4096
slot_few m w h k l = omega (arith, mul-le (m.width / 16) (m.height / 16) 64 64 (omega arith) (omega arith))

pub slot_filled : (m : Picture) (k : ℕ) (zx zy : ℤ) → k < (m.width / 16) * (m.height / 16) → zx ≡ pos (slot_x m.width k) → zy ≡ pos (slot_y m.width k)
    → bitmap_after m (fill_with 3 0 zx zy 16 16) ≡ painted m (in_slot m.width k) (λ _ _. 0)
slot_filled m k zx zy h ex ey =
    let q = square (sizes m) k h in
    filled_zero m (record { x = zx; y = zy; w = 16; h = 16 })
    ∙ painted_same m _ (in_slot m.width k) (λ _ _. 0) (λ _ _. 0)
    (λ x y.
    and_swap (holds zx 16 (pos x)) (holds zy 16 (pos y)) (holds (pos 0) m.width (pos x)) (holds (pos 0) m.height (pos y))
    ∙ ap₂ ◌&&◌ (axis zx (slot_x m.width k) m.width x ex q.across) (axis zy (slot_y m.width k) m.height y ey q.down))
    (λ x y t. refl)
  where
    axis : (z : ℤ) (first size x : ℕ) → z ≡ pos first → first + 16 ≤ size → (holds z 16 (pos x) && holds (pos 0) size (pos x)) ≡ between first 16 x
    axis z first size x e h = ap (λ y. holds y 16 (pos x) && holds (pos 0) size (pos x)) e ∙ plain first size x h
      where
        plain : (first size x : ℕ) → first + 16 ≤ size → (holds (pos first) 16 (pos x) && holds (pos 0) size (pos x)) ≡ between first 16 x
        plain first size x h = grind (arith, ints, nat_tests)

-- ── Patch by patch ──

-- The store after the slots of the client's patches below number n were set to 0.
pub record Blanking (t : Slots) (c n : ℕ) (before after : Picture) : Type 0 where
  pub cleared : (u v : ℕ) → u < 320 → v < 240 → patch_at c (u / 16) (v / 16) < n → in_store t c u v ≡ true → after.at (store_x before.width t c u v) (store_y before.width t c u v) ≡ 0
  pub others : (a b : ℕ) → ((u v : ℕ) → u < 320 → v < 240 → patch_at c (u / 16) (v / 16) < n → in_store t c u v ≡ true → a ≡ store_x before.width t c u v → b ≢ store_y before.width t c u v)
      → after.at a b ≡ before.at a b

-- the pixel of a patch that lies at a place of a square
record PixelIn (c n x y a b : ℕ) : Type 0 where
  u : ℕ
  v : ℕ
  column : u < 320
  row : v < 240
  patch : patch_at c (u / 16) (v / 16) ≡ n
  across : a ≡ x + u % 16
  down : b ≡ y + v % 16

pixel_in : (c n x y a b : ℕ) → 300 * c ≤ n → n < 300 * c + 300 → (x ≤ a) × (a < x + 16) → (y ≤ b) × (b < y + 16) → PixelIn c n x y a b
pixel_in c n x y a b from to hx hy =
    let i : ℕ = n - 300 * c in
    let small : i < 300 = omega arith in
    let here : n ≡ 300 * c + i = omega arith in
    let h0 = hx.0 in let h1 = hx.1 in let h2 = hy.0 in let h3 = hy.1 in
    record { u = 16 * (i % 20) + (a - x); v = 16 * (i / 20) + (b - y); column = omega arith; row = omega arith; patch = omega arith; across = omega arith; down = omega arith }

module _ (t : Slots) (c : ℕ) (m : Picture) where
  module _ (n : ℕ) (m' : Picture) (from : 300 * c ≤ n) (to : n < 300 * c + 300) (d : Blanking t c n m m') where
    -- a patch without a slot
    pub blank_skip : has_slot t n ≡ false → Blanking t c (n + 1) m m'
    blank_skip none = record {
      cleared = λ u v hu hv l k. ⊎_elim (λ (h : patch_at c (u / 16) (v / 16) < n). d.cleared u v hu hv h k) (λ (h : n ≤ patch_at c (u / 16) (v / 16)).
          let e : patch_at c (u / 16) (v / 16) ≡ n = omega arith in
          absurd (both_ways (in_store t c u v) (ap (has_slot t) e ∙ none) k)) (cases_lt (patch_at c (u / 16) (v / 16)) n);
      others = λ a b h. d.others a b (λ u v hu hv l k ea eb. h u v hu hv (omega arith) k ea eb);
    }

    -- a patch with one
    pub blank_one : (m'' : Picture) → has_slot t n ≡ true → sizes m' ≡ sizes m → m'' ≡ painted m' (in_slot m'.width (slot_of t n)) (λ _ _. 0) → Blanking t c (n + 1) m m''
    blank_one m'' k ew em = record {
      cleared = λ u v hu hv l q. there (store_x m.width t c u v) (store_y m.width t c u v) ∙ ⊎_elim
          (λ (h : patch_at c (u / 16) (v / 16) < n). either (in_slot m.width (slot_of t n) (store_x m.width t c u v) (store_y m.width t c u v)) _ (d.cleared u v hu hv h q))
          (λ (h : n ≤ patch_at c (u / 16) (v / 16)).
          let e : patch_at c (u / 16) (v / 16) ≡ n = omega arith in
          cond-true _ 0 _ (ap (λ p. in_slot m.width (slot_of t p) (store_x m.width t c u v) (store_y m.width t c u v)) (sym e)
          ∙ and_from _ _ (in_square (slot_x m.width (own_slot t c u v)) (u % 16) (mod-lt u (omega arith))) (in_square (slot_y m.width (own_slot t c u v)) (v % 16) (mod-lt v (omega arith))))) (cases_lt (patch_at c (u / 16) (v / 16)) n);
      others = λ a b h. there a b ∙ ⊎_elim
          (λ (e : in_slot m.width (slot_of t n) a b ≡ true). absurd (inner a b h e))
          (λ (e : in_slot m.width (slot_of t n) a b ≡ false). cond-false _ 0 _ e ∙ d.others a b (λ u v hu hv l q ea eb. h u v hu hv (omega arith) q ea eb))
          (cases_Bool (in_slot m.width (slot_of t n) a b));
    }
      where
        there : (a b : ℕ) → m''.at a b ≡ cond (in_slot m.width (slot_of t n) a b) 0 (m'.at a b)
        there a b = ap (λ (p : Picture). p.at a b) em ∙ painted_at m' _ _ a b ∙ ap (λ (z : Size). cond (in_slot z.width (slot_of t n) a b) 0 (m'.at a b)) ew

        either : (b : Bool) (n : ℕ) → n ≡ 0 → cond b 0 n ≡ 0
        either b n e = grind (arith, nat_tests)

        in_square : (first n : ℕ) → n < 16 → between first 16 (first + n) ≡ true
        in_square first n h = grind (arith, nat_tests)

        parts : (first a : ℕ) → between first 16 a ≡ true → (first ≤ a) × (a < first + 16)
        parts first a e = (grind (arith, nat_tests), grind (arith, nat_tests))

        inner : (a b : ℕ) → ((u v : ℕ) → u < 320 → v < 240 → patch_at c (u / 16) (v / 16) < n + 1 → in_store t c u v ≡ true → a ≡ store_x m.width t c u v → b ≢ store_y m.width t c u v)
            → in_slot m.width (slot_of t n) a b ≡ true → ⊥
        inner a b h e =
            let x : ℕ = slot_x m.width (slot_of t n) in
            let y : ℕ = slot_y m.width (slot_of t n) in
            let q = and_parts (between x 16 a) (between y 16 b) e in
            let r = pixel_in c n x y a b from to (parts x a q.0) (parts y b q.1) in
            let own = r.patch in
            h r.u r.v r.column r.row (omega arith) (ap (has_slot t) own ∙ k)
            (r.across ∙ ap (λ p. slot_x m.width (slot_of t p) + r.u % 16) (sym own)) (r.down ∙ ap (λ p. slot_y m.width (slot_of t p) + r.v % 16) (sym own))

-- the answer for a patch, of a client below 8
pub slot_found : (t : Slots) (n k : ℕ) → Some k ≡ cond (ltb n 2400 && has_slot t n) (Some (slot_of t n)) None → (k ≡ slot_of t n) × (has_slot t n ≡ true)
slot_found t n k e = search (rules, tests)

pub slot_missing : (t : Slots) (n : ℕ) (o : Option ℕ) → n < 2400 → o ≡ cond (ltb n 2400 && has_slot t n) (Some (slot_of t n)) None → ((k : ℕ) → o ≡ Some k → ⊥) → has_slot t n ≡ false
slot_missing t n o h e none = search (rules, tests)

module _ (t : Slots) (c n : ℕ) (m m' : Picture) (few : t.places ≤ (m.width / 16) * (m.height / 16)) (low : c < 8) (from : 300 * c ≤ n) (to : n < 300 * c + 300) (size : sizes m' ≡ sizes m) (d : Blanking t c n m m') where
  pub blank_turn : (k : ℕ) (m'' : Picture) → Some k ≡ cond (ltb n 2400 && has_slot t n) (Some (slot_of t n)) None
      → (k < (m'.width / 16) * (m'.height / 16) → m'' ≡ painted m' (in_slot m'.width k) (λ _ _. 0)) → Blanking t c (n + 1) m m''
  blank_turn k m'' e h =
      let q = slot_found t n k e in
      let l : slot_of t n < t.places = slot_low t n q.1 in
      let q0 = q.0 in
      let less : k < (m.width / 16) * (m.height / 16) = omega arith in
      let less' : k < (m'.width / 16) * (m'.height / 16) = subst (λ (z : Size). k < (z.width / 16) * (z.height / 16)) (sym size) less in
      blank_one t c m n m' from to d m'' q.1 size (h less' ∙ ap (λ j. painted m' (in_slot m'.width j) (λ _ _. 0)) q0)

  pub blank_past : (o : Option ℕ) → o ≡ cond (ltb n 2400 && has_slot t n) (Some (slot_of t n)) None → ((k : ℕ) → o ≡ Some k → ⊥) → Blanking t c (n + 1) m m'
  blank_past o e none = blank_skip t c m n m' from to d (slot_missing t n o (omega arith) e none)
