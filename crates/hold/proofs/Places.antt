-- Where the pixels of open layers lie: inside the screen or in a slot of the store, each at a spot of its own.
use Rattle.std.proofs.Common.{◌≡◌, ℕ, zero, suc, ◌+◌, ◌*◌, ◌/◌, ◌%◌, ◌<◌, ◌≤◌, Bool, true, false, cond, not, ◌||◌, eqb, ltb, List, [], ◌∷◌, get_or, ℤ, pos, ◌+ℤ◌, nat_abs, sym, refl, ap, ◌∙◌, subst, ap₂, ⊎_elim, mod-lt, mul_comm, div-lt_iff_lt-mul, zero-mul, arith}
use native.Mathlib.Nat.{div-add-mod}
use Rattle.std.proofs.lemmas.Int.{ints}
use Rattle.std.proofs.lemmas.Bool.Decides.{nat_tests}
use Rattle.std.proofs.lemmas.Bool.{both_ways, false≢true, and_parts, and_from, or_left, or_right, not-true, not_from_false, eqb-true, lt-ltb, cases_eq}
use Rattle.raster.specs.Picture.{Picture, sizes}
use Rattle.raster.specs.Blt.{inside}
use Rattle.raster.specs.declared.size.Size.{Size}
use Rattle.raster.proofs.Accepts.{place_within, inside_place}
use Rattle.paper.specs.Layers.{covers, covered}
use Rattle.paper.specs.Slots.{obscured, hidden_in, slots_of}
use Rattle.paper.proofs.HiddenPixels.{covers_pixel}
use Rattle.raster.specs.declared.rectangle.Rectangle.{Rectangle}
use Rattle.plan.specs.declared.plan.Plan.{Plan}
use Rattle.slots.specs.declared.slots.Slots.{Slots}
use Rattle.plan.specs.Frames.{no_frame, has}
use Rattle.plan.specs.Plans.{outline, outlines, listed, layers_in, frame_in, above, seen, patch_at, hidden_patch}
use Rattle.slots.proofs.Spares.{slot_low, slots_apart}
use Rattle.slots.specs.Tables.{has_slot, Fits}
use Rattle.plan.proofs.Sifts.{open_low}
use Rattle.plan.proofs.Patches.{obscured_hides, hidden_open}
use Rattle.hold.specs.declared.spot.Spot.{Spot}
use Rattle.hold.specs.declared.spot.Spot.TheVariants.{Screen, Store}
use Rattle.hold.specs.Spots.{slot_x, slot_y, own_slot, screen_spot, store_spot, spot_of}
use Rattle.hold.specs.Held.{Fitting, OwnPixel}

-- ── The layers above one ──

module _ (fs : List Rectangle) where
  -- a listed client's layer is among those that cover a place that it covers
  pub covered_listed : (c : ℕ) (x y : ℤ) (cs : List ℕ) → has c cs ≡ true → covers (outline c (get_or fs c no_frame)) x y ≡ true → covered (outlines cs fs) x y ≡ true
  covered_listed c x y [] h k = absurd (false≢true h)
  covered_listed c x y (d ∷ ds) h k = go (covered_listed c x y ds) (eqb d c) refl h
    where
      go : (has c ds ≡ true → covers (outline c (get_or fs c no_frame)) x y ≡ true → covered (outlines ds fs) x y ≡ true) → (b : Bool) → eqb d c ≡ b → (b || has c ds) ≡ true
          → (covers (outline d (get_or fs d no_frame)) x y || covered (outlines ds fs) x y) ≡ true
      go ih true e m = or_left _ _ (ap (λ n. covers (outline n (get_or fs n no_frame)) x y) (eqb-true d c e) ∙ k)
      go ih false e m = or_right _ _ (ih m k)

  -- of two layers that cover a place one is covered by the other
  pub one_above : (c d : ℕ) (x y : ℤ) (cs : List ℕ) → (c ≡ d → ⊥) → has c cs ≡ true → has d cs ≡ true
      → covers (outline c (get_or fs c no_frame)) x y ≡ true → covers (outline d (get_or fs d no_frame)) x y ≡ true
      → covered (above c (outlines cs fs)) x y ≡ false → covered (above d (outlines cs fs)) x y ≡ false → ⊥
  one_above c d x y [] ne hc hd kc kd fc fd = false≢true hc
  one_above c d x y (e ∷ es) ne hc hd kc kd fc fd = go (one_above c d x y es ne) (eqb e c) refl (eqb e d) refl hc hd fc fd
    where
      go : (has c es ≡ true → has d es ≡ true → covers (outline c (get_or fs c no_frame)) x y ≡ true → covers (outline d (get_or fs d no_frame)) x y ≡ true
          → covered (above c (outlines es fs)) x y ≡ false → covered (above d (outlines es fs)) x y ≡ false → ⊥)
          → (a : Bool) → eqb e c ≡ a → (b : Bool) → eqb e d ≡ b → (a || has c es) ≡ true → (b || has d es) ≡ true
          → covered (cond a (outlines es fs) (above c (outlines es fs))) x y ≡ false → covered (cond b (outlines es fs) (above d (outlines es fs))) x y ≡ false → ⊥
      go ih true ea true eb mc md gc gd = ne (sym (eqb-true e c ea) ∙ eqb-true e d eb)
      go ih true ea false eb mc md gc gd = both_ways _ gc (covered_listed d x y es md kd)
      go ih false ea true eb mc md gc gd = both_ways _ gd (covered_listed c x y es mc kc)
      go ih false ea false eb mc md gc gd = ih mc md kc kd gc gd

-- ── Visible pixels ──

-- The pixel is visible, at the screen place (x, y).
pub record OnScreen (p : Plan) (c u v x y : ℕ) : Type 0 where
  pub across : (frame_in p c).x +ℤ pos u ≡ pos x
  pub down : (frame_in p c).y +ℤ pos v ≡ pos y
  pub within : inside p.screen (pos x) (pos y) ≡ true
  pub free : covered (above c (layers_in p)) (pos x) (pos y) ≡ false

pub seen_place : (p : Plan) (c u v : ℕ) → seen p c u v ≡ true → OnScreen p c u v (nat_abs ((frame_in p c).x +ℤ pos u)) (nat_abs ((frame_in p c).y +ℤ pos v))
seen_place p c u v e =
    let x = (frame_in p c).x +ℤ pos u in
    let y = (frame_in p c).y +ℤ pos v in
    let q = and_parts (inside p.screen x y) (not (covered (above c (layers_in p)) x y)) e in
    let i = inside_place p.screen x y q.0 in
    record {
      across = i.0;
      down = i.1;
      within = ap₂ (inside p.screen) (sym i.0) (sym i.1) ∙ q.0;
      free = ap₂ (covered (above c (layers_in p))) (sym i.0) (sym i.1) ∙ not-true _ q.1;
    }

-- a visible pixel's place is covered by its layer
pub seen_covers : (p : Plan) (c u v x y : ℕ) → OwnPixel p c u v → OnScreen p c u v x y → covers (outline c (frame_in p c)) (pos x) (pos y) ≡ true
seen_covers p c u v x y o s =
    ap₂ (covers (outline c (frame_in p c))) (sym s.across) (sym s.down)
    ∙ covers_pixel (outline c (frame_in p c)) u v ∙ and_from _ _ (lt-ltb u _ o.across) (lt-ltb v _ o.down)

-- ── Obscured pixels ──

-- the number of a patch, taken apart
pub record PatchParts (c i j : ℕ) : Type 0 where
  pub client : patch_at c i j / 300 ≡ c
  pub column : patch_at c i j % 300 % 20 ≡ i
  pub row : patch_at c i j % 300 / 20 ≡ j

pub patch_parts : (c i j : ℕ) → i < 20 → j < 15 → PatchParts c i j
patch_parts c i j hi hj = record { client = omega arith; column = omega arith; row = omega arith }

-- A pixel that a layer may have, and its patch.
pub record Real (c u v : ℕ) : Type 0 where
  pub client : c < 8
  pub column : u < 320
  pub row : v < 240

pub real_patch : (c u v : ℕ) → Real c u v → patch_at c (u / 16) (v / 16) < 2400
real_patch c u v r = omega arith

real_parts : (c u v : ℕ) → Real c u v → PatchParts c (u / 16) (v / 16)
real_parts c u v r = patch_parts c (u / 16) (v / 16) (omega arith) (omega arith)

-- The pixel of an open layer.
module _ (p : Plan) (c u v : ℕ) (o : OwnPixel p c u v) where
  pub real : Real c u v
  real = record { client = open_low p c o.opened; column = omega (arith, o.across, p.narrow c); row = omega (arith, o.down, p.short c) }

  pub own_patch : patch_at c (u / 16) (v / 16) < 2400
  own_patch = real_patch c u v real

  -- An obscured pixel's patch is hidden.
  pub unseen_hidden : seen p c u v ≡ false → hidden_patch p (patch_at c (u / 16) (v / 16)) ≡ true
  unseen_hidden e =
      let l = outline c (frame_in p c) in
      let q = real_parts c u v real in
      let eu : 16 * (u / 16) + u % 16 ≡ u = omega arith in
      let ev : 16 * (v / 16) + v % 16 ≡ v = omega arith in
      (λ k. hidden_in p.screen (layers_in p) (q.client k) (q.column k) (q.row k)) ∙ hidden_open p.screen p.frames c (u / 16) (v / 16) (listed p) o.opened
      ∙ obscured_hides p.screen (above c (layers_in p)) l (u / 16) (v / 16) (u % 16) (v % 16) (omega arith) (omega arith)
      (ap₂ (obscured p.screen (above c (layers_in p)) l) eu ev ∙ and_from _ _ (and_from _ _ (lt-ltb u _ o.across) (lt-ltb v _ o.down)) (not_from_false _ e))

  -- It has a slot.
  pub slot_held : (t : Slots) → Fits p t → seen p c u v ≡ false → has_slot t (patch_at c (u / 16) (v / 16)) ≡ true
  slot_held t fits e = fits (patch_at c (u / 16) (v / 16)) own_patch ∙ unseen_hidden e

  pub slot_there : (t : Slots) → Fits p t → seen p c u v ≡ false → own_slot t c u v < t.places
  slot_there t fits e = slot_low t _ (slot_held t fits e)

-- ── Within ──

-- A spot is a place of the screen or of a store that is deep enough.
abbrev pub Within : (screen store : Picture) → Spot → Type 0
Within screen store (Screen x y) = (x < screen.width) × (y < screen.height)
Within screen store (Store x y) = (x < store.width) × (y < store.height) × (screen.depth ≤ store.depth)

-- a product that is not 0
pub some_across : (k n m : ℕ) → k < n * m → 0 < n
some_across k zero m h = absurd (omega (arith, zero-mul m))
some_across k (suc n) m h = omega arith

-- a slot of a store is a square in it
pub record Square (store : Size) (k : ℕ) : Type 0 where
  pub wide : 0 < store.width / 16
  pub across : slot_x store.width k + 16 ≤ store.width
  pub down : slot_y store.width k + 16 ≤ store.height

pub square : (store : Size) (k : ℕ) → k < (store.width / 16) * (store.height / 16) → Square store k
square store k h =
    let n : ℕ = store.width / 16 in
    let m : ℕ = store.height / 16 in
    let some : 0 < n = some_across k n m h in
    let left : k % n < n = mod-lt k some in
    let up : k / n < m = (div-lt_iff_lt-mul some).1 (rw (mul_comm n m) at h) in
    record { wide = some; across = omega arith; down = omega arith }

-- a store with a slot is deep enough
pub some_slot : (store : Size) (depth k : ℕ) → k < slots_of store depth → (k < (store.width / 16) * (store.height / 16)) × (depth ≤ store.depth)
some_slot store depth k h = go (store.width / 16 * (store.height / 16)) h
  where
    go : (n : ℕ) → k < cond (ltb store.depth depth) 0 n → (k < n) × (depth ≤ store.depth)
    go n l = (grind (arith, nat_tests), grind (arith, nat_tests))

pub slot_within : (store : Size) (depth k a b : ℕ) → k < slots_of store depth → a < 16 → b < 16
    → (slot_x store.width k + a < store.width) × (slot_y store.width k + b < store.height) × (depth ≤ store.depth)
slot_within store depth k a b h ha hb =
    let q = some_slot store depth k h in
    let s = square store k q.0 in
    (omega (arith, s.across), omega (arith, s.down), q.1)

-- by cases on whether a pixel is visible
pub spot_by : (width : ℕ) (p : Plan) (t : Slots) (c u v : ℕ) (P : Spot → Type 0) → (seen p c u v ≡ true → P (screen_spot p c u v)) → (seen p c u v ≡ false → P (store_spot width t c u v)) → P (spot_of width p t c u v)
unfolding spot_of
spot_by width p t c u v P on off = go (seen p c u v) refl
  where
    go : (b : Bool) → seen p c u v ≡ b → P (cond b (screen_spot p c u v) (store_spot width t c u v))
    go true e = on e
    go false e = off e

pub spot_within : (screen store : Picture) (p : Plan) (t : Slots) → Fitting screen store p t → (c u v : ℕ) → OwnPixel p c u v → Within screen store (spot_of store.width p t c u v)
spot_within screen store p t f c u v o =
    spot_by store.width p t c u v (Within screen store)
    (λ e. place_within (sizes screen) (pos (nat_abs ((frame_in p c).x +ℤ pos u))) (pos (nat_abs ((frame_in p c).y +ℤ pos v))) (ap (λ (s : Size). inside s (pos (nat_abs ((frame_in p c).x +ℤ pos u))) (pos (nat_abs ((frame_in p c).y +ℤ pos v)))) (sym f.size) ∙ (seen_place p c u v e).within))
    (λ e. slot_within (sizes store) screen.depth (own_slot t c u v) (u % 16) (v % 16) (subst (λ n. own_slot t c u v < n) f.places (slot_there p c u v o t f.fits e)) (omega arith) (omega arith))

-- ── Apart ──

same_offset : (z : ℤ) (a b x : ℕ) → z +ℤ pos a ≡ pos x → z +ℤ pos b ≡ pos x → a ≡ b
same_offset z a b x p q = omega (arith, ints)

-- two visible pixels at one place are one
screen_apart : (p : Plan) (c u v d a b x y : ℕ) → OwnPixel p c u v → OwnPixel p d a b → OnScreen p c u v x y → OnScreen p d a b x y → (c ≡ d) × (u ≡ a) × (v ≡ b)
screen_apart p c u v d a b x y o o' s s' =
    ⊎_elim
    (λ (e : c ≡ d). (
      e,
      same_offset (frame_in p c).x u a x s.across (ap (λ n. (frame_in p n).x +ℤ pos a) e ∙ s'.across),
      same_offset (frame_in p c).y v b y s.down (ap (λ n. (frame_in p n).y +ℤ pos b) e ∙ s'.down),
    ))
    (λ (ne : c ≡ d → ⊥).
    absurd (one_above p.frames c d (pos x) (pos y) (listed p) ne o.opened o'.opened (seen_covers p c u v x y o s) (seen_covers p d a b x y o' s') s.free s'.free))
    (cases_eq c d)

-- places of squares
same_square : (m n r s : ℕ) → r < 16 → s < 16 → 16 * m + r ≡ 16 * n + s → (m ≡ n) × (r ≡ s)
same_square m n r s hr hs e = (omega arith, omega arith)

whole : (u a : ℕ) → u / 16 ≡ a / 16 → u % 16 ≡ a % 16 → u ≡ a
whole u a p q = omega arith

-- Two pixels with one place in the store are one.
pub store_apart : (width : ℕ) (t : Slots) (c u v d a b : ℕ) → Real c u v → Real d a b
    → has_slot t (patch_at c (u / 16) (v / 16)) ≡ true → has_slot t (patch_at d (a / 16) (b / 16)) ≡ true
    → slot_x width (own_slot t c u v) + u % 16 ≡ slot_x width (own_slot t d a b) + a % 16
    → slot_y width (own_slot t c u v) + v % 16 ≡ slot_y width (own_slot t d a b) + b % 16
    → (c ≡ d) × (u ≡ a) × (v ≡ b)
store_apart width t c u v d a b o o' held held' ex ey =
    let s = own_slot t c u v in
    let r = own_slot t d a b in
    let n = width / 16 in
    let qx = same_square (s % n) (r % n) (u % 16) (a % 16) (omega arith) (omega arith) ex in
    let qy = same_square (s / n) (r / n) (v % 16) (b % 16) (omega arith) (omega arith) ey in
    let same : s ≡ r = sym (div-add-mod s n) ∙ ap₂ (λ i j. n * i + j) qy.0 qx.0 ∙ div-add-mod r n in
    let one : patch_at c (u / 16) (v / 16) ≡ patch_at d (a / 16) (b / 16) = slots_apart t _ _ held held' same in
    let k = real_parts c u v o in
    let l = real_parts d a b o' in (
      sym k.client ∙ ap (λ i. i / 300) one ∙ l.client,
      whole u a (sym k.column ∙ ap (λ i. i % 300 % 20) one ∙ l.column) qx.1,
      whole v b (sym k.row ∙ ap (λ i. i % 300 / 20) one ∙ l.row) qy.1,
    )

spots_differ : {x y a b : ℕ} → ◌≡◌ {A = Spot} (Screen x y) (Store a b) → ⊥
spots_differ e = let z : ◌≡◌ {A = ℕ} 0 1 = cc in omega arith

pub spots_apart : (width : ℕ) (p : Plan) (t : Slots) → Fits p t → (c u v d a b : ℕ) → OwnPixel p c u v → OwnPixel p d a b
    → spot_of width p t c u v ≡ spot_of width p t d a b → (c ≡ d) × (u ≡ a) × (v ≡ b)
spots_apart width p t fits c u v d a b o o' =
    spot_by width p t c u v (λ s. s ≡ spot_of width p t d a b → (c ≡ d) × (u ≡ a) × (v ≡ b))
    (λ e. spot_by width p t d a b (λ s. screen_spot p c u v ≡ s → (c ≡ d) × (u ≡ a) × (v ≡ b))
    (λ e' same.
    let s' = seen_place p d a b e' in
    screen_apart p c u v d a b _ _ o o' (seen_place p c u v e)
    (record {
      across = s'.across ∙ ap pos (cc);
      down = s'.down ∙ ap pos (cc);
      within = ap₂ (λ x y. inside p.screen (pos x) (pos y)) (cc) (cc) ∙ s'.within;
      free = ap₂ (λ x y. covered (above d (layers_in p)) (pos x) (pos y)) (cc) (cc) ∙ s'.free;
    }))
    (λ e' same. absurd (spots_differ same)))
    (λ e. spot_by width p t d a b (λ s. store_spot width t c u v ≡ s → (c ≡ d) × (u ≡ a) × (v ≡ b))
    (λ e' same. absurd (spots_differ (sym same)))
    (λ e' same. store_apart width t c u v d a b (real p c u v o) (real p d a b o') (slot_held p c u v o t fits e) (slot_held p d a b o' t fits e') (cc) (cc)))
