-- Tables adjusted region by region.
use Rattle.std.proofs.Common.{◌≡◌, ℕ, ◌+◌, ◌/◌, ◌<◌, ◌≤◌, Bool, true, false, cond, ◌||◌, eqb, sym, refl, ap, ◌∙◌, subst, ap₂, ⊎_elim, add-one, arith}
use Rattle.std.specs.Prelude.{Ok, Err, Result}
use Rattle.std.proofs.lemmas.Bool.{false_from_ne_true, both_ways, ne_eqb, or_from, or_left, or_right, or_parts, or_cases}
use Rattle.raster.specs.Calls.{any_below}
use Rattle.raster.specs.declared.rectangle.Rectangle.{Rectangle}
use Rattle.plan.specs.declared.plan.Plan.{Plan}
use Rattle.plan.specs.Frames.{has}
use Rattle.plan.specs.Plans.{listed, frame_in}
use Rattle.slots.specs.declared.single.NoSlot.{NoSlot}
use Rattle.slots.specs.declared.slots.Slots.{Slots}
use Rattle.slots.specs.Blocks.{InFrame, patch_met}
use Rattle.slots.specs.Tables.{has_slot}
use Rattle.slots.specs.Walks.{Adjusted, Short, Adjusts, InLayer, Clear, AdjustedBut, AdjustsBut}
use Rattle.slots.proofs.Counts.{counted_fewer, counted_less}

module _ (test : ℕ → Bool) where
  -- nothing was done
  pub adjust_none : (t : Slots) → Adjusted test (λ _. false) t t
  adjust_none t = record { places = refl; has = λ k h. refl; same = λ k h a b. refl }

  -- two regions, one after the other
  module _ (P Q : ℕ → Bool) (t r : Slots) (a : Adjusted test P t r) where
    between : (k : ℕ) → k < 2400 → (s : Slots) → Adjusted test Q r s → has_slot t k ≡ true → has_slot s k ≡ true → has_slot r k ≡ true
    between k h s b had has = go (Q k) (P k) (a.has k h) (b.has k h)
      where
        go : (q p : Bool) → has_slot r k ≡ cond p (test k) (has_slot t k) → has_slot s k ≡ cond q (test k) (has_slot r k) → has_slot r k ≡ true
        go true true x y = x ∙ sym y ∙ has
        go true false x y = x ∙ had
        go false p x y = sym y ∙ has

    pub adjust_join : (s : Slots) → Adjusted test Q r s → Adjusted test (λ k. P k || Q k) t s
    adjust_join s b = record {
      places = b.places ∙ a.places;
      has = λ k h. go k (P k) (Q k) (a.has k h) (b.has k h);
      same = λ k h had has. let mid = between k h s b had has in b.same k h mid has ∙ a.same k h had mid;
    }
      where
        go : (k : ℕ) (p q : Bool) → has_slot r k ≡ cond p (test k) (has_slot t k) → has_slot s k ≡ cond q (test k) (has_slot r k) → has_slot s k ≡ cond (p || q) (test k) (has_slot t k)
        go k true true x y = y
        go k true false x y = y ∙ x
        go k false true x y = y
        go k false false x y = y ∙ x

    -- what is short on the way was short at first
    pub short_join : Short test r → Short test t
    short_join short =
        let e = a.places in
        omega (
          arith,
          counted_fewer (λ k. has_slot r k || test k) (λ k. has_slot t k || test k) 2400 (λ k h x.
              ⊎_elim (λ (y : has_slot r k ≡ true). go k (P k) (sym (a.has k h) ∙ y)) (λ (y : test k ≡ true). or_right (has_slot t k) (test k) y) (or_cases (has_slot r k) (test k) x)),
        )
      where
        go : (k : ℕ) (p : Bool) → cond p (test k) (has_slot t k) ≡ true → (has_slot t k || test k) ≡ true
        go k true x = or_right (has_slot t k) (test k) x
        go k false x = or_left (has_slot t k) (test k) x

  -- one region more of several
  pub adjust_more : (f : ℕ → ℕ → Bool) (n : ℕ) (t r s : Slots) → Adjusted test (λ k. any_below (λ i. f i k) n) t r → Adjusted test (f n) r s
      → Adjusted test (λ k. any_below (λ i. f i k) (n + 1)) t s
  adjust_more f n t r s a b =
      subst (λ m. Adjusted test (λ k. any_below (λ i. f i k) m) t s) (sym (add-one n)) (adjust_join (λ k. any_below (λ i. f i k) n) (f n) t r a s b)

  -- a patch needs a slot, and none is left
  pub short_here : (t : Slots) (k : ℕ) → k < 2400 → has_slot t k ≡ false → test k ≡ true → t.places ≤ t.used → Short test t
  short_here t k h none need full =
      let e = t.count in
      omega (
        arith,
        counted_less (has_slot t) (λ j. has_slot t j || test j) 2400 k h none (or_right (has_slot t k) (test k) need) (λ j _ x. or_left (has_slot t j) (test j) x),
      )

-- ── Regions with something said of the patches outside ──

module _ (test : ℕ → Bool) where
  -- nothing was done, and this is so of all patches
  pub but_none : (rest : ℕ → Type 0) (t : Slots) → ((k : ℕ) → k < 2400 → rest k) → AdjustedBut test rest t t
  but_none rest t h = record { within = λ _. false; adjusted = adjust_none test t; outside = λ k l _. h k l }

  -- two regions, where outside both of them the one and the other is so
  module _ (rest : ℕ → Type 0) (P : ℕ → Bool) (t r s : Slots) (a : Adjusted test P t r) where
    pub but_both : (Q : ℕ → Bool) → ((k : ℕ) → k < 2400 → P k ≡ false → Q k ≡ false → rest k) → (b : Result (Unit {0}) NoSlot) → Adjusts test Q r s b → AdjustsBut test rest t s b
    but_both Q out (Err _) y = short_join test P Q t r a y
    but_both Q out (Ok _) y = record {
      within = λ k. P k || Q k;
      adjusted = adjust_join test P Q t r a s y;
      outside = λ k h e. let q = or_parts (P k) (Q k) e in out k h q.0 q.1;
    }

  pub but_join : (R S rest : ℕ → Type 0) (t r s : Slots) → AdjustedBut test R t r → AdjustedBut test S r s → ((k : ℕ) → k < 2400 → R k → S k → rest k) → AdjustedBut test rest t s
  but_join R S rest t r s a b join =
      but_both rest a.within t r s a.adjusted b.within (λ k h p q. join k h (a.outside k h p) (b.outside k h q)) (Ok tt) b.adjusted

-- the patches of a layer outside the blocks that two areas meet
pub layer_clear : (q : Plan) (c d : ℕ) (area own f : Rectangle) (P Q : ℕ → Bool) → f ≡ frame_in q d → own ≡ frame_in q c
    → ((k : ℕ) → k / 300 ≡ d → InFrame f k → patch_met area f k ≡ true → P k ≡ true) → ((k : ℕ) → k / 300 ≡ d → InFrame f k → patch_met own f k ≡ true → Q k ≡ true)
    → (k : ℕ) → P k ≡ false → Q k ≡ false → k / 300 ≡ d → InLayer q c k → Clear q c area k
layer_clear q c d area own f P Q ef eo hp hq k p r e i =
    let same : frame_in q (k / 300) ≡ f = ap (frame_in q) e ∙ sym ef in
    let inside : InFrame f k = subst (λ (z : Rectangle). InFrame z k) same i.inside in
    record {
      other = ap (λ (z : Rectangle). patch_met area z k) same ∙ missed (patch_met area f k) (P k) p (hp k e inside);
      own = ap₂ (λ (y z : Rectangle). patch_met y z k) (sym eo) same ∙ missed (patch_met own f k) (Q k) r (hq k e inside);
    }
  where
    missed : (a b : Bool) → b ≡ false → (a ≡ true → b ≡ true) → a ≡ false
    missed a b e h = false_from_ne_true a (λ t. both_ways b e (h t))

-- a layer that is not open, and not the client's, has no patches
pub layer_shut : (q : Plan) (c d k : ℕ) → (d ≡ c → ⊥) → has d (listed q) ≡ false → k / 300 ≡ d → InLayer q c k → ⊥
layer_shut q c d k ne shut e i = both_ways _ (or_from _ _ (ap (λ n. has n (listed q)) e ∙ shut) (ap (λ n. eqb n c) e ∙ ne_eqb d c ne)) i.opened
