-- Patches counted by their numbers are those that a desk on paper counts.
use Rattle.std.proofs.Common.{◌≡◌, ℕ, ◌*◌, ◌<◌, ◌≤◌, Bool, true, false, cond, ◌&&◌, ◌||◌, eqb, ltb, ◌⊎◌, sym, refl, ap, ◌∙◌, inl, inr, ⊎_elim, arith}
use Rattle.std.proofs.lemmas.Bool.{eqb-true, or_from, and_from, and_left, and_right, lt-ltb, le-ltb, both_ways}
use Rattle.paper.specs.Slots.{hidden_in, patches_in, count_patches, hidden_count, slots_needed}
use Rattle.raster.specs.declared.rectangle.Rectangle.{Rectangle}
use Rattle.plan.specs.declared.plan.Plan.{Plan}
use Rattle.plan.specs.Frames.{has}
use Rattle.plan.specs.Plans.{listed, layers_in, frame_in, outline, above, hidden_patch}
use Rattle.plan.specs.Counts.{passing}
use Rattle.plan.specs.Laws.{desk_in, AllStillOpen, PlanLaws}
use Rattle.plan.proofs.Orders.{flip}
use Rattle.plan.proofs.Sifts.{open_low}
use Rattle.plan.proofs.Patches.{hidden_closed, hidden_at, no_area}
use Rattle.plan.proofs.Regroup.{tally, tally_none, tally_alike, tally_clients, by_number, passing_parts, layer_parts}

-- a patch number at column i and row j lies outside a frame
abbrev pub Outside : Rectangle → (i j : ℕ) → Type 0
Outside f i j = (f.w ≤ 16 * i) ⊎ (f.h ≤ 16 * j)

-- no patch outside a layer passes a test
pub record Bounded (p : Plan) (test : ℕ → ℕ → ℕ → Bool) : Type 0 where
  pub closed : (c i j : ℕ) → has c (listed p) ≡ false → test c i j ≡ false
  pub outside : (c i j : ℕ) → has c (listed p) ≡ true → Outside (frame_in p c) i j → test c i j ≡ false

abbrev Agree : Plan → (test other : ℕ → ℕ → ℕ → Bool) → Type 0
Agree p test other = (c i j : ℕ) → has c (listed p) ≡ true → 16 * i < (frame_in p c).w → 16 * j < (frame_in p c).h → test c i j ≡ other c i j

pub regrouped : (p : Plan) (test other : ℕ → ℕ → ℕ → Bool) → Bounded p test → Agree p test other → passing (by_number test) ≡ count_patches other (layers_in p)
regrouped p test other b agree =
    passing_parts test
    ∙ tally_alike (λ c. tally (λ j. tally (λ i. cond (test c i j) 1 0) 20) 15) (λ c. cond (has c (listed p)) (patches_in (other c) (outline c (frame_in p c))) 0) 8
    (λ c _. share c (has c (listed p)) refl)
    ∙ tally_clients other p.frames 8 (listed p) p.once (open_low p)
  where
    share : (c : ℕ) (t : Bool) → has c (listed p) ≡ t → tally (λ j. tally (λ i. cond (test c i j) 1 0) 20) 15 ≡ cond t (patches_in (other c) (outline c (frame_in p c))) 0
    share c true e = layer_parts (test c) (other c) c (frame_in p c) (p.narrow c) (p.short c) (λ i j o. b.outside c i j e o) (λ i j a d. agree c i j e a d)
    share c false e = tally_none _ 15 (λ j _. tally_none _ 20 (λ i _. ap (λ t. cond t 1 0) (b.closed c i j e)))

-- ── Hidden patches ──

abbrev hidden_of : Plan → (c i j : ℕ) → Bool
hidden_of p c i j = hidden_in p.screen (layers_in p) c i j

pub hidden_bounded : (p : Plan) → Bounded p (hidden_of p)
hidden_bounded p = record {
  closed = λ c i j h. hidden_closed p.screen p.frames c i j (listed p) h;
  outside = λ c i j h o.
      hidden_at p.screen p.frames c i j (listed p) h ∙ sym (no_area p.screen (above c (layers_in p)) (frame_in p c) (frame_in p c) (16 * i) (16 * j) refl o);
}

pub hidden_counted : (p : Plan) (slots : ℕ) → passing (hidden_patch p) ≡ hidden_count (desk_in p slots)
unfolding hidden_count
hidden_counted p slots = regrouped p (hidden_of p) (hidden_of p) (hidden_bounded p) (λ c i j _ _ _. refl)

-- ── Patches in need ──

-- the patch is one of a client's layer
abbrev own_patch : Plan → (own c i j : ℕ) → Bool
own_patch p own c i j = has own (listed p) && (eqb c own && (ltb (16 * i) (frame_in p own).w && ltb (16 * j) (frame_in p own).h))

own_bounded : (p : Plan) (own : ℕ) → Bounded p (own_patch p own)
own_bounded p own = record { closed = λ c i j h. closed c i j h (eqb c own) refl; outside = λ c i j h o. outside c i j o (eqb c own) refl }
  where
    closed : (c i j : ℕ) → has c (listed p) ≡ false → (t : Bool) → eqb c own ≡ t
        → (has own (listed p) && (t && (ltb (16 * i) (frame_in p own).w && ltb (16 * j) (frame_in p own).h))) ≡ false
    closed c i j h true e = and_left _ _ (ap (λ k. has k (listed p)) (sym (eqb-true c own e)) ∙ h)
    closed c i j h false e = and_right (has own (listed p)) false refl

    small : (c i j : ℕ) → Outside (frame_in p c) i j → (ltb (16 * i) (frame_in p c).w && ltb (16 * j) (frame_in p c).h) ≡ false
    small c i j o =
        ⊎_elim (λ (l : (frame_in p c).w ≤ 16 * i). and_left _ _ (le-ltb (16 * i) (frame_in p c).w l)) (λ (l : (frame_in p c).h ≤ 16 * j). and_right _ _ (le-ltb (16 * j) (frame_in p c).h l)) o

    outside : (c i j : ℕ) → Outside (frame_in p c) i j → (t : Bool) → eqb c own ≡ t
        → (has own (listed p) && (t && (ltb (16 * i) (frame_in p own).w && ltb (16 * j) (frame_in p own).h))) ≡ false
    outside c i j o true e =
        and_right (has own (listed p)) _ (ap (λ k. ltb (16 * i) (frame_in p k).w && ltb (16 * j) (frame_in p k).h) (sym (eqb-true c own e)) ∙ small c i j o)
    outside c i j o false e = and_right (has own (listed p)) false refl

own_inside : (p : Plan) (own c i j : ℕ) → has c (listed p) ≡ true → 16 * i < (frame_in p c).w → 16 * j < (frame_in p c).h → own_patch p own c i j ≡ eqb own c
own_inside p own c i j h hi hj = go (eqb c own) refl ∙ flip c own
  where
    go : (t : Bool) → eqb c own ≡ t → own_patch p own c i j ≡ eqb c own
    go true e =
        let same = eqb-true c own e in
        and_from _ _ (ap (λ k. has k (listed p)) (sym same) ∙ h)
        (and_from _ _ e (ap (λ k. ltb (16 * i) (frame_in p k).w && ltb (16 * j) (frame_in p k).h) (sym same)
        ∙ and_from _ _ (lt-ltb (16 * i) (frame_in p c).w hi) (lt-ltb (16 * j) (frame_in p c).h hj))) ∙ sym e
    go false e = and_right _ _ (and_left _ _ e) ∙ sym e

-- what was hidden before lies in the layers after
before_bounded : (before after : Plan) → AllStillOpen before after → Bounded after (hidden_of before)
before_bounded before after still = record {
  closed = λ c i j h. closed c i j h (has c (listed before)) refl;
  outside = λ c i j h o. outside c i j o (has c (listed before)) refl;
}
  where
    closed : (c i j : ℕ) → has c (listed after) ≡ false → (t : Bool) → has c (listed before) ≡ t → hidden_of before c i j ≡ false
    closed c i j h true e = absurd (both_ways _ h (still c e).listed_after)
    closed c i j h false e = (hidden_bounded before).closed c i j e

    outside : (c i j : ℕ) → Outside (frame_in after c) i j → (t : Bool) → has c (listed before) ≡ t → hidden_of before c i j ≡ false
    outside c i j o true e =
        (hidden_bounded before).outside c i j e
        (⊎_elim (λ (l : (frame_in after c).w ≤ 16 * i). inl (omega (arith, (still c e).wide))) (λ (l : (frame_in after c).h ≤ 16 * j). inr (omega (arith, (still c e).high))) o)
    outside c i j o false e = (hidden_bounded before).closed c i j e

-- the patches in need, where those of the moved layer are all of some clients' patches
module _ (before after : Plan) (slots : ℕ) (also : ℕ → Bool) (still : AllStillOpen before after) (moved : (c i j : ℕ) → Bool) (m : Bounded after moved)
    (same : Agree after moved (λ c i j. also c)) where
  pub needs_counted : passing (by_number (λ c i j. hidden_of before c i j || (hidden_of after c i j || moved c i j))) ≡ slots_needed also (desk_in before slots) (desk_in after slots)
  unfolding slots_needed
  needs_counted =
      let b = before_bounded before after still in
      let a = hidden_bounded after in
      regrouped after
      (λ c i j. hidden_of before c i j || (hidden_of after c i j || moved c i j))
      (λ c i j. hidden_of before c i j || (hidden_of after c i j || also c))
      (record {
        closed = λ c i j h. or_from _ _ (b.closed c i j h) (or_from _ _ (a.closed c i j h) (m.closed c i j h));
        outside = λ c i j h o. or_from _ _ (b.outside c i j h o) (or_from _ _ (a.outside c i j h o) (m.outside c i j h o));
      })
      (λ c i j h hi hj. ap (λ t. hidden_of before c i j || (hidden_of after c i j || t)) (same c i j h hi hj))

pub plan_laws_lem : PlanLaws
plan_laws_lem = record {
  hidden = hidden_counted;
  moved = λ before after client slots still.
      needs_counted before after slots (λ c. eqb client c) still (own_patch after client) (own_bounded after client) (own_inside after client);
  unmoved = λ before after slots still.
      needs_counted before after slots (λ _. false) still (λ _ _ _. false) (record { closed = λ _ _ _ _. refl; outside = λ _ _ _ _ _. refl }) (λ _ _ _ _ _ _. refl);
}
