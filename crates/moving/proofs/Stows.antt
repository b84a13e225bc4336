-- Stowing and repainting some places and then others.
use Rattle.std.proofs.Common.{rules, tests, ◌≡◌, ℕ, ◌%◌, ◌^◌, ◌<◌, ◌≤◌, Bool, true, false, cond, ◌&&◌, ◌||◌, eqb, Some, None, Option, sym, refl, ap, ◌∙◌, subst, ap₂, mod-lt, arith, pow_mono}
use Rattle.std.proofs.lemmas.Bool.Decides.{nat_tests}
use Rattle.std.proofs.lemmas.Bool.{and_parts, and_from, and_left, or_left, or_right, both_ways, eqb-true, eq-eqb, cond-true, cond-false}
use Rattle.std.proofs.lemmas.Nat.{pow_pos}
use Rattle.raster.specs.Picture.{Picture, sizes, painted, with_pixel}
use Rattle.raster.proofs.Paints.{painted_at, painted_sizes, painted_same, painted_none, painted_more}
use Rattle.paper.specs.Slots.{slots_of}
use Rattle.plan.specs.declared.plan.Plan.{Plan}
use Rattle.slots.specs.declared.slots.Slots.{Slots}
use Rattle.hold.specs.declared.spot.Spot.TheVariants.{Store}
use Rattle.hold.specs.Spots.{Settable, own_slot}
use Rattle.slots.proofs.Spares.{slot_low}
use Rattle.hold.proofs.Places.{Within, slot_within, square, some_slot}
use Rattle.moving.specs.declared.backing.Backing.{Backing}
use Rattle.moving.specs.declared.backing.Backing.TheVariants.{Bare, Alone, Kept}
use Rattle.moving.specs.Phases.{Fitting, store_x, just, behind, Stowed, changes, taken, repainted}
use Rattle.moving.proofs.Places.{behind_one, behind_keeps}

-- Values of a picture fit its depth.
abbrev pub Small : Picture → Type 0
Small s = (x y : ℕ) → s.at x y < 2 ^ s.depth

pub is_just : (x y a b : ℕ) → just x y a b ≡ true → (a ≡ x) × (b ≡ y)
is_just x y a b e = let q = and_parts (eqb a x) (eqb b y) e in (eqb-true a x q.0, eqb-true b y q.1)

module _ (s : Picture) (p : Plan) (t : Slots) where
  pub stowed_none : (at : ℕ → ℕ → Bool) (m : Picture) → ((x y : ℕ) → at x y ≡ false) → Stowed s p t at m m
  stowed_none at m n = record { size = refl; copied = λ x y a b h e. absurd (both_ways (at x y) (n x y) h); others = λ a b h. refl }

  pub stowed_as : (f g : ℕ → ℕ → Bool) (m m' : Picture) → ((x y : ℕ) → g x y ≡ f x y) → Stowed s p t f m m' → Stowed s p t g m m'
  stowed_as f g m m' e d = record {
    size = d.size;
    copied = λ x y a b h k. d.copied x y a b (sym (e x y) ∙ h) k;
    others = λ a b h. d.others a b (λ x y i k. h x y (e x y ∙ i) k);
  }

  -- Nothing is copied from a place whose pixel has no place in the store.
  pub stowed_skip : (x y : ℕ) (m : Picture) → ((a b : ℕ) → behind m.width p t x y ≡ Kept a b → ⊥) → Stowed s p t (just x y) m m
  stowed_skip x y m n = record {
    size = refl;
    copied = λ x' y' a b h k. let q = is_just x y x' y' h in absurd (n a b (ap₂ (behind m.width p t) (sym q.0) (sym q.1) ∙ k));
    others = λ a b h. refl;
  }

  pub stowed_one : (x y a b : ℕ) (m m' : Picture) → behind m.width p t x y ≡ Kept a b → m' ≡ with_pixel m a b (s.at x y) → Stowed s p t (just x y) m m'
  stowed_one x y a b m m' e w = record {
    size = ap sizes w ∙ painted_sizes m _ _;
    copied = λ x' y' a' b' h k.
        let q = is_just x y x' y' h in
        let k' : behind m.width p t x y ≡ Kept a' b' = ap₂ (behind m.width p t) (sym q.0) (sym q.1) ∙ k in
        let ea : a' ≡ a = cc in
        let eb : b' ≡ b = cc in
        ap (λ (n : Picture). n.at a' b') w ∙ painted_at m (just a b) (λ _ _. s.at x y) a' b'
        ∙ cond-true (just a b a' b') _ _ (and_from _ _ (eq-eqb a' a ea) (eq-eqb b' b eb)) ∙ ap₂ s.at (sym q.0) (sym q.1);
    others = λ a' b' h. ap (λ (n : Picture). n.at a' b') w ∙ painted_at m (just a b) (λ _ _. s.at x y) a' b' ∙ cond-false (just a b a' b') _ _ (other a' b' h (just a b a' b') refl);
  }
    where
      other : (a' b' : ℕ) → ((x' y' : ℕ) → just x y x' y' ≡ true → behind m.width p t x' y' ≡ Kept a' b' → ⊥) → (c : Bool) → just a b a' b' ≡ c → c ≡ false
      other a' b' h true c =
          let q = is_just a b a' b' c in
          absurd (h x y (and_from _ _ (eq-eqb x x refl) (eq-eqb y y refl)) (e ∙ ap₂ Kept (sym q.0) (sym q.1)))
      other a' b' h false c = refl

  pub stowed_join : (f g : ℕ → ℕ → Bool) (m m' m'' : Picture) → Stowed s p t f m m' → Stowed s p t g m' m'' → Stowed s p t (λ x y. f x y || g x y) m m''
  stowed_join f g m m' m'' d e = record {
    size = e.size ∙ d.size;
    copied = λ x y a b h k. late x y a b h k (g x y) refl;
    others = λ a b h. e.others a b (λ x y i k. h x y (or_right (f x y) (g x y) i) (early x y ∙ k)) ∙ d.others a b (λ x y i k. h x y (or_left (f x y) (g x y) i) k);
  }
    where
      early : (x y : ℕ) → behind m.width p t x y ≡ behind m'.width p t x y
      early x y = ap (λ z. behind z.width p t x y) (sym d.size)

      late : (x y a b : ℕ) → (f x y || g x y) ≡ true → behind m.width p t x y ≡ Kept a b → (c : Bool) → g x y ≡ c → m''.at a b ≡ s.at x y
      late x y a b h k true c = e.copied x y a b c (sym (early x y) ∙ k)
      late x y a b h k false c =
          e.others a b (λ x' y' i k'.
          let q = behind_one m.width p t x y x' y' a b k (early x' y' ∙ k') in
          both_ways (g x y) c (ap₂ g q.0 q.1 ∙ i))
          ∙ d.copied x y a b (grind (arith, nat_tests)) k

or_and : (f g c : Bool) → ((f || g) && c) ≡ ((g && c) || (f && c))
or_and f g c = grind (arith, nat_tests)

module _ (m : Picture) (p : Plan) (t : Slots) where
  pub repainted_sizes : (at : ℕ → ℕ → Bool) (s : Picture) → sizes (repainted m p t at s) ≡ sizes s
  unfolding repainted
  repainted_sizes at s = painted_sizes s _ _

  pub repainted_at : (at : ℕ → ℕ → Bool) (s : Picture) (x y : ℕ)
      → (repainted m p t at s).at x y ≡ cond (at x y && changes (behind m.width p t x y)) (taken s.depth m (behind m.width p t x y)) (s.at x y)
  unfolding repainted
  repainted_at at s x y = painted_at s _ _ x y

  pub repainted_none : (at : ℕ → ℕ → Bool) (s : Picture) → ((x y : ℕ) → at x y ≡ false) → repainted m p t at s ≡ s
  unfolding repainted
  repainted_none at s n = painted_none s _ _ (λ x y. and_left (at x y) _ (n x y))

  pub repainted_as : (f g : ℕ → ℕ → Bool) (s : Picture) → ((x y : ℕ) → f x y ≡ g x y) → repainted m p t f s ≡ repainted m p t g s
  unfolding repainted
  repainted_as f g s e = painted_same s _ _ _ _ (λ x y. ap (λ b. b && changes (behind m.width p t x y)) (e x y)) (λ x y h. refl)

  pub repainted_join : (f g : ℕ → ℕ → Bool) (s : Picture) → repainted m p t g (repainted m p t f s) ≡ repainted m p t (λ x y. f x y || g x y) s
  unfolding repainted painted
  repainted_join f g s =
      painted_more s (λ x y. f x y && changes (behind m.width p t x y)) (λ x y. g x y && changes (behind m.width p t x y)) (λ x y. (f x y || g x y) && changes (behind m.width p t x y)) _ _
      (λ x y. or_and (f x y) (g x y) (changes (behind m.width p t x y))) (λ x y h. refl)

  -- A place with a pixel on the screen alone stays; any other gets what there is for it.
  pub repainted_skip : (x y : ℕ) (s : Picture) → behind m.width p t x y ≡ Alone → repainted m p t (just x y) s ≡ s
  unfolding repainted
  repainted_skip x y s e = painted_none s _ _ (λ a b. none a b (just x y a b) refl)
    where
      none : (a b : ℕ) (c : Bool) → just x y a b ≡ c → (c && changes (behind m.width p t a b)) ≡ false
      none a b true h = let q = is_just x y a b h in ap changes (ap₂ (behind m.width p t) q.0 q.1 ∙ e)
      none a b false h = refl

  pub repainted_one : (x y v : ℕ) (s : Picture) → changes (behind m.width p t x y) ≡ true → v ≡ taken s.depth m (behind m.width p t x y)
      → with_pixel s x y v ≡ repainted m p t (just x y) s
  unfolding repainted
  repainted_one x y v s e ev = painted_same s _ _ _ _ (λ a b. sym (both a b (just x y a b) refl)) (λ a b h. let q = is_just x y a b h in ev ∙ ap (taken s.depth m) (ap₂ (behind m.width p t) (sym q.0) (sym q.1)))
    where
      both : (a b : ℕ) (c : Bool) → just x y a b ≡ c → (c && changes (behind m.width p t a b)) ≡ c
      both a b true h = let q = is_just x y a b h in ap changes (ap₂ (behind m.width p t) q.0 q.1) ∙ e
      both a b false h = refl

-- ── One pixel, as the code does it ──

-- A store with a slot is 16 wide at least.
pub wide_enough : (s m : Picture) (p : Plan) (t : Slots) (w : ℕ) → Fitting s m p t → w ≡ m.width → 0 < t.places → 16 ≤ w
wide_enough s m p t w f e h =
    let q : 0 < slots_of (sizes m) s.depth = subst (λ (n : ℕ). 0 < n) f.places h in
    omega (arith, (square (sizes m) 0 (some_slot (sizes m) s.depth 0 q).0).wide)

module _ (s m : Picture) (p : Plan) (t : Slots) (x y w : ℕ) (fit : Fitting s m p t) (ew : w ≡ m.width) (r : Backing) (er : (0 < t.places → 16 ≤ w) → r ≡ behind w p t x y) where
  pub behind_is : behind m.width p t x y ≡ r
  behind_is = ap (λ n. behind n p t x y) (sym ew) ∙ sym (er (wide_enough s m p t w fit ew))

  -- the place of a pixel that is kept
  pub kept_within : (a b : ℕ) → r ≡ Kept a b → Within s m (Store a b)
  kept_within a b e =
      let k = behind_keeps m.width p t x y a b (behind_is ∙ e) in
      let slot : ℕ = own_slot t k.client k.u k.v in
      let low : slot < slots_of (sizes m) s.depth = subst (λ (n : ℕ). slot < n) fit.places (slot_low t _ k.stored) in
      let i = slot_within (sizes m) s.depth slot (k.u % 16) (k.v % 16) low (omega arith) (omega arith) in
      subst (λ (n : ℕ). Within s m (Store n b)) (sym k.column) (subst (λ (n : ℕ). Within s m (Store (store_x m.width t k.client k.u k.v) n)) (sym k.row) i)

  pub stow_kept : (a b v : ℕ) (m' : Picture) → r ≡ Kept a b → Small s → v ≡ s.at x y
      → (Settable m a b v → m' ≡ with_pixel m a b v) → Stowed s p t (just x y) m m'
  stow_kept a b v m' e small ev h =
      let i = kept_within a b e in
      let less : s.at x y < 2 ^ s.depth = small x y in
      let deep : 2 ^ s.depth ≤ 2 ^ m.depth = pow_mono i.2 in
      stowed_one s p t x y a b m m' (behind_is ∙ e) (h (record { across = i.0; down = i.1; small = omega arith }) ∙ ap (with_pixel m a b) ev)

  pub stow_rest : ((a b : ℕ) → r ≡ Kept a b → ⊥) → Stowed s p t (just x y) m m
  stow_rest n = stowed_skip s p t x y m (λ a b k. n a b (sym behind_is ∙ k))

taken_small : (depth : ℕ) (m : Picture) (r : Backing) → taken depth m r < 2 ^ depth
taken_small depth m Bare = pow_pos depth
taken_small depth m Alone = pow_pos depth
taken_small depth m (Kept a b) = mod-lt _ (pow_pos depth)

some_taken : (b : Bool) (v n : ℕ) → Some v ≡ cond b (Some n) None → (b ≡ true) × (v ≡ n)
some_taken b v n e = search (rules, tests)

none_taken : (r : Backing) (n : ℕ) → None ≡ cond (changes r) (Some n) None → r ≡ Alone
none_taken r n e = search (rules, tests)

module _ (s m : Picture) (p : Plan) (t : Slots) (x y w d : ℕ) (fit : Fitting s m p t) (ew : w ≡ m.width) (ed : d ≡ s.depth) (r : Backing) (er : (0 < t.places → 16 ≤ w) → r ≡ behind w p t x y) (o : Option ℕ)
    (eo : o ≡ cond (changes r) (Some (taken d m r)) None) where
  got : o ≡ cond (changes r) (Some (taken s.depth m r)) None
  got = eo ∙ ap (λ n. cond (changes r) (Some (taken n m r)) None) ed

  pub paint_some : (v : ℕ) (s' : Picture) → o ≡ Some v → x < s.width → y < s.height → (Settable s x y v → s' ≡ with_pixel s x y v) → s' ≡ repainted m p t (just x y) s
  paint_some v s' e hx hy h =
      let q = some_taken (changes r) v (taken s.depth m r) (sym e ∙ got) in
      let b = behind_is s m p t x y w fit ew r er in
      let small : v < 2 ^ s.depth = subst (λ (n : ℕ). n < 2 ^ s.depth) (sym q.1) (taken_small s.depth m r) in
      h (record { across = hx; down = hy; small = small }) ∙ repainted_one m p t x y v s (ap changes b ∙ q.0) (q.1 ∙ ap (taken s.depth m) (sym b))

  pub paint_none : o ≡ None → s ≡ repainted m p t (just x y) s
  paint_none e = sym (repainted_skip m p t x y s (behind_is s m p t x y w fit ew r er ∙ none_taken r (taken s.depth m r) (sym e ∙ got)))

pub none_is : (o : Option ℕ) → ((v : ℕ) → o ≡ Some v → ⊥) → o ≡ None
none_is o n = search (rules, tests)
