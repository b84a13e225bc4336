-- Opening a layer.
use Rattle.std.proofs.Common.{◌≡◌, ℕ, ◌<◌, ◌≤◌, true, false, not, ◌&&◌, ◌||◌, eqb, ltb, [], ◌∷◌, ◌++◌, Some, None, Ok, Err, Result, sym, refl, ap, ◌∙◌, subst, arith}
use Rattle.std.proofs.lemmas.Bool.{or_left, and_from, both_ways}
use Rattle.std.proofs.lemmas.Bool.Decides.{nat_tests}
use Rattle.raster.specs.Picture.{Picture, sizes, Sound}
use Rattle.raster.specs.Calls.{unless, first_fault, fill_with, bitmap_after}
use Rattle.raster.specs.declared.refusal.Refusal.TheVariants.{ClientAboveSeven, AlreadyOpen, OpenBeyondSize, TooFewSlots}
use Rattle.raster.proofs.Accepts.{unless_ok, unless_err}
use Rattle.raster.proofs.Paints.{painted_sizes}
use Rattle.paper.specs.declared.DeskFault.{DeskFault}
use Rattle.paper.specs.Layers as paper
use Rattle.paper.specs.Layers.{is_open}
use Rattle.paper.specs.Slots.{hidden_count}
use Rattle.paper.specs.Desk.{open_layer, no_client, already_open, beyond_size, because, change, fault_of, too_few_slots}
use Rattle.paper.specs.Run.{State, Does}
use Rattle.raster.specs.declared.rectangle.Rectangle.{Rectangle}
use Rattle.plan.specs.declared.plan.Plan.{Plan}
use Rattle.slots.specs.declared.slots.Slots.{Slots}
use Rattle.plan.specs.Frames.{has}
use Rattle.plan.specs.Plans.{listed, layers_in, outline, frame_in, needs}
use Rattle.plan.specs.Arranged.{Arranged, OtherFrames, can_open}
use Rattle.plan.specs.Counts.{passing}
use Rattle.slots.specs.Allots.{Supplied}
use Rattle.plan.specs.Laws.{AllStillOpen}
use Rattle.plan.proofs.Lawful.{plan_laws_lem}
use Rattle.hold.specs.Held.{held, paper_of}
use Rattle.moving.specs.Phases.{on_screen, Stowed, Blanked}
use Rattle.moving.specs.Moves.{desk_with, fresh}
use Rattle.moving.proofs.Orders.{opened_paper}
use Rattle.moving.proofs.Blanks.{filled_zero}
use Rattle.moving.proofs.Outcomes.{moving_laws_lem}
use Rattle.desk.specs.declared.book.Book.{Book}
use Rattle.desk.specs.Desks.{made_for, on_pictures, state_on}
use Rattle.desk.specs.Moves.{Settled}
use Rattle.desk.proofs.Checks.{first_refuse, first_pass, one_check, none_refuses}
use Rattle.desk.proofs.Counted.{used_is}
use Rattle.desk.proofs.Fits.{open_fits}
use Rattle.desk.proofs.Idle.{refused_does}
use Rattle.desk.proofs.Settles.{begins, too_few, enough, settles}

-- filling keeps the size
pub fill_sizes : (s : Picture) (f : Rectangle) → sizes (bitmap_after s (fill_with 3 0 f.x f.y f.w f.h)) ≡ sizes s
fill_sizes s f = ap sizes (filled_zero s f) ∙ painted_sizes s (on_screen (sizes s) f) (λ _ _. 0)

-- a layer that was there is another one
not_own : (p : Plan) (c d : ℕ) → has c (listed p) ≡ false → has d (listed p) ≡ true → d ≡ c → ⊥
not_own p c d none h e = both_ways (has c (listed p)) none (ap (λ k. has k (listed p)) (sym e) ∙ h)

opened_still : (p q : Plan) (c : ℕ) → has c (listed p) ≡ false → ((d : ℕ) → has d (listed q) ≡ (has d (listed p) || eqb c d)) → OtherFrames c p q → AllStillOpen p q
opened_still p q c none clients others d h = record {
  listed_after = clients d ∙ or_left (has d (listed p)) (eqb c d) h;
  wide = ap (λ (f : Rectangle). f.w) (sym (others d (not_own p c d none h)));
  high = ap (λ (f : Rectangle). f.h) (sym (others d (not_own p c d none h)));
}

opened_leads : (s m : Picture) (p q : Plan) (t : Slots) (c : ℕ) (f : Rectangle) → has c (listed p) ≡ false → layers_in q ≡ layers_in p ++ (outline c f ∷ [])
    → desk_with s m q (fresh c (held s m p t)) ≡ change (paper_of s m p t) (open_layer c f.x f.y f.w f.h)
unfolding paper_of
opened_leads s m p q t c f none e = opened_paper s m p q c f (held s m p t) none e

-- the same, by two books that stand for one desk
same_state : (s m : Picture) (a b : Book) → on_pictures s m a ≡ on_pictures s m b → state_on s m a ≡ state_on s m b
same_state s m a b e = λ i. record { paper = e i; screen = s; used = (used_is s m a ∙ ap hidden_count e ∙ sym (used_is s m b)) i }

module _ (s m : Picture) (b : Book) (c : ℕ) (f : Rectangle) where
  pub open_shut : (fault : DeskFault) → ◌≡◌ {A = Result (Unit {0}) DeskFault} (Err fault) (unless (first_fault (no_client c ∷ already_open c (on_pictures s m b) ∷ beyond_size c f.w f.h ∷ [])) tt)
      → Does (state_on s m b) (open_layer c f.x f.y f.w f.h) (Err fault) (state_on s m b)
  open_shut fault e =
      let d = on_pictures s m b in
      let call = open_layer c f.x f.y f.w f.h in
      refused_does s m b call fault
      (first_refuse (no_client c ∷ already_open c d ∷ beyond_size c f.w f.h ∷ []) (too_few_slots (λ _. false) d call ∷ []) fault
      (unless_err (first_fault (no_client c ∷ already_open c d ∷ beyond_size c f.w f.h ∷ [])) tt fault e))

  module _ (a : Book) (fits : made_for s m a ≡ true) (same : on_pictures s m a ≡ on_pictures s m b)
      (ok : ◌≡◌ {A = Result (Unit {0}) DeskFault} (Ok tt) (unless (first_fault (no_client c ∷ already_open c (on_pictures s m b) ∷ beyond_size c f.w f.h ∷ [])) tt)) where
    passes : first_fault (no_client c ∷ already_open c (on_pictures s m a) ∷ beyond_size c f.w f.h ∷ []) ≡ None
    passes =
        ap (λ (d : paper.Desk). first_fault (no_client c ∷ already_open c d ∷ beyond_size c f.w f.h ∷ [])) same
        ∙ (unless_ok (first_fault (no_client c ∷ already_open c (on_pictures s m b) ∷ beyond_size c f.w f.h ∷ [])) tt tt ok).0

    tests : (ltb 7 c ≡ false) × (is_open c (on_pictures s m a) ≡ false) × ((eqb f.w 0 || (ltb 320 f.w || (eqb f.h 0 || ltb 240 f.h))) ≡ false)
    tests = none_refuses (ltb 7 c) (is_open c (on_pictures s m a)) (eqb f.w 0 || (ltb 320 f.w || (eqb f.h 0 || ltb 240 f.h))) (because ClientAboveSeven c) (because AlreadyOpen c) (because OpenBeyondSize c) passes

    none : has c (listed a.plan) ≡ false
    none = sym (open_fits s m a c fits) ∙ tests.1

    pub low : c < 8
    low = let e = tests.0 in grind (arith, nat_tests)

    pub can : can_open a.plan c f ≡ true
    can =
        let e = tests.0 in
        let z = tests.2 in
        let wide : ltb f.w 321 ≡ true = grind (arith, nat_tests) in
        let high : ltb f.h 241 ≡ true = grind (arith, nat_tests) in
        let client : ltb c 8 ≡ true = grind (arith, nat_tests) in
        and_from (ltb c 8) (not (has c (listed a.plan)) && (ltb f.w 321 && ltb f.h 241)) client
        (and_from (not (has c (listed a.plan))) (ltb f.w 321 && ltb f.h 241) (ap not none) (and_from (ltb f.w 321) (ltb f.h 241) wide high))

    module _ (q : Plan) (arranged : Arranged a.plan q (layers_in a.plan ++ (outline c f ∷ [])) (λ d. has d (listed a.plan) || eqb c d)) (others : OtherFrames c a.plan q) where
      last_check : fault_of (on_pictures s m a) (open_layer c f.x f.y f.w f.h) ≡ too_few_slots (λ _. false) (on_pictures s m a) (open_layer c f.x f.y f.w f.h)
      last_check =
          let few = too_few_slots (λ _. false) (on_pictures s m a) (open_layer c f.x f.y f.w f.h) in
          first_pass (no_client c ∷ already_open c (on_pictures s m a) ∷ beyond_size c f.w f.h ∷ []) (few ∷ []) passes ∙ one_check few

      still : AllStillOpen a.plan q
      still = opened_still a.plan q c none arranged.clients others

      pub open_few : (fault : DeskFault) → a.slots.places < passing (needs a.plan q None) → fault ≡ because TooFewSlots c → Does (state_on s m b) (open_layer c f.x f.y f.w f.h) (Err fault) (state_on s m b)
      open_few fault few e =
          let call = open_layer c f.x f.y f.w f.h in
          refused_does s m b call fault
          (ap (λ (d : paper.Desk). fault_of d call) (sym same)
          ∙ last_check ∙ too_few s m a fits q (fresh c (held s m a.plan a.slots)) call (λ _. false) None (opened_leads s m a.plan q a.slots c f none arranged.layers) arranged.screen
          (plan_laws_lem.unmoved a.plan q 0 still) few ∙ ap Some (sym e))

      pub open_does : (m₁ s' m' : Picture) (b' : Book) (t' : Slots) → Sound s → passing (needs a.plan q None) ≤ a.slots.places → Supplied a.slots (needs a.plan q None) t' → frame_in q c ≡ f
          → sizes s' ≡ sizes s → sizes m' ≡ sizes m → Settled q t' b' → Stowed s a.plan t' (on_screen a.plan.screen f) m m₁ → Blanked t' c m₁ m'
          → s' ≡ bitmap_after s (fill_with 3 0 f.x f.y f.w f.h) → Does (state_on s m b) (open_layer c f.x f.y f.w f.h) (Ok 0) (state_on s' m' b')
      open_does m₁ s' m' b' t' sound many supplied own es em settled stowed blanked zeros =
          let p = a.plan in
          let call = open_layer c f.x f.y f.w f.h in
          let way = (moving_laws_lem.supplied p q a.slots t' b'.slots None a.held supplied settled.slots).0 in
          subst (λ (z : State). Does z call (Ok 0) (state_on s' m' b')) (same_state s m a b same)
          (settles s m a fits s' m' b' q t' call es em arranged.screen supplied.places settled
          (moving_laws_lem.opened s m m₁ s' m' p q a.slots t' b'.slots c f (begins s m a fits q t' b'.slots sound way) can arranged others own stowed blanked zeros)
          (last_check ∙ enough s m a fits q (fresh c (held s m p a.slots)) call (λ _. false) None (opened_leads s m p q a.slots c f none arranged.layers) arranged.screen (plan_laws_lem.unmoved p q 0 still) many)
          refl)
