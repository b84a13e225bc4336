-- Moving a layer.
use Rattle.std.proofs.Common.{◌≡◌, ℕ, ◌<◌, ◌≤◌, true, false, eqb, [], ◌∷◌, ℤ, Some, Ok, Err, Result, sym, refl, ap, ◌∙◌, subst, ⊎_elim}
use Rattle.std.proofs.lemmas.Bool.{cases_Bool, eqb-true, eqb-false}
use Rattle.raster.specs.Picture.{Picture, Sound}
use Rattle.raster.specs.Calls.{unless, first_fault}
use Rattle.raster.specs.declared.refusal.Refusal.TheVariants.{TooFewSlots}
use Rattle.paper.specs.declared.DeskFault.{DeskFault}
use Rattle.paper.specs.Layers.{alter, at_corner}
use Rattle.paper.specs.Desk.{move_layer, no_client, not_open, because, change, fault_of, too_few_slots}
use Rattle.paper.specs.Run.{Does}
use Rattle.raster.specs.declared.rectangle.Rectangle.{Rectangle}
use Rattle.plan.specs.declared.plan.Plan.{Plan}
use Rattle.slots.specs.declared.slots.Slots.{Slots}
use Rattle.plan.specs.Frames.{has}
use Rattle.plan.specs.Plans.{listed, layers_in, frame_in, needs}
use Rattle.plan.specs.Arranged.{Arranged, OtherFrames, cornered}
use Rattle.plan.specs.Counts.{passing}
use Rattle.slots.specs.Allots.{Supplied}
use Rattle.plan.specs.Laws.{AllStillOpen}
use Rattle.plan.proofs.Lawful.{plan_laws_lem}
use Rattle.hold.specs.Held.{held, paper_of}
use Rattle.moving.specs.Phases.{on_screen, repainted}
use Rattle.moving.specs.Moves.{desk_with}
use Rattle.moving.proofs.Orders.{moved_paper}
use Rattle.moving.proofs.Outcomes.{moving_laws_lem}
use Rattle.desk.specs.declared.book.Book.{Book}
use Rattle.desk.specs.Desks.{made_for, on_pictures, state_on}
use Rattle.desk.specs.Moves.{Settled, Rearranges}
use Rattle.desk.proofs.Answered.{check_refused, check_open, check_rest}
use Rattle.desk.proofs.Checks.{one_check}
use Rattle.desk.proofs.Fits.{open_listed}
use Rattle.desk.proofs.Idle.{refused_does}
use Rattle.desk.proofs.Reordered.{repaint_fits}
use Rattle.desk.proofs.Settles.{stowed_one, sized, begins, too_few, enough, settles}

-- at the corner that is passed
pub at_corner_passed : (P : ℤ → ℤ → Type 0) {x x' y y' : ℤ} → x' ≡ x → y' ≡ y → P x' y' → P x y
at_corner_passed P {x} {x'} {y} {y'} ex ey h = subst (λ z. P z y) ex (subst (P x') ey h)

moved_still : (p q : Plan) (c : ℕ) (x y : ℤ) → has c (listed p) ≡ true → ((d : ℕ) → has d (listed q) ≡ has d (listed p)) → OtherFrames c p q → frame_in q c ≡ cornered x y (frame_in p c) → AllStillOpen p q
moved_still p q c x y was clients others own d h = record {
  listed_after = clients d ∙ h;
  wide = by (λ (f : Rectangle). f.w) (ap (λ (f : Rectangle). f.w) own);
  high = by (λ (f : Rectangle). f.h) (ap (λ (f : Rectangle). f.h) own);
}
  where
    by : (f : Rectangle → ℕ) → f (frame_in q c) ≡ f (frame_in p c) → f (frame_in p d) ≡ f (frame_in q d)
    by f e = ⊎_elim (λ (t : eqb d c ≡ true). subst (λ k. f (frame_in p k) ≡ f (frame_in q k)) (sym (eqb-true d c t)) (sym e)) (λ (t : eqb d c ≡ false). ap f (sym (others d (eqb-false d c t)))) (cases_Bool (eqb d c))

moved_leads : (s m : Picture) (p q : Plan) (t : Slots) (c : ℕ) (x y : ℤ) → layers_in q ≡ alter c (at_corner x y) (layers_in p) → desk_with s m q (held s m p t) ≡ change (paper_of s m p t) (move_layer c x y)
unfolding paper_of
moved_leads s m p q t c x y e = moved_paper s m p q c (held s m p t) x y e

module _ (s m : Picture) (b : Book) (c : ℕ) (x y : ℤ) where
  pub move_shut : (f : DeskFault) → ◌≡◌ {A = Result (Unit {0}) DeskFault} (Err f) (unless (first_fault (no_client c ∷ not_open c (on_pictures s m b) ∷ [])) tt) → Does (state_on s m b) (move_layer c x y) (Err f) (state_on s m b)
  move_shut f e = refused_does s m b (move_layer c x y) f (check_refused s m b c (too_few_slots (eqb c) (on_pictures s m b) (move_layer c x y) ∷ []) f e)

  module _ (ok : ◌≡◌ {A = Result (Unit {0}) DeskFault} (Ok tt) (unless (first_fault (no_client c ∷ not_open c (on_pictures s m b) ∷ [])) tt))
      (q : Plan) (a : Arranged b.plan q (alter c (at_corner x y) (layers_in b.plan)) (λ d. has d (listed b.plan))) (others : OtherFrames c b.plan q)
      (own : has c (listed b.plan) ≡ true → frame_in q c ≡ cornered x y (frame_in b.plan c)) where
    listed_now : (made_for s m b ≡ true) × (has c (listed b.plan) ≡ true)
    listed_now = open_listed s m b c (check_open s m b c ok)

    last_check : fault_of (on_pictures s m b) (move_layer c x y) ≡ too_few_slots (eqb c) (on_pictures s m b) (move_layer c x y)
    last_check = check_rest s m b c ok (too_few_slots (eqb c) (on_pictures s m b) (move_layer c x y) ∷ []) ∙ one_check (too_few_slots (eqb c) (on_pictures s m b) (move_layer c x y))

    still : AllStillOpen b.plan q
    still = moved_still b.plan q c x y listed_now.1 a.clients others (own listed_now.1)

    pub move_few : (f : DeskFault) → b.slots.places < passing (needs b.plan q (Some c)) → f ≡ because TooFewSlots c → Does (state_on s m b) (move_layer c x y) (Err f) (state_on s m b)
    move_few f few e =
        refused_does s m b (move_layer c x y) f
        (last_check ∙ too_few s m b listed_now.0 q (held s m b.plan b.slots) (move_layer c x y) (eqb c) (Some c) (moved_leads s m b.plan q b.slots c x y a.layers) a.screen
        (plan_laws_lem.moved b.plan q c 0 still) few ∙ ap Some (sym e))

    pub move_does : (s' m' : Picture) (b' : Book) (t' : Slots) → Sound s → passing (needs b.plan q (Some c)) ≤ b.slots.places → Supplied b.slots (needs b.plan q (Some c)) t'
        → Settled q t' b' → Rearranges b.plan q t' (frame_in b.plan c ∷ frame_in q c ∷ []) s m s' m' → Does (state_on s m b) (move_layer c x y) (Ok 0) (state_on s' m' b')
    move_does s' m' b' t' sound many supplied settled moves =
        let p = b.plan in
        let fit = sized s m b listed_now.0 t' supplied.places in
        let way = (moving_laws_lem.supplied p q b.slots t' b'.slots (Some c) b.held supplied settled.slots).0 in
        let stowed = moves.stowed fit in
        settles s m b listed_now.0 s' m' b' q t' (move_layer c x y) moves.screen_size moves.store_size a.screen supplied.places settled
        (moving_laws_lem.moved s m (repainted m' q t' (on_screen q.screen (frame_in p c)) s) stowed.0 s' m' p q b.slots t' b'.slots c x y
        (begins s m b listed_now.0 q t' b'.slots sound way) listed_now.1 a others (own listed_now.1)
        (moving_laws_lem.all_supplied p q b.slots t' c supplied)
        stowed.1 (stowed_one s stowed.0 m' p t' (frame_in q c) stowed.2) refl (moves.repaints (repaint_fits s m m' p q t' moves.store_size a.screen fit)))
        (last_check ∙ enough s m b listed_now.0 q (held s m p b.slots) (move_layer c x y) (eqb c) (Some c) (moved_leads s m p q b.slots c x y a.layers) a.screen (plan_laws_lem.moved p q c 0 still) many)
        refl
