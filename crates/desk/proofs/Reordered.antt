-- Raising, lowering and closing a layer.
use Rattle.std.proofs.Common.{◌≡◌, ℕ, ◌<◌, ◌≤◌, true, false, not, ◌&&◌, eqb, [], ◌∷◌, Some, Ok, Err, Result, sym, refl, ap, ◌∙◌, None}
use Rattle.raster.specs.Picture.{Picture, sizes, Sound}
use Rattle.raster.specs.Calls.{unless, first_fault}
use Rattle.raster.specs.declared.refusal.Refusal.TheVariants.{TooFewSlots}
use Rattle.paper.specs.declared.DeskFault.{DeskFault}
use Rattle.paper.specs.Layers as paper
use Rattle.paper.specs.Layers.{without}
use Rattle.paper.specs.Desk.{Call, close_layer, client_of, no_client, not_open, because, change, accepted_value, fault_of, too_few_slots}
use Rattle.paper.specs.Run.{Does}
use Rattle.raster.specs.declared.rectangle.Rectangle.{Rectangle}
use Rattle.plan.specs.declared.plan.Plan.{Plan}
use Rattle.slots.specs.declared.slots.Slots.{Slots}
use Rattle.plan.specs.Frames.{has}
use Rattle.plan.specs.Plans.{listed, layers_in, frame_in, needs}
use Rattle.plan.specs.Arranged.{Arranged, SameFrames}
use Rattle.plan.specs.Counts.{passing}
use Rattle.slots.specs.Allots.{Supplied}
use Rattle.plan.specs.Laws.{AllStillOpen}
use Rattle.plan.proofs.Lawful.{plan_laws_lem}
use Rattle.hold.specs.Held.{held, paper_of}
use Rattle.moving.specs.Phases as phases
use Rattle.moving.specs.Phases.{on_screen, Stowed, repainted}
use Rattle.moving.specs.Moves.{desk_with}
use Rattle.moving.specs.Laws.{Begins, Leaves}
use Rattle.moving.proofs.Orders.{raised_paper, lowered_paper}
use Rattle.moving.proofs.Outcomes.{moving_laws_lem}
use Rattle.moving.proofs.Areas.{fitting_same}
use Rattle.desk.specs.declared.book.Book.{Book}
use Rattle.desk.specs.Desks.{made_for, on_pictures, state_on}
use Rattle.desk.specs.Moves.{Settled, Rearranges, Reorders, raises, lowers}
use Rattle.desk.proofs.Answered.{check_refused, check_open, check_rest}
use Rattle.desk.proofs.Checks.{one_check}
use Rattle.desk.proofs.Fits.{open_listed}
use Rattle.desk.proofs.Idle.{refused_does}
use Rattle.desk.proofs.Settles.{stowed_one, sized, begins, too_few, enough, settles}

-- ── What raising and lowering have in common ──

module _ (p q : Plan) (c : ℕ) where
  order_screen : {call : Call} → Reorders p q c call → q.screen ≡ p.screen
  order_screen (raises a f) = a.screen
  order_screen (lowers a f) = a.screen

  order_still : {call : Call} → Reorders p q c call → AllStillOpen p q
  order_still (raises a f) d h = record { listed_after = a.clients d ∙ h; wide = ap (λ (z : Rectangle). z.w) (sym (f d)); high = ap (λ (z : Rectangle). z.h) (sym (f d)) }
  order_still (lowers a f) d h = record { listed_after = a.clients d ∙ h; wide = ap (λ (z : Rectangle). z.w) (sym (f d)); high = ap (λ (z : Rectangle). z.h) (sym (f d)) }

  order_leads : (s m : Picture) (t : Slots) {call : Call} → Reorders p q c call → desk_with s m q (held s m p t) ≡ change (paper_of s m p t) call
  unfolding paper_of
  order_leads s m t (raises a f) = raised_paper s m p q c (held s m p t) a.layers
  order_leads s m t (lowers a f) = lowered_paper s m p q c (held s m p t) a.layers

  order_checks : (d : paper.Desk) {call : Call} → Reorders p q c call → fault_of d call ≡ first_fault (no_client c ∷ not_open c d ∷ too_few_slots (λ _. false) d call ∷ [])
  order_checks d (raises a f) = refl
  order_checks d (lowers a f) = refl

  order_client : {call : Call} → Reorders p q c call → client_of call ≡ c
  order_client (raises a f) = refl
  order_client (lowers a f) = refl

  order_value : (d : paper.Desk) {call : Call} → Reorders p q c call → accepted_value d call ≡ 0
  order_value d (raises a f) = refl
  order_value d (lowers a f) = refl

  order_leaves : (s m s' m' : Picture) (t t' t'' : Slots) {call : Call} → Begins s m p q t t' t'' → has c (listed p) ≡ true → Reorders p q c call
      → Stowed s p t' (on_screen p.screen (frame_in p c)) m m' → s' ≡ repainted m' q t' (on_screen q.screen (frame_in p c)) s
      → Leaves s m p t s' m' q t'' (change (paper_of s m p t) call)
  order_leaves s m s' m' t t' t'' b h (raises a f) st re = moving_laws_lem.raised s m s' m' p q t t' t'' c b h a f st re
  order_leaves s m s' m' t t' t'' b h (lowers a f) st re = moving_laws_lem.lowered s m s' m' p q t t' t'' c b h a f st re

-- what is repainted, from the sizes before
pub repaint_fits : (s m m' : Picture) (p q : Plan) (t : Slots) → sizes m' ≡ sizes m → q.screen ≡ p.screen → phases.Fitting s m p t → phases.Fitting s m' q t
repaint_fits s m m' p q t em e f =
    let g = fitting_same s s m m' p t refl em f in
    record { sized = e ∙ g.sized; places = g.places }

module _ (s m : Picture) (b : Book) (c : ℕ) where
  module _ (q : Plan) (call : Call) (r : Reorders b.plan q c call) where
    pub order_shut : (f : DeskFault) → ◌≡◌ {A = Result (Unit {0}) DeskFault} (Err f) (unless (first_fault (no_client c ∷ not_open c (on_pictures s m b) ∷ [])) tt) → Does (state_on s m b) call (Err f) (state_on s m b)
    order_shut f e = refused_does s m b call f (order_checks b.plan q c (on_pictures s m b) r ∙ check_refused s m b c (too_few_slots (λ _. false) (on_pictures s m b) call ∷ []) f e)

    module _ (ok : ◌≡◌ {A = Result (Unit {0}) DeskFault} (Ok tt) (unless (first_fault (no_client c ∷ not_open c (on_pictures s m b) ∷ [])) tt)) where
      listed_now : (made_for s m b ≡ true) × (has c (listed b.plan) ≡ true)
      listed_now = open_listed s m b c (check_open s m b c ok)

      last_check : fault_of (on_pictures s m b) call ≡ too_few_slots (λ _. false) (on_pictures s m b) call
      last_check = order_checks b.plan q c (on_pictures s m b) r ∙ check_rest s m b c ok (too_few_slots (λ _. false) (on_pictures s m b) call ∷ []) ∙ one_check (too_few_slots (λ _. false) (on_pictures s m b) call)

      pub order_few : (f : DeskFault) → b.slots.places < passing (needs b.plan q None) → f ≡ because TooFewSlots c → Does (state_on s m b) call (Err f) (state_on s m b)
      order_few f few e =
          refused_does s m b call f
          (last_check ∙ too_few s m b listed_now.0 q (held s m b.plan b.slots) call (λ _. false) None (order_leads b.plan q c s m b.slots r) (order_screen b.plan q c r)
          (plan_laws_lem.unmoved b.plan q 0 (order_still b.plan q c r)) few
          ∙ ap Some (ap (because TooFewSlots) (order_client b.plan q c r) ∙ sym e))

      pub order_does : (s' m' : Picture) (b' : Book) (t' : Slots) → Sound s → passing (needs b.plan q None) ≤ b.slots.places → Supplied b.slots (needs b.plan q None) t'
          → Settled q t' b' → Rearranges b.plan q t' (frame_in b.plan c ∷ []) s m s' m' → Does (state_on s m b) call (Ok 0) (state_on s' m' b')
      order_does s' m' b' t' sound many supplied settled moves =
          let p = b.plan in
          let fit = sized s m b listed_now.0 t' supplied.places in
          let way = (moving_laws_lem.supplied p q b.slots t' b'.slots None b.held supplied settled.slots).0 in
          settles s m b listed_now.0 s' m' b' q t' call moves.screen_size moves.store_size (order_screen p q c r) supplied.places settled
          (order_leaves p q c s m s' m' b.slots t' b'.slots (begins s m b listed_now.0 q t' b'.slots sound way) listed_now.1 r
          (stowed_one s m m' p t' (frame_in p c) (moves.stowed fit)) (moves.repaints (repaint_fits s m m' p q t' moves.store_size (order_screen p q c r) fit)))
          (last_check ∙ enough s m b listed_now.0 q (held s m p b.slots) call (λ _. false) None (order_leads p q c s m b.slots r) (order_screen p q c r)
          (plan_laws_lem.unmoved p q 0 (order_still p q c r)) many)
          (order_value p q c (on_pictures s m b) r)

-- ── Closing ──

module _ (s m : Picture) (b : Book) (c : ℕ) where
  pub close_shut : (f : DeskFault) → ◌≡◌ {A = Result (Unit {0}) DeskFault} (Err f) (unless (first_fault (no_client c ∷ not_open c (on_pictures s m b) ∷ [])) tt) → Does (state_on s m b) (close_layer c) (Err f) (state_on s m b)
  close_shut f e = refused_does s m b (close_layer c) f (check_refused s m b c [] f e)

  pub close_does : ◌≡◌ {A = Result (Unit {0}) DeskFault} (Ok tt) (unless (first_fault (no_client c ∷ not_open c (on_pictures s m b) ∷ [])) tt)
      → (s' m' : Picture) (b' : Book) (q : Plan) → Sound s → Arranged b.plan q (without c (layers_in b.plan)) (λ d. has d (listed b.plan) && not (eqb c d)) → SameFrames b.plan q
      → Settled q b.slots b' → Rearranges b.plan q b.slots (frame_in b.plan c ∷ []) s m s' m' → Does (state_on s m b) (close_layer c) (Ok 0) (state_on s' m' b')
  close_does ok s' m' b' q sound a f settled moves =
      let p = b.plan in
      let now = open_listed s m b c (check_open s m b c ok) in
      let fit = sized s m b now.0 b.slots refl in
      let way = (moving_laws_lem.none_supplied p q b.slots b'.slots c b.held a.screen a.layers settled.slots).0 in
      settles s m b now.0 s' m' b' q b.slots (close_layer c) moves.screen_size moves.store_size a.screen refl settled
      (moving_laws_lem.closed s m s' m' p q b.slots b.slots b'.slots c (begins s m b now.0 q b.slots b'.slots sound way) now.1 a f
      (stowed_one s m m' p b.slots (frame_in p c) (moves.stowed fit)) (moves.repaints (repaint_fits s m m' p q b.slots moves.store_size a.screen fit)))
      (check_rest s m b c ok []) refl
