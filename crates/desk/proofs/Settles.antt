-- Going over to another arrangement: from the pictures of screen and store to the desk on paper.
use Rattle.std.proofs.Common.{◌≡◌, ℕ, ◌<◌, ◌≤◌, Bool, true, ◌&&◌, eqb, ltb, [], ◌∷◌, Some, None, Ok, sym, refl, ap, ◌∙◌, subst, ap₂, Option}
use Rattle.std.proofs.lemmas.Bool.{lt-ltb, le-ltb}
use Rattle.raster.specs.Picture.{Picture, sizes, Sound}
use Rattle.raster.specs.Calls.{refuse_if}
use Rattle.raster.specs.declared.refusal.Refusal.TheVariants.{TooFewSlots}
use Rattle.raster.specs.declared.size.Size.{Size}
use Rattle.paper.specs.Layers as paper
use Rattle.paper.specs.Layers.{screen_after}
use Rattle.paper.specs.Slots.{slots_of, slots_needed}
use Rattle.paper.specs.Desk.{Call, client_of, because, change, accepted_value, fault_of, too_few_slots}
use Rattle.paper.specs.Run.{Becomes, Does}
use Rattle.paper.proofs.View.{answer_accepted, after_accepted}
use Rattle.raster.specs.declared.rectangle.Rectangle.{Rectangle}
use Rattle.plan.specs.declared.plan.Plan.{Plan}
use Rattle.slots.specs.declared.slots.Slots.{Slots}
use Rattle.plan.specs.Plans.{listed, needs}
use Rattle.plan.specs.Counts.{passing}
use Rattle.plan.specs.Laws.{desk_in}
use Rattle.hold.specs.Held.{Pixels, paper_of}
use Rattle.hold.proofs.Asks.{outlines_with, needed_same, paper_outlines}
use Rattle.moving.specs.Phases as phases
use Rattle.moving.specs.Moves.{desk_with, Slotted}
use Rattle.moving.specs.Laws.{Begins, Leaves}
use Rattle.desk.specs.declared.book.Book.{Book}
use Rattle.desk.specs.Desks.{same_size, made_for, on_pictures, state_on}
use Rattle.desk.specs.Moves.{Settled, StowedAll}
use Rattle.desk.proofs.Counted.{used_is}
use Rattle.desk.proofs.Drawn.{made_same}
use Rattle.desk.proofs.Fits.{fitting, paper_fits}

-- what was stowed of one area
pub stowed_one : (s m m' : Picture) (p : Plan) (t : Slots) (f : Rectangle) → StowedAll s p t (f ∷ []) m m' → phases.Stowed s p t (phases.on_screen p.screen f) m m'
stowed_one s m m' p t f h = subst (phases.Stowed s p t (phases.on_screen p.screen f) m) (sym h.2) h.1

module _ (s m : Picture) (b : Book) (fits : made_for s m b ≡ true) where
  -- where a call begins, and with the tables on the way
  pub sized : (t : Slots) → t.places ≡ b.slots.places → phases.Fitting s m b.plan t
  sized t e = record { sized = (fitting s m b fits).size; places = e ∙ (fitting s m b fits).places }

  pub begins : (q : Plan) (t' t'' : Slots) → Sound s → Slotted b.plan q b.slots t' t'' → Begins s m b.plan q b.slots t' t''
  begins q t' t'' sound slots = record { sound = sound; fitting = sized b.slots refl; slots = slots }

  -- the count that the refusal asks for
  module _ (q : Plan) (px : Pixels) (call : Call) (also : ℕ → Bool) (moved : Option ℕ) (leads : desk_with s m q px ≡ change (paper_of s m b.plan b.slots) call)
      (screens : q.screen ≡ b.plan.screen) (counts : passing (needs b.plan q moved) ≡ slots_needed also (desk_in b.plan 0) (desk_in q 0)) where
    needed : slots_needed also (on_pictures s m b) (change (on_pictures s m b) call) ≡ passing (needs b.plan q moved)
    unfolding paper_of
    needed =
        let p = b.plan in
        let size = (fitting s m b fits).size in
        ap (λ (d : paper.Desk). slots_needed also d (change d call)) (paper_fits s m b fits)
        ∙ ap (slots_needed also (paper_of s m p b.slots)) (sym leads)
        ∙ needed_same also (paper_of s m p b.slots) (desk_in p 0) (desk_with s m q px) (desk_in q 0) (sym size) (sym (screens ∙ size))
        (paper_outlines s m p b.slots) (outlines_with s.depth q px (listed q))
        ∙ sym counts

    there : (on_pictures s m b).slots ≡ b.slots.places
    unfolding paper_of
    there = ap (λ (d : paper.Desk). d.slots) (paper_fits s m b fits) ∙ sym (fitting s m b fits).places

    test : ltb (on_pictures s m b).slots (slots_needed also (on_pictures s m b) (change (on_pictures s m b) call)) ≡ ltb b.slots.places (passing (needs b.plan q moved))
    test = ap₂ ltb there needed

    pub too_few : b.slots.places < passing (needs b.plan q moved) → too_few_slots also (on_pictures s m b) call ≡ Some (because TooFewSlots (client_of call))
    too_few h = ap (λ z. refuse_if z (because TooFewSlots (client_of call))) (test ∙ lt-ltb _ _ h)

    pub enough : passing (needs b.plan q moved) ≤ b.slots.places → too_few_slots also (on_pictures s m b) call ≡ None
    enough h = ap (λ z. refuse_if z (because TooFewSlots (client_of call))) (test ∙ le-ltb _ _ h)

  -- an accepted call
  module _ (s' m' : Picture) (b' : Book) (q : Plan) (t' : Slots) (call : Call) (es : sizes s' ≡ sizes s) (em : sizes m' ≡ sizes m)
      (screens : q.screen ≡ b.plan.screen) (places : t'.places ≡ b.slots.places) (settled : Settled q t' b')
      (leaves : Leaves s m b.plan b.slots s' m' q b'.slots (change (paper_of s m b.plan b.slots) call)) where
    fits' : made_for s' m' b' ≡ true
    fits' =
        made_same s m s' m' b' es em
        ∙ ap₂ (λ (z : Size) (n : ℕ). same_size z (sizes s) && eqb n (slots_of (sizes m) s.depth)) (ap (λ (p : Plan). p.screen) settled.plan ∙ screens) (settled.slots.places ∙ places)
        ∙ fits

    after_paper : on_pictures s' m' b' ≡ change (on_pictures s m b) call
    after_paper =
        paper_fits s' m' b' fits' ∙ ap (λ (p : Plan). paper_of s' m' p b'.slots) settled.plan ∙ leaves.paper
        ∙ ap (λ (d : paper.Desk). change d call) (sym (paper_fits s m b fits))

    pub settles : fault_of (on_pictures s m b) call ≡ None → accepted_value (on_pictures s m b) call ≡ 0 → Does (state_on s m b) call (Ok 0) (state_on s' m' b')
    settles ok v =
        let d = on_pictures s m b in
        let shows : s' ≡ screen_after s d (on_pictures s' m' b') =
        leaves.screen ∙ ap₂ (screen_after s) (sym (paper_fits s m b fits)) (ap (λ (z : paper.Desk). change z call) (sym (paper_fits s m b fits)) ∙ sym after_paper) in
        record {
          answers = ap Ok (sym v) ∙ sym (answer_accepted d call ok);
          leaves = subst (λ (z : paper.Desk). Becomes (state_on s m b) z (state_on s' m' b')) (sym (after_accepted d call ok))
              (record { paper = after_paper; screen = shows; used = used_is s' m' b' });
        }
