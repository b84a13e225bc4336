-- What each call comes to, on paper and on the screen.
use Rattle.std.proofs.Common.{arith, ◌≡◌, ℕ, Bool, true, false, not, ◌||◌, eqb, [], ◌∷◌, ◌++◌, pos, Some, sym, refl, ap, ◌∙◌, subst, ap₂, ⊎_elim}
use Rattle.std.proofs.lemmas.Bool.Decides.{nat_tests}
use Rattle.std.proofs.lemmas.Bool.{and_parts, or_right, eqb-true, eqb-false, cases_Bool}
use Rattle.raster.specs.Picture.{Picture, sizes, painted}
use Rattle.raster.specs.Calls.{fill_with, bitmap_after}
use Rattle.raster.specs.declared.size.Size.{Size}
use Rattle.paper.specs.Layers.{Desk, topmost, screen_after}
use Rattle.paper.specs.Desk.{change, open_layer, close_layer, raise_layer, lower_layer, move_layer}
use Rattle.raster.specs.declared.rectangle.Rectangle.{Rectangle}
use Rattle.plan.specs.declared.plan.Plan.{Plan}
use Rattle.slots.specs.declared.slots.Slots.{Slots}
use Rattle.plan.specs.Frames.{has}
use Rattle.plan.specs.Plans.{outline, listed, layers_in, frame_in}
use Rattle.plan.specs.Arranged.{Arranged, SameFrames, OtherFrames, can_open}
use Rattle.hold.specs.Held.{Pixels, held, Holds, paper_of}
use Rattle.moving.specs.Phases.{on_screen, Stowed, repainted, Blanked}
use Rattle.moving.specs.Moves.{desk_with, fresh, Stays, Worked}
use Rattle.moving.specs.Laws.{Begins, Leaves, MovingLaws}
use Rattle.moving.proofs.Places.{same_client}
use Rattle.moving.proofs.Stows.{stowed_join, repainted_join}
use Rattle.plan.proofs.Sifts as sifts
use Rattle.hold.proofs.Papers.{held_paper}
use Rattle.moving.proofs.Rearranged.{desk_same, rearranged, rearranged_sizes, rearranged_screen}
use Rattle.moving.proofs.Opened.{opened, opened_sizes, opened_screen}
use Rattle.moving.proofs.Blanks.{filled_zero}
use Rattle.moving.proofs.Tables.{slots_given, given_fits, moved_given, closed_given, closed_fits}
use Rattle.moving.proofs.Orders.{raised_same_off, lowered_same_off, closed_same_off, moved_same_off, opened_same_off, opened_topmost, stays_still, stays_moved, raised_paper, lowered_paper, closed_paper, moved_paper, opened_paper}

-- the desk on paper, and every pixel where its spot says, before the call
paper_is : (s m : Picture) (p : Plan) (t : Slots) → paper_of s m p t ≡ desk_with s m p (held s m p t)
unfolding paper_of
paper_is s m p t = refl

module _ (s m s' m' : Picture) (p q : Plan) (t t' t'' : Slots) (begins : Begins s m p q t t' t'') where
  outcome : (px' : Pixels) (d : Desk) → Holds s' m' q t'' px' → sizes s' ≡ sizes s → sizes m' ≡ sizes m → s' ≡ screen_after s (desk_with s m p (held s m p t)) (desk_with s m q px')
      → desk_with s m q px' ≡ d → Leaves s m p t s' m' q t'' d
  outcome px' d holds es em shows e = record {
    paper = held_paper s' m' q t'' px' holds ∙ desk_same s s' m m' q px' es em ∙ e;
    screen = shows ∙ ap₂ (screen_after s) (sym (paper_is s m p t)) e;
  }

  -- stowing and repainting
  through : (at : ℕ → ℕ → Bool) (d : Desk) → Worked p q at → ((d : ℕ) → has d (listed q) ≡ true → Stays p q t' d) → Stowed s p t' at m m' → s' ≡ repainted m' q t' at s
      → desk_with s m q (held s m p t) ≡ d → Leaves s m p t s' m' q t'' d
  through at d work stays stowed paints e =
      let small = begins.sound.values in
      let slots = begins.slots in
      let holds : Holds s m p t (held s m p t) = λ c h u v hu hv. refl in
      outcome (held s m p t) d (rearranged p q t t' t'' at (held s m p t) s m m' small holds slots work stowed stays s' paints)
      (rearranged_sizes p q t t' t'' at (held s m p t) s m m' small holds slots work stowed stays s' paints) stowed.size
      (rearranged_screen p q t t' t'' at (held s m p t) s m m' small holds slots work stowed stays s' paints begins.fitting.sized) e

  -- the same, of a client's frame, with all frames kept
  turned : (c : ℕ) (d : Desk) → Worked p q (on_screen p.screen (frame_in p c)) → ((d : ℕ) → has d (listed q) ≡ true → has d (listed p) ≡ true) → SameFrames p q
      → Stowed s p t' (on_screen p.screen (frame_in p c)) m m' → s' ≡ repainted m' q t' (on_screen q.screen (frame_in p c)) s
      → desk_with s m q (held s m p t) ≡ d → Leaves s m p t s' m' q t'' d
  turned c d work were frames stowed paints e =
      through (on_screen p.screen (frame_in p c)) d work (λ k h. stays_still p q t' k (were k h) (frames k)) stowed (paints ∙ ap (λ (z : Size). repainted m' q t' (on_screen z (frame_in p c)) s) work.same_screen) e

-- the desk on paper after a call, told from the one before
on_paper : (s m : Picture) (p : Plan) (t : Slots) (f : Desk → Desk) (d : Desk) → d ≡ f (desk_with s m p (held s m p t)) → d ≡ f (paper_of s m p t)
on_paper s m p t f d e = e ∙ ap f (sym (paper_is s m p t))

-- a new layer
opens : (s m m₁ s' m' : Picture) (p q : Plan) (t t' t'' : Slots) (c : ℕ) (f : Rectangle) → Begins s m p q t t' t'' → can_open p c f ≡ true
    → Arranged p q (layers_in p ++ (outline c f ∷ [])) (λ d. has d (listed p) || eqb c d) → OtherFrames c p q → frame_in q c ≡ f
    → Stowed s p t' (on_screen p.screen f) m m₁ → Blanked t' c m₁ m' → s' ≡ bitmap_after s (fill_with 3 0 f.x f.y f.w f.h)
    → Leaves s m p t s' m' q t'' (change (paper_of s m p t) (open_layer c f.x f.y f.w f.h))
opens s m m₁ s' m' p q t t' t'' c f b can a others own st bl re =
    let px : Pixels = held s m p t in
    let was : has c (listed p) ≡ false = (sifts.opens p c f can).none in
    let is : has c (listed q) ≡ true = a.clients c ∙ or_right (has c (listed p)) (eqb c c) (same_client c) in
    let holds : Holds s m p t px = λ c h u v hu hv. refl in
    let small = b.sound.values in
    let work : Worked p q (on_screen p.screen (frame_in q c)) = subst (λ (g : Rectangle). Worked p q (on_screen p.screen g)) (sym own) (opened_same_off p q c f a.screen a.layers) in
    let stowed : Stowed s p t' (on_screen p.screen (frame_in q c)) m m₁ = subst (λ (g : Rectangle). Stowed s p t' (on_screen p.screen g) m m₁) (sym own) st in
    let zeros : s' ≡ painted s (on_screen p.screen (frame_in q c)) (λ _ _. 0) = re ∙ filled_zero s f ∙ ap₂ (λ (z : Size) (g : Rectangle). painted s (on_screen z g) (λ _ _. 0)) (sym b.fitting.sized) (sym own) in
    let top : (x y : ℕ) → on_screen p.screen (frame_in q c) x y ≡ true → topmost (layers_in q) (pos x) (pos y) ≡ Some (outline c (frame_in q c)) =
    subst (λ (g : Rectangle). (x y : ℕ) → on_screen p.screen g x y ≡ true → topmost (layers_in q) (pos x) (pos y) ≡ Some (outline c g)) (sym own) (opened_topmost p q c f a.screen a.layers) in
    let stays : (d : ℕ) → has d (listed q) ≡ true → eqb d c ≡ false → Stays p q t' d = λ d h n. stays_still p q t' d (known d h n) (others d (eqb-false d c n)) in
    outcome s m s' m' p q t t' t'' b (fresh c px) _
    (opened p q t t' t'' c px s m m₁ m' s' small holds b.slots work stowed bl zeros is top stays)
    (opened_sizes p q t t' t'' c px s m m₁ m' s' small holds b.slots work stowed bl zeros is top stays)
    (bl.size ∙ st.size)
    (opened_screen p q t t' t'' c px s m m₁ m' s' small holds b.slots work stowed bl zeros is top stays b.fitting.sized)
    (on_paper s m p t (λ d. change d (open_layer c f.x f.y f.w f.h)) _ (opened_paper s m p q c f px was a.layers))
  where
    known : (d : ℕ) → has d (listed q) ≡ true → eqb d c ≡ false → has d (listed p) ≡ true
    known d h n =
        let k = a.clients d in grind (arith, nat_tests, k, h, n)

pub moving_laws_lem : MovingLaws
moving_laws_lem = record {
  supplied = λ p q t t' t'' moved f a r. (slots_given p q t t' t'' moved f a r, given_fits p q t t' t'' moved f a r);
  all_supplied = moved_given;
  none_supplied = λ p q t t'' c f e l r. (closed_given p q t t'' c f e l r, closed_fits p q t t'' c f e l r);
  raised = λ s m s' m' p q t t' t'' c b h a f st re.
      turned s m s' m' p q t t' t'' b c _ (raised_same_off p q c a.screen h a.layers) (λ d i. sym (a.clients d) ∙ i) f st re
      (on_paper s m p t (λ d. change d (raise_layer c)) _ (raised_paper s m p q c (held s m p t) a.layers));
  lowered = λ s m s' m' p q t t' t'' c b h a f st re.
      turned s m s' m' p q t t' t'' b c _ (lowered_same_off p q c a.screen h a.layers) (λ d i. sym (a.clients d) ∙ i) f st re
      (on_paper s m p t (λ d. change d (lower_layer c)) _ (lowered_paper s m p q c (held s m p t) a.layers));
  closed = λ s m s' m' p q t t' t'' c b h a f st re.
      turned s m s' m' p q t t' t'' b c _ (closed_same_off p q c a.screen h a.layers) (λ d i. (and_parts (has d (listed p)) (not (eqb c d)) (sym (a.clients d) ∙ i)).0) f st re
      (on_paper s m p t (λ d. change d (close_layer c)) _ (closed_paper s m p q c (held s m p t) a.layers));
  moved = λ s m s₁ m₁ s' m' p q t t' t'' c x y b h a f own all st st' re re'.
      through s m s' m' p q t t' t'' b (λ i j. on_screen p.screen (frame_in p c) i j || on_screen p.screen (frame_in q c) i j) _
      (moved_same_off p q c a.screen h x y a.layers (a.clients c ∙ h))
      (λ d i. ⊎_elim (λ (e : eqb d c ≡ true).
      subst (Stays p q t') (sym (eqb-true d c e)) (stays_moved p q t' c h (a.clients c ∙ h) (ap (λ (g : Rectangle). g.w) own) (ap (λ (g : Rectangle). g.h) own) all))
      (λ (e : eqb d c ≡ false). stays_still p q t' d (sym (a.clients d) ∙ i) (f d (eqb-false d c e))) (cases_Bool (eqb d c)))
      (stowed_join s p t' (on_screen p.screen (frame_in p c)) (on_screen p.screen (frame_in q c)) m m₁ m' st st')
      (re' ∙ ap (repainted m' q t' (on_screen q.screen (frame_in q c))) re ∙ repainted_join m' q t' (on_screen q.screen (frame_in p c)) (on_screen q.screen (frame_in q c)) s
      ∙ ap (λ (z : Size). repainted m' q t' (λ i j. on_screen z (frame_in p c) i j || on_screen z (frame_in q c) i j) s) a.screen)
      (on_paper s m p t (λ d. change d (move_layer c x y)) _ (moved_paper s m p q c (held s m p t) x y a.layers));
  opened = opens;
}
