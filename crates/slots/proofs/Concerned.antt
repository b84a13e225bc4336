-- The calls that rearrange layers concern one client's layer.
use Rattle.std.proofs.Common.{◌≡◌, ℕ, Bool, true, false, not, ◌&&◌, ◌||◌, eqb, [], ◌∷◌, ◌++◌, ℤ, sym, refl, ap, ◌∙◌}
use Rattle.std.proofs.lemmas.Bool.{both_ways, eq-eqb, ne_eqb}
use Rattle.paper.specs.Layers.{without, only, alter, at_corner}
use Rattle.paper.proofs.Order.{without_without, without_raised, without_lowered, without_last, without_altered}
use Rattle.raster.specs.declared.rectangle.Rectangle.{Rectangle}
use Rattle.plan.specs.declared.plan.Plan.{Plan}
use Rattle.plan.specs.Frames.{has}
use Rattle.plan.specs.Plans.{listed, layers_in, frame_in, outline}
use Rattle.plan.specs.Arranged.{Arranged, SameFrames, OtherFrames, cornered}
use Rattle.slots.specs.Changes.{Concerns}

module _ (p q : Plan) (c : ℕ) where
  -- the same frames in another order
  reordered : (screen : q.screen ≡ p.screen) → without c (layers_in q) ≡ without c (layers_in p) → ((d : ℕ) → (d ≡ c → ⊥) → has d (listed q) ≡ has d (listed p)) → SameFrames p q → Concerns p q c
  reordered screen layers clients frames = record {
    screen = screen;
    layers = layers;
    frames = λ d ne. frames d;
    clients = clients;
    wide = λ h. ap (λ (f : Rectangle). f.w) (frames c);
    high = λ h. ap (λ (f : Rectangle). f.h) (frames c);
  }

  pub raise_concerns : Arranged p q (without c (layers_in p) ++ only c (layers_in p)) (λ d. has d (listed p)) → SameFrames p q → Concerns p q c
  raise_concerns a = reordered a.screen (ap (without c) a.layers ∙ without_raised c (layers_in p)) (λ d ne. a.clients d)

  pub lower_concerns : Arranged p q (only c (layers_in p) ++ without c (layers_in p)) (λ d. has d (listed p)) → SameFrames p q → Concerns p q c
  lower_concerns a = reordered a.screen (ap (without c) a.layers ∙ without_lowered c (layers_in p)) (λ d ne. a.clients d)

  pub close_concerns : Arranged p q (without c (layers_in p)) (λ d. has d (listed p) && not (eqb c d)) → SameFrames p q → Concerns p q c
  close_concerns a =
      reordered a.screen (ap (without c) a.layers ∙ without_without c (layers_in p))
      (λ d ne. a.clients d ∙ ap (λ b. has d (listed p) && not b) (ne_eqb c d (λ e. ne (sym e))) ∙ kept (has d (listed p)))
    where
      kept : (b : Bool) → (b && true) ≡ b
      kept true = refl
      kept false = refl

  pub move_concerns : (x y : ℤ) → Arranged p q (alter c (at_corner x y) (layers_in p)) (λ d. has d (listed p)) → OtherFrames c p q
      → (has c (listed p) ≡ true → frame_in q c ≡ cornered x y (frame_in p c)) → Concerns p q c
  move_concerns x y a frames own = record {
    screen = a.screen;
    layers = ap (without c) a.layers ∙ without_altered c (at_corner x y) (λ l. refl) (layers_in p);
    frames = frames;
    clients = λ d ne. a.clients d;
    wide = λ h. ap (λ (f : Rectangle). f.w) (own h);
    high = λ h. ap (λ (f : Rectangle). f.h) (own h);
  }

  pub open_concerns : (f : Rectangle) → has c (listed p) ≡ false → Arranged p q (layers_in p ++ (outline c f ∷ [])) (λ d. has d (listed p) || eqb c d) → OtherFrames c p q → Concerns p q c
  open_concerns f none a frames = record {
    screen = a.screen;
    layers = ap (without c) a.layers ∙ without_last c (outline c f) (layers_in p) (eq-eqb c c refl);
    frames = frames;
    clients = λ d ne. a.clients d ∙ ap (λ b. has d (listed p) || b) (ne_eqb c d (λ e. ne (sym e))) ∙ kept (has d (listed p));
    wide = λ h. absurd (both_ways _ none h);
    high = λ h. absurd (both_ways _ none h);
  }
    where
      kept : (b : Bool) → (b || false) ≡ b
      kept true = refl
      kept false = refl
