-- A new layer: after the others were stowed, its part of the screen set to 0 and its slots blanked, every pixel is where its spot says.
use Rattle.std.proofs.Common.{◌≡◌, ℕ, ◌/◌, ◌%◌, ◌^◌, ◌<◌, Bool, true, false, cond, eqb, pos, is_some, Some, sym, refl, ap, ◌∙◌, subst, ap₂, ⊎_elim}
use native.Mathlib.Nat.{zero-mod}
use Rattle.std.proofs.lemmas.Option.{same_Some}
use Rattle.std.proofs.lemmas.Bool.{and_from, and_right, or_right, both_ways, cond-true, cond-false, cases_Bool, eqb-true, eq-eqb}
use Rattle.raster.specs.Picture.{Picture, sizes, painted}
use Rattle.raster.specs.Blt.{in_rectangle, inside}
use Rattle.raster.specs.declared.size.Size.{Size}
use Rattle.raster.proofs.Paints.{painted_at, painted_sizes}
use Rattle.paper.specs.Layers.{covered, topmost, screen_after}
use Rattle.paper.proofs.Screen.{topmost_tells}
use Rattle.plan.specs.declared.plan.Plan.{Plan}
use Rattle.slots.specs.declared.slots.Slots.{Slots}
use Rattle.plan.specs.Frames.{has}
use Rattle.plan.specs.Plans.{outline, listed, layers_in, frame_in, seen, patch_at, hidden_patch}
use Rattle.plan.proofs.Sifts.{open_low}
use Rattle.hold.specs.Held.{Pixels, held, Holds, OwnPixel}
use Rattle.moving.specs.Phases.{on_screen, store_x, store_y, in_store, Stowed, Blanked}
use Rattle.moving.specs.Moves.{desk_with, fresh, Stays, Slotted, Worked}
use Rattle.hold.proofs.Places.{real, real_patch, unseen_hidden, store_apart}
use Rattle.moving.proofs.Places.{place_x, place_y, shown_by, seen_shows, top_is}
use Rattle.moving.proofs.Stows.{Small}
use Rattle.moving.proofs.Rearranged.{held_seen, held_unseen, was_there, same_place, whole, worked, screen_shows}

module _ (p q : Plan) (t t' t'' : Slots) (c : ℕ) (px : Pixels) (s m m' m'' s' : Picture)
    (small : Small s) (holds : Holds s m p t px) (slots : Slotted p q t t' t'') (work : Worked p q (on_screen p.screen (frame_in q c)))
    (stowed : Stowed s p t' (on_screen p.screen (frame_in q c)) m m') (blanked : Blanked t' c m' m'')
    (zeros : s' ≡ painted s (on_screen p.screen (frame_in q c)) (λ _ _. 0))
    (opens : has c (listed q) ≡ true)
    (on_top : (x y : ℕ) → on_screen p.screen (frame_in q c) x y ≡ true → topmost (layers_in q) (pos x) (pos y) ≡ Some (outline c (frame_in q c)))
    (stays : (d : ℕ) → has d (listed q) ≡ true → eqb d c ≡ false → Stays p q t' d) where
  abbrev at : ℕ → ℕ → Bool
  at = on_screen p.screen (frame_in q c)

  there : (x y : ℕ) → s'.at x y ≡ cond (at x y) 0 (s.at x y)
  there x y = ap (λ (n : Picture). n.at x y) zeros ∙ painted_at s at (λ _ _. 0) x y

  pub opened_sizes : sizes s' ≡ sizes s
  opened_sizes = ap sizes zeros ∙ painted_sizes s at (λ _ _. 0)

  module _ (d u v : ℕ) (h : has d (listed q) ≡ true) (hu : u < (frame_in q d).w) (hv : v < (frame_in q d).h) where
    abbrev k : ℕ
    k = patch_at d (u / 16) (v / 16)

    in_layer : OwnPixel q d u v
    in_layer = record { opened = h; across = hu; down = hv }

    fits : k < 2400
    fits = real_patch d u v (real q d u v in_layer)

    unseen_stored : seen q d u v ≡ false → in_store t' d u v ≡ true
    unseen_stored e = slots.given k fits (or_right (hidden_patch p k) _ (unseen_hidden q d u v in_layer e))

    in_slot : seen q d u v ≡ false → held s' m'' q t'' d u v ≡ m''.at (store_x m.width t' d u v) (store_y m.width t' d u v) % 2 ^ s.depth
    in_slot e =
        held_unseen s' m'' q t'' d u v e
        ∙ ap₂ (λ (z y : Size). m''.at (store_x z.width t'' d u v) (store_y z.width t'' d u v) % 2 ^ y.depth) (blanked.size ∙ stowed.size) opened_sizes
        ∙ ap (λ n. n % 2 ^ s.depth) (same_place m.width t' t'' m'' d u v (slots.left k fits (unseen_hidden q d u v in_layer e)))

    -- a pixel of the new layer

    own : d ≡ c → held s' m'' q t'' d u v ≡ 0
    own e = ⊎_elim shows stored (cases_Bool (seen q d u v))
      where
        shows : seen q d u v ≡ true → held s' m'' q t'' d u v ≡ 0
        shows o =
            let x : ℕ = place_x q d u in
            let y : ℕ = place_y q d v in
            let z = seen_shows q d u v h hu hv o in
            let o' = top_is (listed q) q.frames (pos x) (pos y) (outline d (frame_in q d)) z.shows.top in
            let i : at x y ≡ true =
            and_from _ _ (ap (λ (n : ℕ). in_rectangle (frame_in q n).x (frame_in q n).y (frame_in q n).w (frame_in q n).h (pos x) (pos y)) (sym e) ∙ o'.covers)
            (ap (λ n. inside n (pos x) (pos y)) (sym work.same_screen) ∙ z.on) in
            held_seen s' m'' q t'' d u v o ∙ there x y ∙ cond-true _ 0 (s.at x y) i

        stored : seen q d u v ≡ false → held s' m'' q t'' d u v ≡ 0
        stored o =
            let r = real q d u v in_layer in
            let z : m''.at (store_x m'.width t' c u v) (store_y m'.width t' c u v) ≡ 0 = blanked.cleared u v r.column r.row (ap (λ n. in_store t' n u v) (sym e) ∙ unseen_stored o) in
            in_slot o ∙ ap (λ n. n % 2 ^ s.depth) (ap₂ (λ (w : Size) n. m''.at (store_x w.width t' n u v) (store_y w.width t' n u v)) (sym stowed.size) e ∙ z) ∙ zero-mod (2 ^ s.depth)

    -- a pixel of another

    other : eqb d c ≡ false → held s' m'' q t'' d u v ≡ px d u v
    other e = ⊎_elim shows stored (cases_Bool (seen q d u v))
      where
        hu' : u < (frame_in p d).w
        hu' = subst (λ (n : ℕ). u < n) (stays d h e).width hu

        hv' : v < (frame_in p d).h
        hv' = subst (λ (n : ℕ). v < n) (stays d h e).height hv

        shows : seen q d u v ≡ true → held s' m'' q t'' d u v ≡ px d u v
        shows o =
            let x : ℕ = place_x q d u in
            let y : ℕ = place_y q d v in
            let z = seen_shows q d u v h hu hv o in
            let on : inside p.screen (pos x) (pos y) ≡ true = ap (λ n. inside n (pos x) (pos y)) (sym work.same_screen) ∙ z.on in
            let i : at x y ≡ false = ⊎_elim (λ (w : at x y ≡ true).
            let same : outline c (frame_in q c) ≡ outline d (frame_in q d) = same_Some _ _ (sym (on_top x y w) ∙ z.shows.top) in
            absurd (both_ways (eqb d c) e (eq-eqb d c (sym (ap (λ l. l.client) same))))) (λ (w : at x y ≡ false). w) (cases_Bool (at x y)) in
            let z' = shown_by p x y d u v (frame_in q d) (sym (work.off x y on i) ∙ z.shows.top) z.shows.across z.shows.down in
            held_seen s' m'' q t'' d u v o ∙ there x y ∙ cond-false _ 0 (s.at x y) i ∙ was_there s m p t px holds x y d u v z' on

        stored : seen q d u v ≡ false → held s' m'' q t'' d u v ≡ px d u v
        stored o =
            let r = real q d u v in_layer in
            let was = (stays d h e).was in
            let apart : m''.at (store_x m.width t' d u v) (store_y m.width t' d u v) ≡ m'.at (store_x m.width t' d u v) (store_y m.width t' d u v) =
            blanked.others _ _ (λ u' v' a b k' ex ey.
            let wide : m'.width ≡ m.width = ap (λ (z : Size). z.width) stowed.size in
            let low : c < 8 = open_low q c opens in
            both_ways (eqb d c) e (eq-eqb d c (store_apart m.width t' d u v c u' v' r (record { client = low; column = a; row = b }) (unseen_stored o) k'
            (ex ∙ ap (λ w. store_x w t' c u' v') wide) (ey ∙ ap (λ w. store_y w t' c u' v') wide)).0)) in
            in_slot o ∙ ap (λ n. n % 2 ^ s.depth) apart
            ∙ whole p q t t' t'' at px s m m' small holds slots work stowed d u v was hu' hv' (unseen_stored o)
            (worked p q t t' t'' at px s m m' small holds slots work stowed d u v was hu' hv' (λ i. absurd (both_ways (seen q d u v) o i)))

  pub opened : Holds s' m'' q t'' (fresh c px)
  opened d h u v hu hv =
      ⊎_elim (λ (e : eqb d c ≡ true). own d u v h hu hv (eqb-true d c e) ∙ sym (cond-true (eqb d c) 0 (px d u v) e))
      (λ (e : eqb d c ≡ false). other d u v h hu hv e ∙ sym (cond-false (eqb d c) 0 (px d u v) e)) (cases_Bool (eqb d c))

  pub opened_screen : p.screen ≡ sizes s → s' ≡ screen_after s (desk_with s m p px) (desk_with s m q (fresh c px))
  opened_screen fit =
      screen_shows s s' m m'' p q t'' px (fresh c px) opened opened_sizes (work.same_screen ∙ fit)
      (λ x y e n. bare x y e n (at x y) refl)
      (λ x y e. there x y ∙ cond-false _ 0 (s.at x y) (and_right _ _ (ap (λ z. inside z (pos x) (pos y)) fit ∙ e)))
    where
      bare : (x y : ℕ) → inside (sizes s) (pos x) (pos y) ≡ true → covered (layers_in q) (pos x) (pos y) ≡ false → (b : Bool) → at x y ≡ b
          → s'.at x y ≡ cond (covered (layers_in p) (pos x) (pos y)) 0 (s.at x y)
      bare x y e n true w = absurd (both_ways (covered (layers_in q) (pos x) (pos y)) n (topmost_tells (layers_in q) (pos x) (pos y) ∙ ap is_some (on_top x y w)))
      bare x y e n false w =
          let same = work.off x y (ap (λ z. inside z (pos x) (pos y)) fit ∙ e) w in
          let b : covered (layers_in p) (pos x) (pos y) ≡ false = topmost_tells (layers_in p) (pos x) (pos y) ∙ ap is_some (sym same) ∙ sym (topmost_tells (layers_in q) (pos x) (pos y)) ∙ n in
          there x y ∙ cond-false _ 0 (s.at x y) w ∙ sym (cond-false _ 0 (s.at x y) b)
