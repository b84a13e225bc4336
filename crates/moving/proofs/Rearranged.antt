-- From one arrangement to another: after stowing and repainting every pixel is where its spot says, and the screen shows the layers.
use Rattle.std.proofs.Common.{◌≡◌, ℕ, ◌+◌, ◌/◌, ◌%◌, ◌^◌, ◌<◌, Bool, true, false, cond, ◌&&◌, ◌||◌, ◌⊎◌, pos, ◌+ℤ◌, nat_abs, is_some, Some, None, Option, sym, refl, ap, ◌∙◌, subst, ap₂, inl, inr, ⊎_elim, mod-eq_of_lt, arith}
use Rattle.std.proofs.lemmas.Bool.Decides.{nat_tests}
use Rattle.std.proofs.lemmas.Bool.{and_from, and_left, or_left, or_right, both_ways, cond-true, cond-false, cases_Bool}
use Rattle.raster.specs.Picture.{Picture, sizes}
use Rattle.raster.specs.Blt.{inside}
use Rattle.raster.specs.declared.size.Size.{Size}
use Rattle.raster.proofs.Paints.{same_picture, painted_at}
use Rattle.paper.specs.Layers.{Layer, covered, topmost, shown, screen_after}
use Rattle.paper.specs.Slots.{slots_of}
use Rattle.paper.proofs.Screen.{topmost_tells, none_shown, screen_sizes}
use Rattle.plan.specs.declared.plan.Plan.{Plan}
use Rattle.slots.specs.declared.slots.Slots.{Slots}
use Rattle.plan.specs.Frames.{has}
use Rattle.plan.specs.Plans.{listed, layers_in, frame_in, seen, patch_at, hidden_patch}
use Rattle.slots.specs.Tables.{slot_of, has_slot}
use Rattle.hold.specs.Spots.{slot_x, slot_y, screen_spot, store_spot, spot_of, look}
use Rattle.hold.specs.Held.{Pixels, layers_with, held, Holds}
use Rattle.hold.proofs.Places.{real, real_patch, unseen_hidden}
use Rattle.hold.proofs.Papers.{covered_with}
use Rattle.moving.specs.declared.backing.Backing.{Backing}
use Rattle.moving.specs.declared.backing.Backing.TheVariants.{Bare, Alone, Kept}
use Rattle.moving.specs.Phases.{store_x, store_y, in_store, from_corner, behind, Stowed, changes, taken, repainted}
use Rattle.moving.specs.Moves.{desk_with, Stays, Slotted, Worked}
use Rattle.moving.proofs.Places.{place_x, place_y, Shows, SeenAt, shown_by, shows_behind, bare_behind, shows_seen, seen_shows, shows_place, top_shows, behind_keeps, keeps_pixel}
use Rattle.moving.proofs.Stows.{Small, repainted_sizes, repainted_at}
use Rattle.moving.proofs.Dressed.{with_shown}

-- ── What is held where ──

module _ (screen store : Picture) (p : Plan) (t : Slots) (d u v : ℕ) where
  pub held_seen : seen p d u v ≡ true → held screen store p t d u v ≡ screen.at (place_x p d u) (place_y p d v)
  unfolding spot_of
  held_seen s = ap (look screen store) (cond-true _ (screen_spot p d u v) (store_spot store.width t d u v) s)

  pub held_unseen : seen p d u v ≡ false → held screen store p t d u v ≡ store.at (store_x store.width t d u v) (store_y store.width t d u v) % 2 ^ screen.depth
  unfolding spot_of
  held_unseen s = ap (look screen store) (cond-false _ (screen_spot p d u v) (store_spot store.width t d u v) s)

-- A pixel that shows at a place has its value there.
pub was_there : (s m : Picture) (p : Plan) (t : Slots) (px : Pixels) → Holds s m p t px → (x y d u v : ℕ) → Shows p x y d u v → inside p.screen (pos x) (pos y) ≡ true → s.at x y ≡ px d u v
was_there s m p t px holds x y d u v z on =
    let i = shows_place p x y d u v z in
    ap₂ s.at (sym i.0) (sym i.1) ∙ sym (held_seen s m p t d u v (shows_seen p x y d u v z on)) ∙ holds d z.listed u v z.column z.row

-- a pixel's place in the store by two tables that agree on its slot
pub same_place : (width : ℕ) (t t' : Slots) (m : Picture) (d u v : ℕ) → slot_of t' (patch_at d (u / 16) (v / 16)) ≡ slot_of t (patch_at d (u / 16) (v / 16))
    → m.at (store_x width t' d u v) (store_y width t' d u v) ≡ m.at (store_x width t d u v) (store_y width t d u v)
same_place width t t' m d u v e = ap (λ k. m.at (slot_x width k + u % 16) (slot_y width k + v % 16)) e

-- ── The screen ──

-- A screen on which every pixel of the layers is where its spot says is the one that a call leaves, if the places that no layer covers after it are 0 where
-- one did before, and else as they were.
pub screen_shows : (s s' m m' : Picture) (p q : Plan) (t'' : Slots) (px px' : Pixels) → Holds s' m' q t'' px' → sizes s' ≡ sizes s → q.screen ≡ sizes s
    → ((x y : ℕ) → inside (sizes s) (pos x) (pos y) ≡ true → covered (layers_in q) (pos x) (pos y) ≡ false → s'.at x y ≡ cond (covered (layers_in p) (pos x) (pos y)) 0 (s.at x y))
    → ((x y : ℕ) → inside (sizes s) (pos x) (pos y) ≡ false → s'.at x y ≡ s.at x y)
    → s' ≡ screen_after s (desk_with s m p px) (desk_with s m q px')
unfolding screen_after
screen_shows s s' m m' p q t'' px px' holds size fit bare outside =
    same_picture s' (screen_after s (desk_with s m p px) (desk_with s m q px'))
    (ap (λ z. z.width) (size ∙ sym left)) (ap (λ z. z.height) (size ∙ sym left)) (ap (λ z. z.depth) (size ∙ sym left))
    (λ x y. place x y (inside (sizes s) (pos x) (pos y)) refl (topmost (layers_in q) (pos x) (pos y)) refl ∙ sym (painted_at s _ _ x y))
  where
    left : sizes (screen_after s (desk_with s m p px) (desk_with s m q px')) ≡ sizes s
    left = screen_sizes s (desk_with s m p px) (desk_with s m q px')

    place : (x y : ℕ) (b : Bool) → inside (sizes s) (pos x) (pos y) ≡ b → (o : Option Layer) → topmost (layers_in q) (pos x) (pos y) ≡ o
        → s'.at x y ≡ cond (inside (sizes s) (pos x) (pos y) && (covered (layers_with s.depth p px (listed p)) (pos x) (pos y) || covered (layers_with s.depth q px' (listed q)) (pos x) (pos y)))
        (shown (layers_with s.depth q px' (listed q)) (pos x) (pos y)) (s.at x y)
    place x y false e o eo = outside x y e ∙ sym (cond-false _ _ (s.at x y) (and_left _ _ e))
    place x y true e (Some l) eo =
        let u : ℕ = from_corner l.x x in
        let v : ℕ = from_corner l.y y in
        let z = top_shows q x y l eo in
        let i = shows_place q x y l.client u v z in
        let on : seen q l.client u v ≡ true = shows_seen q x y l.client u v z (ap (λ n. inside n (pos x) (pos y)) fit ∙ e) in
        let c : covered (layers_with s.depth q px' (listed q)) (pos x) (pos y) ≡ true = covered_with s.depth q px' (listed q) (pos x) (pos y) ∙ topmost_tells (layers_in q) (pos x) (pos y) ∙ ap is_some eo in
        ap₂ s'.at (sym i.0) (sym i.1) ∙ sym (held_seen s' m' q t'' l.client u v on) ∙ holds l.client z.listed u v z.column z.row
        ∙ sym (with_shown s.depth q px' x y l.client u v z) ∙ sym (cond-true _ _ (s.at x y) (and_from _ _ e (or_right _ _ c)))
    place x y true e None eo =
        let n : covered (layers_in q) (pos x) (pos y) ≡ false = topmost_tells (layers_in q) (pos x) (pos y) ∙ ap is_some eo in
        let c : covered (layers_with s.depth q px' (listed q)) (pos x) (pos y) ≡ false = covered_with s.depth q px' (listed q) (pos x) (pos y) ∙ n in
        bare x y e n
        ∙ ap₂ (λ b v. cond b v (s.at x y)) (sym (covered_with s.depth p px (listed p) (pos x) (pos y))) (sym (none_shown (layers_with s.depth q px' (listed q)) (pos x) (pos y) c))
        ∙ ap (λ b. cond b (shown (layers_with s.depth q px' (listed q)) (pos x) (pos y)) (s.at x y)) (sym (simply _ _ _ e c))
      where
        simply : (a b c : Bool) → a ≡ true → c ≡ false → (a && (b || c)) ≡ b
        simply a b c ea ec = grind (arith, nat_tests)

-- The same desk on paper, from bitmaps of the same sizes.
pub desk_same : (s s' m m' : Picture) (q : Plan) (px : Pixels) → sizes s' ≡ sizes s → sizes m' ≡ sizes m → desk_with s' m' q px ≡ desk_with s m q px
desk_same s s' m m' q px es em = λ i. record { size = es i; slots = slots_of (em i) (es i).depth; layers = layers_with (es i).depth q px (listed q) }

-- ── Stowing ──

module _ (p q : Plan) (t t' t'' : Slots) (at : ℕ → ℕ → Bool) (px : Pixels) (s m m' : Picture)
    (small : Small s) (holds : Holds s m p t px) (slots : Slotted p q t t' t'') (work : Worked p q at) (stowed : Stowed s p t' at m m') where
  -- A pixel whose patch has a slot is in the store, if it was obscured or shows at a place worked on.
  pub whole : (d u v : ℕ) → has d (listed p) ≡ true → u < (frame_in p d).w → v < (frame_in p d).h → in_store t' d u v ≡ true
      → (seen p d u v ≡ true → at (place_x p d u) (place_y p d v) ≡ true)
      → m'.at (store_x m.width t' d u v) (store_y m.width t' d u v) % 2 ^ s.depth ≡ px d u v
  whole d u v h hu hv k w = ⊎_elim on off (cases_Bool (seen p d u v))
    where
      on : seen p d u v ≡ true → m'.at (store_x m.width t' d u v) (store_y m.width t' d u v) % 2 ^ s.depth ≡ px d u v
      on e =
          let x : ℕ = place_x p d u in
          let y : ℕ = place_y p d v in
          let z = seen_shows p d u v h hu hv e in
          let c = stowed.copied x y _ _ (w e) (shows_behind m.width p t' x y d u v z.shows ∙ cond-true _ (Kept (store_x m.width t' d u v) (store_y m.width t' d u v)) Alone k) in
          ap (λ n. n % 2 ^ s.depth) c ∙ mod-eq_of_lt (small x y) ∙ sym (held_seen s m p t d u v e) ∙ holds d h u v hu hv

      off : seen p d u v ≡ false → m'.at (store_x m.width t' d u v) (store_y m.width t' d u v) % 2 ^ s.depth ≡ px d u v
      off e =
          let r = real p d u v (record { opened = h; across = hu; down = hv }) in
          let n : ℕ = patch_at d (u / 16) (v / 16) in
          let had : has_slot t n ≡ true = slots.fits n (real_patch d u v r) ∙ unseen_hidden p d u v (record { opened = h; across = hu; down = hv }) e in
          let c = stowed.others (store_x m.width t' d u v) (store_y m.width t' d u v) (λ x y i b.
          let z = keeps_pixel m.width p t' x y _ _ d u v (behind_keeps m.width p t' x y _ _ b) r k refl refl in
          both_ways (seen p d u v) e (shows_seen p x y d u v z (work.on x y i))) in
          ap (λ n. n % 2 ^ s.depth) (c ∙ same_place m.width t t' m d u v (slots.kept n (real_patch d u v r) had)) ∙ sym (held_unseen s m p t d u v e) ∙ holds d h u v hu hv

  -- A pixel that shows before, and after is obscured or shows at a place worked on, shows before at a place worked on.
  pub worked : (d u v : ℕ) → has d (listed p) ≡ true → u < (frame_in p d).w → v < (frame_in p d).h
      → (seen q d u v ≡ true → at (place_x q d u) (place_y q d v) ≡ true) → seen p d u v ≡ true → at (place_x p d u) (place_y p d v) ≡ true
  worked d u v h hu hv w e = go (at (place_x p d u) (place_y p d v)) refl
    where
      go : (b : Bool) → at (place_x p d u) (place_y p d v) ≡ b → b ≡ true
      go true c = refl
      go false c =
          let x : ℕ = place_x p d u in
          let y : ℕ = place_y p d v in
          let z = seen_shows p d u v h hu hv e in
          let z' = shown_by q x y d u v (frame_in p d) (work.off x y z.on c ∙ z.shows.top) z.shows.across z.shows.down in
          let on : inside q.screen (pos x) (pos y) ≡ true = ap (λ n. inside n (pos x) (pos y)) work.same_screen ∙ z.on in
          let i = shows_place q x y d u v z' in
          absurd (both_ways (at x y) c (ap₂ at (sym i.0) (sym i.1) ∙ w (shows_seen q x y d u v z' on)))

  -- ── Repainting ──

  module _ (stays : (d : ℕ) → has d (listed q) ≡ true → Stays p q t' d) (s' : Picture) (repaints : s' ≡ repainted m' q t' at s) where
    painted_there : (x y : ℕ) → s'.at x y ≡ cond (at x y && changes (behind m.width q t' x y)) (taken s.depth m' (behind m.width q t' x y)) (s.at x y)
    painted_there x y =
        ap (λ (n : Picture). n.at x y) repaints ∙ repainted_at m' q t' at s x y
        ∙ ap (λ (z : Size). cond (at x y && changes (behind z.width q t' x y)) (taken s.depth m' (behind z.width q t' x y)) (s.at x y)) stowed.size

    module _ (d u v : ℕ) (h : has d (listed q) ≡ true) (hu : u < (frame_in q d).w) (hv : v < (frame_in q d).h) where
      abbrev hu' : u < (frame_in p d).w
      hu' = subst (λ (n : ℕ). u < n) (stays d h).width hu

      abbrev hv' : v < (frame_in p d).h
      hv' = subst (λ (n : ℕ). v < n) (stays d h).height hv

      in_whole : in_store t' d u v ≡ true → (seen q d u v ≡ true → at (place_x q d u) (place_y q d v) ≡ true)
          → m'.at (store_x m.width t' d u v) (store_y m.width t' d u v) % 2 ^ s.depth ≡ px d u v
      in_whole k w = whole d u v (stays d h).was hu' hv' k (worked d u v (stays d h).was hu' hv' w)

      -- a pixel that shows at a place worked on
      on_work : seen q d u v ≡ true → at (place_x q d u) (place_y q d v) ≡ true → s'.at (place_x q d u) (place_y q d v) ≡ px d u v
      on_work e w = go (in_store t' d u v) refl
        where
          z : SeenAt q d u v
          z = seen_shows q d u v h hu hv e

          there : (b : Bool) → in_store t' d u v ≡ b → behind m.width q t' (place_x q d u) (place_y q d v) ≡ cond b (Kept (store_x m.width t' d u v) (store_y m.width t' d u v)) Alone
          there b k = shows_behind m.width q t' (place_x q d u) (place_y q d v) d u v (seen_shows q d u v h hu hv e).shows ∙ ap (λ c. cond c (Kept (store_x m.width t' d u v) (store_y m.width t' d u v)) Alone) k

          by : (c : Backing) → behind m.width q t' (place_x q d u) (place_y q d v) ≡ c
              → s'.at (place_x q d u) (place_y q d v) ≡ cond (changes c) (taken s.depth m' c) (s.at (place_x q d u) (place_y q d v))
          by c k = painted_there (place_x q d u) (place_y q d v) ∙ ap₂ (λ b c. cond (b && changes c) (taken s.depth m' c) (s.at (place_x q d u) (place_y q d v))) w k

          go : (b : Bool) → in_store t' d u v ≡ b → s'.at (place_x q d u) (place_y q d v) ≡ px d u v
          go true k = by (Kept (store_x m.width t' d u v) (store_y m.width t' d u v)) (there true k) ∙ in_whole k (λ _. w)
          go false k = by Alone (there false k) ∙ alone k (cases_Bool (seen p d u v))
            where
              alone : in_store t' d u v ≡ false → (seen p d u v ≡ true) ⊎ (seen p d u v ≡ false) → s.at (place_x q d u) (place_y q d v) ≡ px d u v
              alone k (inl c) =
                  let f = (stays d h).fixed u v hu' hv' k in
                  let y = seen_shows p d u v (stays d h).was hu' hv' c in
                  ap₂ (λ a b. s.at (nat_abs (a +ℤ pos u)) (nat_abs (b +ℤ pos v))) f.0 f.1 ∙ was_there s m p t px holds (place_x p d u) (place_y p d v) d u v y.shows y.on
              alone k (inr c) =
                  let r = real p d u v (record { opened = (stays d h).was; across = hu'; down = hv' }) in
                  let n : ℕ = patch_at d (u / 16) (v / 16) in
                  absurd (both_ways (in_store t' d u v) k (slots.given n (real_patch d u v r) (or_left _ (hidden_patch q n) (unseen_hidden p d u v (record { opened = (stays d h).was; across = hu'; down = hv' }) c))))

      -- one that shows at another place
      off_work : seen q d u v ≡ true → at (place_x q d u) (place_y q d v) ≡ false → s'.at (place_x q d u) (place_y q d v) ≡ px d u v
      off_work e w =
          let x : ℕ = place_x q d u in
          let y : ℕ = place_y q d v in
          let z = seen_shows q d u v h hu hv e in
          let on : inside p.screen (pos x) (pos y) ≡ true = ap (λ n. inside n (pos x) (pos y)) (sym work.same_screen) ∙ z.on in
          let z' = shown_by p x y d u v (frame_in q d) (sym (work.off x y on w) ∙ z.shows.top) z.shows.across z.shows.down in
          painted_there x y ∙ cond-false _ _ (s.at x y) (and_left _ _ w) ∙ was_there s m p t px holds x y d u v z' on

      -- one that is obscured
      behind_others : seen q d u v ≡ false → held s' m' q t'' d u v ≡ px d u v
      behind_others e =
          let r = real q d u v (record { opened = h; across = hu; down = hv }) in
          let n : ℕ = patch_at d (u / 16) (v / 16) in
          let hid : hidden_patch q n ≡ true = unseen_hidden q d u v (record { opened = h; across = hu; down = hv }) e in
          let deep : s'.depth ≡ s.depth = ap (λ (z : Size). z.depth) (ap sizes repaints ∙ repainted_sizes m' q t' at s) in
          held_unseen s' m' q t'' d u v e
          ∙ ap₂ (λ (z : Size) k. m'.at (store_x z.width t'' d u v) (store_y z.width t'' d u v) % 2 ^ k) stowed.size deep
          ∙ ap (λ k. k % 2 ^ s.depth) (same_place m.width t' t'' m' d u v (slots.left n (real_patch d u v r) hid))
          ∙ in_whole (slots.given n (real_patch d u v r) (or_right (hidden_patch p n) _ hid)) (λ k. absurd (both_ways (seen q d u v) e k))

      one_pixel : held s' m' q t'' d u v ≡ px d u v
      one_pixel = ⊎_elim (λ (e : seen q d u v ≡ true). held_seen s' m' q t'' d u v e ∙ ⊎_elim (on_work e) (off_work e) (cases_Bool (at (place_x q d u) (place_y q d v)))) behind_others (cases_Bool (seen q d u v))

    -- Every pixel of the layers after is where its spot says.
    pub rearranged : Holds s' m' q t'' px
    rearranged d h u v hu hv = one_pixel d u v h hu hv

    pub rearranged_sizes : sizes s' ≡ sizes s
    rearranged_sizes = ap sizes repaints ∙ repainted_sizes m' q t' at s

    -- The screen is what the call should leave.
    pub rearranged_screen : p.screen ≡ sizes s → s' ≡ screen_after s (desk_with s m p px) (desk_with s m q px)
    rearranged_screen fit =
        screen_shows s s' m m' p q t'' px px rearranged rearranged_sizes (work.same_screen ∙ fit)
        (λ x y e n. bare x y e n (at x y) refl)
        (λ x y e. painted_there x y ∙ cond-false _ _ (s.at x y) (and_left _ _ (never x y e (at x y) refl)))
      where
        never : (x y : ℕ) → inside (sizes s) (pos x) (pos y) ≡ false → (b : Bool) → at x y ≡ b → b ≡ false
        never x y e true w = absurd (both_ways (inside p.screen (pos x) (pos y)) (ap (λ z. inside z (pos x) (pos y)) fit ∙ e) (work.on x y w))
        never x y e false w = refl

        bare : (x y : ℕ) → inside (sizes s) (pos x) (pos y) ≡ true → covered (layers_in q) (pos x) (pos y) ≡ false → (b : Bool) → at x y ≡ b
            → s'.at x y ≡ cond (covered (layers_in p) (pos x) (pos y)) 0 (s.at x y)
        bare x y e n true w =
            let k : behind m.width q t' x y ≡ Bare = bare_behind m.width q t' x y n in
            let c : covered (layers_in p) (pos x) (pos y) ≡ true = let under = work.under x y w in grind (arith, nat_tests, under, n) in
            painted_there x y ∙ ap₂ (λ b c. cond (b && changes c) (taken s.depth m' c) (s.at x y)) w k ∙ sym (cond-true _ 0 (s.at x y) c)
        bare x y e n false w =
            let same = work.off x y (ap (λ z. inside z (pos x) (pos y)) fit ∙ e) w in
            let c : covered (layers_in p) (pos x) (pos y) ≡ false = topmost_tells (layers_in p) (pos x) (pos y) ∙ ap is_some (sym same) ∙ sym (topmost_tells (layers_in q) (pos x) (pos y)) ∙ n in
            painted_there x y ∙ cond-false _ _ (s.at x y) (and_left _ _ w) ∙ sym (cond-false _ 0 (s.at x y) c)
