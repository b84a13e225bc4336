-- Which layer shows at a screen place, and where its pixel lies in the store.
use Rattle.std.proofs.Common.{rules, tests, ◌≡◌, ℕ, ◌<◌, Bool, true, false, cond, not, ◌||◌, eqb, List, [], ◌∷◌, get_or, ℤ, pos, ◌+ℤ◌, ◌-ℤ◌, nat_abs, is_some, Some, None, Option, sym, refl, ap, ◌∙◌, subst, ap₂, arith}
use Rattle.std.proofs.lemmas.Int.{ints}
use Rattle.std.proofs.lemmas.Bool.Decides.{nat_tests}
use Rattle.std.proofs.lemmas.Bool.{and_parts, and_from, or_left, or_right, not_from_false, both_ways, eqb-true, eq-eqb}
use Rattle.raster.specs.Blt.{inside}
use Rattle.paper.specs.Layers.{Layer, or_else, covers, covered, topmost}
use Rattle.paper.specs.Desk.{client_if}
use Rattle.paper.proofs.Screen.{topmost_tells, none_topmost}
use Rattle.raster.specs.declared.rectangle.Rectangle.{Rectangle}
use Rattle.plan.specs.declared.plan.Plan.{Plan}
use Rattle.slots.specs.declared.slots.Slots.{Slots}
use Rattle.plan.specs.Frames.{no_frame, has, distinct}
use Rattle.plan.specs.Plans.{outline, outlines, listed, layers_in, frame_in, above, seen}
use Rattle.hold.specs.Held.{OwnPixel}
use Rattle.hold.proofs.Places.{Real, real, store_apart, seen_place, seen_covers}
use Rattle.hold.proofs.Shows.{pixel_at}
use Rattle.moving.specs.declared.backing.Backing.TheVariants.{Bare, Alone, Kept}
use Rattle.moving.specs.Phases.{store_x, store_y, in_store, kept_pixel, from_corner, backed, behind}

pub same_client : (c : ℕ) → eqb c c ≡ true
same_client c = eq-eqb c c refl

-- ── The topmost layer ──

-- The topmost layer at a place: its client is listed, it is that client's, it covers the place, and none above it does.
pub record Tops (ds : List ℕ) (fs : List Rectangle) (x y : ℤ) (l : Layer) : Type 0 where
  pub listed : has l.client ds ≡ true
  pub own : l ≡ outline l.client (get_or fs l.client no_frame)
  pub covers : covers l x y ≡ true
  pub free : distinct ds ≡ true → covered (above l.client (outlines ds fs)) x y ≡ false

-- the client of a later place in a list without repeats is another
other_client : (c d : ℕ) (ds : List ℕ) → not (has c ds) ≡ true → has d ds ≡ true → eqb c d ≡ false
other_client c d ds n h = grind (arith, nat_tests)

tops_later : (c : ℕ) (ds : List ℕ) (fs : List Rectangle) (x y : ℤ) (l : Layer) → Tops ds fs x y l → Tops (c ∷ ds) fs x y l
tops_later c ds fs x y l t = record {
  listed = or_right (eqb c l.client) (has l.client ds) t.listed;
  own = t.own;
  covers = t.covers;
  free = λ o.
      let q = and_parts (not (has c ds)) (distinct ds) o in
      ap (λ b. covered (cond b (outlines ds fs) (above l.client (outlines ds fs))) x y) (other_client c l.client ds q.0 t.listed) ∙ t.free q.1;
}

tops_first : (c : ℕ) (ds : List ℕ) (fs : List Rectangle) (x y : ℤ) → covers (outline c (get_or fs c no_frame)) x y ≡ true → covered (outlines ds fs) x y ≡ false
    → Tops (c ∷ ds) fs x y (outline c (get_or fs c no_frame))
tops_first c ds fs x y k n = record {
  listed = or_left (eqb c c) (has c ds) (same_client c);
  own = refl;
  covers = k;
  free = λ o. ap (λ b. covered (cond b (outlines ds fs) (above c (outlines ds fs))) x y) (same_client c) ∙ n;
}

pub top_is : (ds : List ℕ) (fs : List Rectangle) (x y : ℤ) (l : Layer) → topmost (outlines ds fs) x y ≡ Some l → Tops ds fs x y l
top_is [] fs x y l e = absurd (let z : ◌≡◌ {A = ℕ} 0 1 = cc in omega arith)
top_is (c ∷ ds) fs x y l e = go (top_is ds fs x y l) (topmost (outlines ds fs) x y) refl (covers (outline c (get_or fs c no_frame)) x y) refl e
  where
    go : (topmost (outlines ds fs) x y ≡ Some l → Tops ds fs x y l) → (o : Option Layer) → topmost (outlines ds fs) x y ≡ o → (b : Bool) → covers (outline c (get_or fs c no_frame)) x y ≡ b
        → or_else o (cond b (Some (outline c (get_or fs c no_frame))) None) ≡ Some l → Tops (c ∷ ds) fs x y l
    go ih (Some m) eo b eb q = tops_later c ds fs x y l (ih (eo ∙ q))
    go ih None eo true eb q =
        let same : outline c (get_or fs c no_frame) ≡ l = cc in
        rw (← same) (tops_first c ds fs x y eb (topmost_tells (outlines ds fs) x y ∙ ap is_some eo))
    go ih None eo false eb q = absurd (let z : ◌≡◌ {A = ℕ} 0 1 = cc in omega arith)

-- and back
pub is_top : (ds : List ℕ) (fs : List Rectangle) (x y : ℤ) (d : ℕ) → has d ds ≡ true → covers (outline d (get_or fs d no_frame)) x y ≡ true
    → covered (above d (outlines ds fs)) x y ≡ false → topmost (outlines ds fs) x y ≡ Some (outline d (get_or fs d no_frame))
is_top [] fs x y d h k n = absurd (both_ways false refl h)
is_top (c ∷ ds) fs x y d h k n = go (λ h n. is_top ds fs x y d h k n) (eqb c d) refl h n
  where
    go : (has d ds ≡ true → covered (above d (outlines ds fs)) x y ≡ false → topmost (outlines ds fs) x y ≡ Some (outline d (get_or fs d no_frame)))
        → (b : Bool) → eqb c d ≡ b → (b || has d ds) ≡ true → covered (cond b (outlines ds fs) (above d (outlines ds fs))) x y ≡ false
        → topmost (outlines (c ∷ ds) fs) x y ≡ Some (outline d (get_or fs d no_frame))
    go ih true e h n =
        let same : c ≡ d = eqb-true c d e in
        ap (λ o. or_else o (cond (covers (outline c (get_or fs c no_frame)) x y) (Some (outline c (get_or fs c no_frame))) None)) (none_topmost (outlines ds fs) x y n)
        ∙ ap (λ m. cond (covers (outline m (get_or fs m no_frame)) x y) (Some (outline m (get_or fs m no_frame))) None) same
        ∙ ap (λ b. cond b (Some (outline d (get_or fs d no_frame))) None) k
    go ih false e h n = ap (λ o. or_else o (cond (covers (outline c (get_or fs c no_frame)) x y) (Some (outline c (get_or fs c no_frame))) None)) (ih h n)

-- ── Pixels and places ──

pub place_from : (a : ℤ) (x u : ℕ) → pos x ≡ a +ℤ pos u → from_corner a x ≡ u
place_from a x u e = let z : pos x -ℤ a ≡ pos u = omega (arith, ints) in ap nat_abs z

-- ── What shows at a place ──

-- The pixel (u, v) of client d's layer is topmost at (x, y).
pub record Shows (p : Plan) (x y d u v : ℕ) : Type 0 where
  pub listed : has d (listed p) ≡ true
  pub column : u < (frame_in p d).w
  pub row : v < (frame_in p d).h
  pub across : pos x ≡ (frame_in p d).x +ℤ pos u
  pub down : pos y ≡ (frame_in p d).y +ℤ pos v
  pub top : topmost (layers_in p) (pos x) (pos y) ≡ Some (outline d (frame_in p d))

pub top_shows : (p : Plan) (x y : ℕ) (l : Layer) → topmost (layers_in p) (pos x) (pos y) ≡ Some l
    → Shows p x y l.client (from_corner l.x x) (from_corner l.y y)
top_shows p x y l e =
    let t = top_is (listed p) p.frames (pos x) (pos y) l e in
    let d : ℕ = l.client in
    let f : Rectangle = frame_in p d in
    let own : l ≡ outline d f = t.own in
    let w = pixel_at d f x y (ap (λ (m : Layer). covers m (pos x) (pos y)) (sym own) ∙ t.covers) in
    subst (λ (m : Layer). Shows p x y d (from_corner m.x x) (from_corner m.y y)) (sym own)
    (record { listed = t.listed; column = w.across; row = w.down; across = sym w.column; down = sym w.row; top = e ∙ ap Some own })

-- the same, where the layer is told by its client, corner and size
pub shown_by : (p : Plan) (x y d u v : ℕ) (f : Rectangle) → topmost (layers_in p) (pos x) (pos y) ≡ Some (outline d f)
    → pos x ≡ f.x +ℤ pos u → pos y ≡ f.y +ℤ pos v → Shows p x y d u v
shown_by p x y d u v f e ex ey =
    subst (λ (b : ℕ). Shows p x y d u b) (place_from f.y y v ey)
    (subst (λ (a : ℕ). Shows p x y d a (from_corner f.y y)) (place_from f.x x u ex) (top_shows p x y (outline d f) e))

pub shows_behind : (width : ℕ) (p : Plan) (t : Slots) (x y d u v : ℕ) → Shows p x y d u v → behind width p t x y ≡ kept_pixel width t d u v
unfolding behind
shows_behind width p t x y d u v s =
    ap (λ o. backed width t o x y) s.top
    ∙ ap₂ (kept_pixel width t d) (place_from (frame_in p d).x x u s.across) (place_from (frame_in p d).y y v s.down)

pub bare_behind : (width : ℕ) (p : Plan) (t : Slots) (x y : ℕ) → covered (layers_in p) (pos x) (pos y) ≡ false → behind width p t x y ≡ Bare
unfolding behind
bare_behind width p t x y n = ap (λ o. backed width t o x y) (none_topmost (layers_in p) (pos x) (pos y) n)

-- Such a pixel is seen, if the place is on the screen; and a pixel that is seen shows at its place.
pub shows_seen : (p : Plan) (x y d u v : ℕ) → Shows p x y d u v → inside p.screen (pos x) (pos y) ≡ true → seen p d u v ≡ true
shows_seen p x y d u v s on =
    let t = top_is (listed p) p.frames (pos x) (pos y) (outline d (frame_in p d)) s.top in
    and_from _ _ (ap₂ (inside p.screen) (sym s.across) (sym s.down) ∙ on)
    (not_from_false _ (ap₂ (covered (above d (layers_in p))) (sym s.across) (sym s.down) ∙ t.free p.once))

-- the screen place of a pixel
abbrev pub place_x : Plan → (client u : ℕ) → ℕ
place_x p d u = nat_abs ((frame_in p d).x +ℤ pos u)

abbrev pub place_y : Plan → (client v : ℕ) → ℕ
place_y p d v = nat_abs ((frame_in p d).y +ℤ pos v)

pub record SeenAt (p : Plan) (d u v : ℕ) : Type 0 where
  pub shows : Shows p (place_x p d u) (place_y p d v) d u v
  pub on : inside p.screen (pos (place_x p d u)) (pos (place_y p d v)) ≡ true

pub seen_shows : (p : Plan) (d u v : ℕ) → has d (listed p) ≡ true → u < (frame_in p d).w → v < (frame_in p d).h → seen p d u v ≡ true → SeenAt p d u v
seen_shows p d u v h hu hv s =
    let o : OwnPixel p d u v = record { opened = h; across = hu; down = hv } in
    let z = seen_place p d u v s in
    record {
      shows = record { listed = h; column = hu; row = hv; across = sym z.across; down = sym z.down; top = is_top (listed p) p.frames _ _ d h (seen_covers p d u v _ _ o z) z.free };
      on = z.within;
    }

-- The place of a pixel that shows is the place where it shows.
pub shows_place : (p : Plan) (x y d u v : ℕ) → Shows p x y d u v → (place_x p d u ≡ x) × (place_y p d v ≡ y)
shows_place p x y d u v s = (ap nat_abs (sym s.across), ap nat_abs (sym s.down))

-- ── A place whose pixel is kept in the store ──

pub record Keeps (width : ℕ) (p : Plan) (t : Slots) (x y a b : ℕ) : Type 0 where
  pub client : ℕ
  pub u : ℕ
  pub v : ℕ
  pub shows : Shows p x y client u v
  pub stored : in_store t client u v ≡ true
  pub column : a ≡ store_x width t client u v
  pub row : b ≡ store_y width t client u v

kept_parts : (k : Bool) (a b a' b' : ℕ) → cond k (Kept a b) Alone ≡ Kept a' b' → (k ≡ true) × (a' ≡ a) × (b' ≡ b)
kept_parts k a b a' b' e = search (rules, tests)

pub behind_keeps : (width : ℕ) (p : Plan) (t : Slots) (x y a b : ℕ) → behind width p t x y ≡ Kept a b → Keeps width p t x y a b
unfolding behind
behind_keeps width p t x y a b e = go (topmost (layers_in p) (pos x) (pos y)) refl e
  where
    go : (o : Option Layer) → topmost (layers_in p) (pos x) (pos y) ≡ o → backed width t o x y ≡ Kept a b → Keeps width p t x y a b
    go (Some l) eo q =
        let u : ℕ = from_corner l.x x in
        let v : ℕ = from_corner l.y y in
        let k = kept_parts (in_store t l.client u v) (store_x width t l.client u v) (store_y width t l.client u v) a b q in
        record { client = l.client; u = u; v = v; shows = top_shows p x y l eo; stored = k.0; column = k.1; row = k.2 }
    go None eo q = absurd (let z : ◌≡◌ {A = ℕ} 0 1 = cc in omega arith)

shows_real : (p : Plan) (x y d u v : ℕ) → Shows p x y d u v → Real d u v
shows_real p x y d u v s = real p d u v (record { opened = s.listed; across = s.column; down = s.row })

-- A pixel with the same place in the store is the one that shows.
pub keeps_pixel : (width : ℕ) (p : Plan) (t : Slots) (x y a b d u v : ℕ) → Keeps width p t x y a b → Real d u v → in_store t d u v ≡ true → a ≡ store_x width t d u v → b ≡ store_y width t d u v
    → Shows p x y d u v
keeps_pixel width p t x y a b d u v k r held ea eb =
    let q = store_apart width t k.client k.u k.v d u v (shows_real p x y k.client k.u k.v k.shows) r k.stored held (sym k.column ∙ ea) (sym k.row ∙ eb) in
    subst (λ (n : ℕ). Shows p x y n u v) q.0 (subst (λ (n : ℕ). Shows p x y k.client n v) q.1 (subst (λ (n : ℕ). Shows p x y k.client k.u n) q.2 k.shows))

-- Two places whose pixels are kept at one place of the store are one.
pub behind_one : (width : ℕ) (p : Plan) (t : Slots) (x y x' y' a b : ℕ) → behind width p t x y ≡ Kept a b → behind width p t x' y' ≡ Kept a b → (x ≡ x') × (y ≡ y')
behind_one width p t x y x' y' a b e e' =
    let k = behind_keeps width p t x y a b e in
    let k' = behind_keeps width p t x' y' a b e' in
    let s = keeps_pixel width p t x' y' a b k.client k.u k.v k' (shows_real p x y k.client k.u k.v k.shows) k.stored k.column k.row in
    let q = shows_place p x y k.client k.u k.v k.shows in
    let q' = shows_place p x' y' k.client k.u k.v s in
    (sym q.0 ∙ q'.0, sym q.1 ∙ q'.1)

-- The client whose layer is topmost at a place, and the layer's pixel there.
pub client_shows : (p : Plan) (x y d : ℕ) → client_if (topmost (layers_in p) (pos x) (pos y)) ≡ Some d
    → Shows p x y d (from_corner (frame_in p d).x x) (from_corner (frame_in p d).y y)
client_shows p x y d e = go (topmost (layers_in p) (pos x) (pos y)) refl e
  where
    go : (o : Option Layer) → topmost (layers_in p) (pos x) (pos y) ≡ o → client_if o ≡ Some d → Shows p x y d (from_corner (frame_in p d).x x) (from_corner (frame_in p d).y y)
    go (Some l) eo k =
        let same : l.client ≡ d = cc in
        let t = top_is (listed p) p.frames (pos x) (pos y) l eo in
        let own : l ≡ outline d (frame_in p d) = t.own ∙ ap (λ n. outline n (frame_in p n)) same in
        let z = top_shows p x y (outline d (frame_in p d)) (eo ∙ ap Some own) in z
    go None eo k = absurd (let z : ◌≡◌ {A = ℕ} 0 1 = cc in omega arith)

pub no_client : (p : Plan) (x y : ℕ) → client_if (topmost (layers_in p) (pos x) (pos y)) ≡ None → covered (layers_in p) (pos x) (pos y) ≡ false
no_client p x y e = topmost_tells (layers_in p) (pos x) (pos y) ∙ go (topmost (layers_in p) (pos x) (pos y)) e
  where
    go : (o : Option Layer) → client_if o ≡ None → is_some o ≡ false
    go (Some l) k = absurd (let z : ◌≡◌ {A = ℕ} 0 1 = cc in omega arith)
    go None k = refl

-- The same from what the arrangement answers, and from how far the place lies past the layer's corner.
pub record Found (p : Plan) (x y d a b : ℕ) : Type 0 where
  pub client : d < 8
  pub column : a < 320
  pub row : b < 240
  pub is : (width : ℕ) (t : Slots) → kept_pixel width t d a b ≡ behind width p t x y

pub found : (p : Plan) (x y d a b : ℕ) (zx zy : ℤ) (f : Rectangle) (fx fy : ℤ) → zx ≡ pos x → zy ≡ pos y → Some d ≡ client_if (topmost (layers_in p) zx zy)
    → f ≡ frame_in p d → fx ≡ f.x → fy ≡ f.y → a ≡ nat_abs (zx -ℤ fx) → b ≡ nat_abs (zy -ℤ fy) → Found p x y d a b
found p x y d a b zx zy f fx fy ex ey e ef efx efy ha hb =
    let u : ℕ = from_corner (frame_in p d).x x in
    let v : ℕ = from_corner (frame_in p d).y y in
    let s : Shows p x y d u v = client_shows p x y d (ap₂ (λ i j. client_if (topmost (layers_in p) i j)) (sym ex) (sym ey) ∙ sym e) in
    let r = shows_real p x y d u v s in
    let ea : a ≡ u = ha ∙ ap₂ (λ i j. nat_abs (i -ℤ j)) ex (efx ∙ ap (λ (g : Rectangle). g.x) ef) in
    let eb : b ≡ v = hb ∙ ap₂ (λ i j. nat_abs (i -ℤ j)) ey (efy ∙ ap (λ (g : Rectangle). g.y) ef) in
    record {
      client = r.client;
      column = rw ea r.column;
      row = rw eb r.row;
      is = λ width t. ap₂ (kept_pixel width t d) ea eb ∙ sym (shows_behind width p t x y d u v s);
    }
