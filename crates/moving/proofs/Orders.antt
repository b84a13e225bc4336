-- Raise, lower, close, move and open: at which places another layer may come to show, and the desk on paper after each.
use Rattle.std.proofs.Common.{◌≡◌, ℕ, ◌*◌, ◌/◌, ◌%◌, ◌<◌, Bool, true, false, cond, not, ◌&&◌, ◌||◌, eqb, ltb, List, [], ◌∷◌, ◌++◌, get_or, ℤ, pos, is_some, Some, None, Option, sym, refl, ap, ◌∙◌, ap₂, ⊎_elim, arith}
use Rattle.std.proofs.lemmas.Bool.Decides.{nat_tests}
use Rattle.std.proofs.lemmas.Bool.{and_parts, and_from, or_left, or_right, or_parts, or_from, or_cases, both_ways, eqb-true, eq-eqb, lt-ltb}
use Rattle.raster.specs.Picture.{Picture}
use Rattle.raster.specs.Blt.{inside}
use Rattle.paper.specs.Layers.{Layer, with_layers, or_else, covers, covered, topmost, only, without, alter, at_corner}
use Rattle.paper.specs.Desk.{change, open_layer, close_layer, raise_layer, lower_layer, move_layer, new_layer}
use Rattle.paper.proofs.Screen.{none_topmost, topmost_is, topmost_tells}
use Rattle.paper.proofs.Layers.{or_else_none}
use Rattle.raster.specs.declared.rectangle.Rectangle.{Rectangle}
use Rattle.plan.specs.declared.plan.Plan.{Plan}
use Rattle.slots.specs.declared.slots.Slots.{Slots}
use Rattle.plan.specs.Frames.{no_frame, has}
use Rattle.plan.specs.Plans.{outline, outlines, listed, layers_in, frame_in, patch_at, patch_of}
use Rattle.slots.specs.Tables.{has_slot}
use Rattle.hold.specs.Held.{Pixels, layers_with}
use Rattle.hold.proofs.Places.{covered_listed}
use Rattle.hold.proofs.Papers.{layers_same}
use Rattle.moving.specs.Phases.{on_screen, in_store}
use Rattle.moving.specs.Moves.{desk_with, fresh, Stays, Worked}
use Rattle.moving.proofs.Places.{same_client}
use Rattle.hold.proofs.Places.{real, real_patch}
use Rattle.moving.proofs.Dressed.{dressed, dress, dressed_layers, dress_keep, dress-++, dress_alter}

-- ── The topmost layer, with some layers put elsewhere ──

pub topmost-++ : (ls ms : List Layer) (x y : ℤ) → topmost (ls ++ ms) x y ≡ or_else (topmost ms x y) (topmost ls x y)
topmost-++ [] ms x y = sym (or_else_none (topmost ms x y))
topmost-++ (l ∷ ls) ms x y = ap (λ o. or_else o (cond (covers l x y) (Some l) None)) (topmost-++ ls ms x y) ∙ assoc (topmost ms x y) (topmost ls x y) (cond (covers l x y) (Some l) None)
  where
    assoc : {A : Type 0} (o p q : Option A) → or_else (or_else o p) q ≡ or_else o (or_else p q)
    assoc (Some a) p q = refl
    assoc None p q = refl

module _ (c : ℕ) (x y : ℤ) where
  -- A client's layers that do not cover a place may be left out,
  pub topmost_without : (ls : List Layer) → covered (only c ls) x y ≡ false → topmost (without c ls) x y ≡ topmost ls x y
  topmost_without [] n = refl
  topmost_without (l ∷ ls) n = go (topmost_without ls) (eqb c l.client) n
    where
      go : (covered (only c ls) x y ≡ false → topmost (without c ls) x y ≡ topmost ls x y) → (b : Bool) → covered (cond b (l ∷ only c ls) (only c ls)) x y ≡ false
          → topmost (cond (not b) (l ∷ without c ls) (without c ls)) x y ≡ or_else (topmost ls x y) (cond (covers l x y) (Some l) None)
      go ih true n =
          let q = or_parts (covers l x y) (covered (only c ls) x y) n in
          ih q.1 ∙ sym (or_else_none (topmost ls x y)) ∙ ap (λ b. or_else (topmost ls x y) (cond b (Some l) None)) (sym q.0)
      go ih false n = ap (λ o. or_else o (cond (covers l x y) (Some l) None)) (ih n)

  -- put on top,
  pub topmost_raised : (ls : List Layer) → covered (only c ls) x y ≡ false → topmost (without c ls ++ only c ls) x y ≡ topmost ls x y
  topmost_raised ls n =
      topmost-++ (without c ls) (only c ls) x y ∙ ap (λ o. or_else o (topmost (without c ls) x y)) (none_topmost (only c ls) x y n) ∙ topmost_without ls n

  -- put below all others,
  pub topmost_lowered : (ls : List Layer) → covered (only c ls) x y ≡ false → topmost (only c ls ++ without c ls) x y ≡ topmost ls x y
  topmost_lowered ls n =
      topmost-++ (only c ls) (without c ls) x y ∙ ap₂ or_else (topmost_without ls n) (none_topmost (only c ls) x y n) ∙ or_else_none (topmost ls x y)

  -- and altered to one that does not cover it either.
  pub topmost_altered : (f : Layer → Layer) → ((l : Layer) → (f l).client ≡ l.client) → (ls : List Layer) → covered (only c ls) x y ≡ false → covered (only c (alter c f ls)) x y ≡ false
      → topmost (alter c f ls) x y ≡ topmost ls x y
  topmost_altered f same [] n n' = refl
  topmost_altered f same (l ∷ ls) n n' = go (topmost_altered f same ls) (eqb l.client c) refl n n'
    where
      go : (covered (only c ls) x y ≡ false → covered (only c (alter c f ls)) x y ≡ false → topmost (alter c f ls) x y ≡ topmost ls x y) → (b : Bool) → eqb l.client c ≡ b
          → covered (only c (l ∷ ls)) x y ≡ false → covered (only c (cond b (f l ∷ ls) (l ∷ alter c f ls))) x y ≡ false
          → topmost (cond b (f l ∷ ls) (l ∷ alter c f ls)) x y ≡ topmost (l ∷ ls) x y
      go ih true e n n' =
          let own : eqb c l.client ≡ true = eq-eqb c l.client (sym (eqb-true l.client c e)) in
          let a : covers l x y ≡ false = (or_parts (covers l x y) _ (ap (λ b. covered (cond b (l ∷ only c ls) (only c ls)) x y) (sym own) ∙ n)).0 in
          let b : covers (f l) x y ≡ false = (or_parts (covers (f l) x y) _ (ap (λ b. covered (cond b (f l ∷ only c ls) (only c ls)) x y) (sym (ap (eqb c) (same l) ∙ own)) ∙ n')).0 in
          ap (λ b. or_else (topmost ls x y) (cond b (Some (f l)) None)) b ∙ ap (λ b. or_else (topmost ls x y) (cond b (Some l) None)) (sym a)
      go ih false e n n' =
          let other : eqb c l.client ≡ false = grind (arith, nat_tests) in
          let m : covered (only c ls) x y ≡ false = ap (λ b. covered (cond b (l ∷ only c ls) (only c ls)) x y) (sym other) ∙ n in
          let m' : covered (only c (alter c f ls)) x y ≡ false = ap (λ b. covered (cond b (l ∷ only c (alter c f ls)) (only c (alter c f ls))) x y) (sym other) ∙ n' in
          ap (λ o. or_else o (cond (covers l x y) (Some l) None)) (ih m m')

-- ── A client's layer in an arrangement ──

only_covered : (c : ℕ) (ds : List ℕ) (fs : List Rectangle) (x y : ℤ) → covers (outline c (get_or fs c no_frame)) x y ≡ false → covered (only c (outlines ds fs)) x y ≡ false
only_covered c [] fs x y n = refl
only_covered c (d ∷ ds) fs x y n = go (only_covered c ds fs x y n) (eqb c d) refl
  where
    go : covered (only c (outlines ds fs)) x y ≡ false → (b : Bool) → eqb c d ≡ b → covered (cond b (outline d (get_or fs d no_frame) ∷ only c (outlines ds fs)) (only c (outlines ds fs))) x y ≡ false
    go ih true e = or_from _ _ (ap (λ k. covers (outline k (get_or fs k no_frame)) x y) (sym (eqb-true c d e)) ∙ n) ih
    go ih false e = ih

-- the places of a client's frame on the screen

module _ (p : Plan) (c x y : ℕ) where
  on_covers : on_screen p.screen (frame_in p c) x y ≡ true → covers (outline c (frame_in p c)) (pos x) (pos y) ≡ true
  on_covers h = (and_parts (covers (outline c (frame_in p c)) (pos x) (pos y)) (inside p.screen (pos x) (pos y)) h).0

  off_covers : inside p.screen (pos x) (pos y) ≡ true → on_screen p.screen (frame_in p c) x y ≡ false → covered (only c (layers_in p)) (pos x) (pos y) ≡ false
  off_covers i n =
      only_covered c (listed p) p.frames (pos x) (pos y) (grind (arith, nat_tests))

-- ── The places that a call works on ──

-- An arrangement that differs from p in the order of the client's layer alone, or in its absence.
module _ (p q : Plan) (c : ℕ) (screens : q.screen ≡ p.screen) (was : has c (listed p) ≡ true) where
  same_off : ((x y : ℕ) → covered (only c (layers_in p)) (pos x) (pos y) ≡ false → topmost (layers_in q) (pos x) (pos y) ≡ topmost (layers_in p) (pos x) (pos y))
      → Worked p q (on_screen p.screen (frame_in p c))
  same_off same = record {
    same_screen = screens;
    on = λ x y h. (and_parts (covers (outline c (frame_in p c)) (pos x) (pos y)) _ h).1;
    under = λ x y h. or_left _ _ (covered_listed p.frames c (pos x) (pos y) (listed p) was (on_covers p c x y h));
    off = λ x y i n. same x y (off_covers p c x y i n);
  }

  pub raised_same_off : layers_in q ≡ without c (layers_in p) ++ only c (layers_in p) → Worked p q (on_screen p.screen (frame_in p c))
  raised_same_off e = same_off (λ x y n. ap (λ ls. topmost ls (pos x) (pos y)) e ∙ topmost_raised c (pos x) (pos y) (layers_in p) n)

  pub lowered_same_off : layers_in q ≡ only c (layers_in p) ++ without c (layers_in p) → Worked p q (on_screen p.screen (frame_in p c))
  lowered_same_off e = same_off (λ x y n. ap (λ ls. topmost ls (pos x) (pos y)) e ∙ topmost_lowered c (pos x) (pos y) (layers_in p) n)

  pub closed_same_off : layers_in q ≡ without c (layers_in p) → Worked p q (on_screen p.screen (frame_in p c))
  closed_same_off e = same_off (λ x y n. ap (λ ls. topmost ls (pos x) (pos y)) e ∙ topmost_without c (pos x) (pos y) (layers_in p) n)

  -- A move works on the frame before and on the frame after.
  pub moved_same_off : (a b : ℤ) → layers_in q ≡ alter c (at_corner a b) (layers_in p) → has c (listed q) ≡ true
      → Worked p q (λ x y. on_screen p.screen (frame_in p c) x y || on_screen p.screen (frame_in q c) x y)
  moved_same_off a b e is = record {
    same_screen = screens;
    on = λ x y h. ⊎_elim (λ (i : on_screen p.screen (frame_in p c) x y ≡ true). (and_parts _ (inside p.screen (pos x) (pos y)) i).1) (λ (i : on_screen p.screen (frame_in q c) x y ≡ true). (and_parts _ (inside p.screen (pos x) (pos y)) i).1) (or_cases _ _ h);
    under = λ x y h. ⊎_elim (λ (i : on_screen p.screen (frame_in p c) x y ≡ true). or_left _ _ (covered_listed p.frames c (pos x) (pos y) (listed p) was (and_parts (covers (outline c (frame_in p c)) (pos x) (pos y)) _ i).0))
        (λ (i : on_screen p.screen (frame_in q c) x y ≡ true). or_right (covered (layers_in p) (pos x) (pos y)) _ (covered_listed q.frames c (pos x) (pos y) (listed q) is (and_parts (covers (outline c (frame_in q c)) (pos x) (pos y)) _ i).0)) (or_cases _ _ h);
    off = λ x y i n.
        let o = or_parts (on_screen p.screen (frame_in p c) x y) (on_screen p.screen (frame_in q c) x y) n in
        let i' : inside q.screen (pos x) (pos y) ≡ true = ap (λ z. inside z (pos x) (pos y)) screens ∙ i in
        ap (λ ls. topmost ls (pos x) (pos y)) e
        ∙ topmost_altered c (pos x) (pos y) (at_corner a b) (λ l. refl) (layers_in p) (off_covers p c x y i o.0)
        (ap (λ ls. covered (only c ls) (pos x) (pos y)) (sym e) ∙ off_covers q c x y i' (ap (λ z. on_screen z (frame_in q c) x y) screens ∙ o.1));
  }

-- A new layer works on its frame, where it is topmost.
module _ (p q : Plan) (c : ℕ) (f : Rectangle) (screens : q.screen ≡ p.screen) (e : layers_in q ≡ layers_in p ++ (outline c f ∷ [])) where
  pub opened_topmost : (x y : ℕ) → on_screen p.screen f x y ≡ true → topmost (layers_in q) (pos x) (pos y) ≡ Some (outline c f)
  opened_topmost x y h =
      ap (λ ls. topmost ls (pos x) (pos y)) e ∙ topmost_is (layers_in p) [] (outline c f) (pos x) (pos y) (and_parts (covers (outline c f) (pos x) (pos y)) _ h).0 refl

  pub opened_same_off : Worked p q (on_screen p.screen f)
  opened_same_off = record {
    same_screen = screens;
    on = λ x y h. (and_parts (covers (outline c f) (pos x) (pos y)) _ h).1;
    under = λ x y h. or_right (covered (layers_in p) (pos x) (pos y)) _ (topmost_tells (layers_in q) (pos x) (pos y) ∙ ap is_some (opened_topmost x y h));
    off = λ x y i n.
        let k : covers (outline c f) (pos x) (pos y) ≡ false = grind (arith, nat_tests) in
        ap (λ ls. topmost ls (pos x) (pos y)) e ∙ topmost-++ (layers_in p) (outline c f ∷ []) (pos x) (pos y) ∙ ap (λ b. or_else (cond b (Some (outline c f)) None) (topmost (layers_in p) (pos x) (pos y))) k;
  }

-- ── Layers that stay ──

pub stays_still : (p q : Plan) (t' : Slots) (d : ℕ) → has d (listed p) ≡ true → frame_in q d ≡ frame_in p d → Stays p q t' d
stays_still p q t' d h e = record {
  was = h;
  width = ap (λ (f : Rectangle). f.w) e;
  height = ap (λ (f : Rectangle). f.h) e;
  fixed = λ u v hu hv n. (ap (λ (f : Rectangle). f.x) e, ap (λ (f : Rectangle). f.y) e);
}

-- A layer is moved where each of its patches has a slot on the way.
pub stays_moved : (p q : Plan) (t' : Slots) (d : ℕ) → has d (listed p) ≡ true → has d (listed q) ≡ true → (frame_in q d).w ≡ (frame_in p d).w → (frame_in q d).h ≡ (frame_in p d).h
    → ((k : ℕ) → k < 2400 → patch_of q d k ≡ true → has_slot t' k ≡ true) → Stays p q t' d
stays_moved p q t' d h h' ew eh all = record {
  was = h;
  width = ew;
  height = eh;
  fixed = λ u v hu hv n.
      let r = real p d u v (record { opened = h; across = hu; down = hv }) in
      let k : ℕ = patch_at d (u / 16) (v / 16) in
      let ec : k / 300 ≡ d = omega arith in
      let ei : 16 * (k % 300 % 20) < (frame_in q d).w = omega arith in
      let ej : 16 * (k % 300 / 20) < (frame_in q d).h = omega arith in
      absurd (both_ways (in_store t' d u v) n (all k (real_patch d u v r) (and_from _ _ h' (and_from _ _ (eq-eqb _ _ ec) (and_from _ _ (lt-ltb _ _ ei) (lt-ltb _ _ ej))))));
}

-- ── The desk on paper ──

module _ (s m : Picture) (p q : Plan) (c : ℕ) (px : Pixels) where
  with_layers_in : (ls : List Layer) → layers_in q ≡ ls → desk_with s m q px ≡ with_layers (desk_with s m p px) (dress s.depth px ls)
  with_layers_in ls e = ap (λ ms. with_layers (desk_with s m p px) ms) (dressed_layers s.depth q px (listed q) ∙ ap (dress s.depth px) e)

  dressed_p : (f : List Layer → List Layer) (ls : List Layer) → f (dress s.depth px (layers_in p)) ≡ dress s.depth px ls
      → with_layers (desk_with s m p px) (dress s.depth px ls) ≡ with_layers (desk_with s m p px) (f (layers_with s.depth p px (listed p)))
  dressed_p f ls e = ap (with_layers (desk_with s m p px)) (sym e ∙ ap f (sym (dressed_layers s.depth p px (listed p))))

  pub raised_paper : layers_in q ≡ without c (layers_in p) ++ only c (layers_in p) → desk_with s m q px ≡ change (desk_with s m p px) (raise_layer c)
  raised_paper e =
      with_layers_in _ e
      ∙ dressed_p (λ ls. without c ls ++ only c ls) _ (ap₂ ◌++◌ (dress_keep s.depth px (λ k. not (eqb c k)) (layers_in p)) (dress_keep s.depth px (eqb c) (layers_in p)) ∙ dress-++ s.depth px (without c (layers_in p)) (only c (layers_in p)))

  pub lowered_paper : layers_in q ≡ only c (layers_in p) ++ without c (layers_in p) → desk_with s m q px ≡ change (desk_with s m p px) (lower_layer c)
  lowered_paper e =
      with_layers_in _ e
      ∙ dressed_p (λ ls. only c ls ++ without c ls) _ (ap₂ ◌++◌ (dress_keep s.depth px (eqb c) (layers_in p)) (dress_keep s.depth px (λ k. not (eqb c k)) (layers_in p)) ∙ dress-++ s.depth px (only c (layers_in p)) (without c (layers_in p)))

  pub closed_paper : layers_in q ≡ without c (layers_in p) → desk_with s m q px ≡ change (desk_with s m p px) (close_layer c)
  closed_paper e = with_layers_in _ e ∙ dressed_p (without c) _ (dress_keep s.depth px (λ k. not (eqb c k)) (layers_in p))

  pub moved_paper : (a b : ℤ) → layers_in q ≡ alter c (at_corner a b) (layers_in p) → desk_with s m q px ≡ change (desk_with s m p px) (move_layer c a b)
  moved_paper a b e = with_layers_in _ e ∙ dressed_p (alter c (at_corner a b)) _ (dress_alter s.depth px c a b (layers_in p))

-- A new layer is 0, and the other layers keep their pixels.
pub opened_paper : (s m : Picture) (p q : Plan) (c : ℕ) (f : Rectangle) (px : Pixels) → has c (listed p) ≡ false → layers_in q ≡ layers_in p ++ (outline c f ∷ [])
    → desk_with s m q (fresh c px) ≡ change (desk_with s m p px) (open_layer c f.x f.y f.w f.h)
opened_paper s m p q c f px none e =
    ap (with_layers (desk_with s m p px))
    (dressed_layers s.depth q (fresh c px) (listed q) ∙ ap (dress s.depth (fresh c px)) e ∙ sym (dress-++ s.depth (fresh c px) (layers_in p) (outline c f ∷ []))
    ∙ ap₂ (λ ls l. ls ++ (l ∷ [])) (sym (dressed_layers s.depth p (fresh c px) (listed p)) ∙ layers_same s.depth p (fresh c px) px (listed p) others) zeros)
  where
    others : (d : ℕ) → has d (listed p) ≡ true → (u v : ℕ) → u < (frame_in p d).w → v < (frame_in p d).h → fresh c px d u v ≡ px d u v
    others d h u v hu hv = go (eqb d c) refl
      where
        go : (b : Bool) → eqb d c ≡ b → cond b 0 (px d u v) ≡ px d u v
        go true k = absurd (both_ways (has c (listed p)) none (ap (λ n. has n (listed p)) (sym (eqb-true d c k)) ∙ h))
        go false k = refl

    nothing : (u v : ℕ) → cond (ltb u f.w && ltb v f.h) (fresh c px c u v) 0 ≡ 0
    nothing u v = ap (λ b. cond (ltb u f.w && ltb v f.h) (cond b 0 (px c u v)) 0) (same_client c) ∙ either (ltb u f.w && ltb v f.h)
      where
        either : (b : Bool) → cond {A = ℕ} b 0 0 ≡ 0
        either b = grind (arith, nat_tests)

    zeros : dressed s.depth (fresh c px) (outline c f) ≡ new_layer s.depth c f.x f.y f.w f.h
    zeros = λ i. record { client = c; x = f.x; y = f.y; pixels = record { width = f.w; height = f.h; depth = s.depth; at = λ u v. nothing u v i } }
