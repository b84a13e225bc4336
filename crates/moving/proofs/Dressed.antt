-- Layers with pixels, over the outlines of an arrangement.
use Rattle.std.proofs.Common.{◌≡◌, ℕ, Bool, true, false, cond, ◌&&◌, eqb, ltb, List, [], ◌∷◌, ◌++◌, ℤ, pos, Some, None, Option, refl, ap, ◌∙◌, ap₂}
use Rattle.std.proofs.lemmas.Bool.{and_from, lt-ltb, cond-true}
use Rattle.paper.specs.Layers.{Layer, or_else, covers, topmost, pixel_of, shown, keep, alter, at_corner}
use Rattle.plan.specs.declared.plan.Plan.{Plan}
use Rattle.plan.specs.Plans.{outline, outlines, listed, layers_in, frame_in}
use Rattle.hold.specs.Held.{Pixels, layer_with, layers_with}
use Rattle.moving.proofs.Places.{Shows, place_from}

-- A layer with pixels by a function of client, column and row.
abbrev pub dressed : (depth : ℕ) → Pixels → Layer → Layer
dressed depth px l = record {
  client = l.client;
  x = l.x;
  y = l.y;
  pixels = record {
    width = l.pixels.width;
    height = l.pixels.height;
    depth = depth;
    at = λ u v. cond (ltb u l.pixels.width && ltb v l.pixels.height) (px l.client u v) 0;
  };
}

abbrev pub dress : (depth : ℕ) → Pixels → List Layer → List Layer
dress depth px [] = []
dress depth px (l ∷ ls) = dressed depth px l ∷ dress depth px ls

pub dressed_layers : (depth : ℕ) (p : Plan) (px : Pixels) (ds : List ℕ) → layers_with depth p px ds ≡ dress depth px (outlines ds p.frames)
dressed_layers depth p px [] = refl
dressed_layers depth p px (d ∷ ds) = ap (λ ls. layer_with depth p px d ∷ ls) (dressed_layers depth p px ds)

module _ (depth : ℕ) (px : Pixels) where
  abbrev dressed_if : Option Layer → Option Layer
  dressed_if (Some l) = Some (dressed depth px l)
  dressed_if None = None

  either : (o : Option Layer) (b : Bool) (l : Layer) → or_else (dressed_if o) (cond b (Some (dressed depth px l)) None) ≡ dressed_if (or_else o (cond b (Some l) None))
  either (Some m) b l = refl
  either None true l = refl
  either None false l = refl

  pub dress_topmost : (ls : List Layer) (x y : ℤ) → topmost (dress depth px ls) x y ≡ dressed_if (topmost ls x y)
  dress_topmost [] x y = refl
  dress_topmost (l ∷ ls) x y = ap (λ o. or_else o (cond (covers l x y) (Some (dressed depth px l)) None)) (dress_topmost ls x y) ∙ either (topmost ls x y) (covers l x y) l

  -- What keeps, joins and moves layers does the same with their pixels.
  pub dress_keep : (test : ℕ → Bool) (ls : List Layer) → keep test (dress depth px ls) ≡ dress depth px (keep test ls)
  dress_keep test [] = refl
  dress_keep test (l ∷ ls) = go (test l.client) (dress_keep test ls)
    where
      go : (b : Bool) → keep test (dress depth px ls) ≡ dress depth px (keep test ls)
          → cond b (dressed depth px l ∷ keep test (dress depth px ls)) (keep test (dress depth px ls)) ≡ dress depth px (cond b (l ∷ keep test ls) (keep test ls))
      go true ih = ap (λ ms. dressed depth px l ∷ ms) ih
      go false ih = ih

  pub dress-++ : (ls ms : List Layer) → dress depth px ls ++ dress depth px ms ≡ dress depth px (ls ++ ms)
  dress-++ [] ms = refl
  dress-++ (l ∷ ls) ms = ap (λ ns. dressed depth px l ∷ ns) (dress-++ ls ms)

  pub dress_alter : (c : ℕ) (a b : ℤ) (ls : List Layer) → alter c (at_corner a b) (dress depth px ls) ≡ dress depth px (alter c (at_corner a b) ls)
  dress_alter c a b [] = refl
  dress_alter c a b (l ∷ ls) = go (eqb l.client c) (dress_alter c a b ls)
    where
      go : (t : Bool) → alter c (at_corner a b) (dress depth px ls) ≡ dress depth px (alter c (at_corner a b) ls)
          → cond t (at_corner a b (dressed depth px l) ∷ dress depth px ls) (dressed depth px l ∷ alter c (at_corner a b) (dress depth px ls))
          ≡ dress depth px (cond t (at_corner a b l ∷ ls) (l ∷ alter c (at_corner a b) ls))
      go true ih = refl
      go false ih = ap (λ ms. dressed depth px l ∷ ms) ih

module _ (depth : ℕ) (p : Plan) (px : Pixels) where
  -- The pixel that shows at a place is what the layers show there.
  pub with_shown : (x y d u v : ℕ) → Shows p x y d u v → shown (layers_with depth p px (listed p)) (pos x) (pos y) ≡ px d u v
  with_shown x y d u v s =
      let e : topmost (layers_with depth p px (listed p)) (pos x) (pos y) ≡ Some (dressed depth px (outline d (frame_in p d))) =
      ap (λ ls. topmost ls (pos x) (pos y)) (dressed_layers depth p px (listed p)) ∙ dress_topmost depth px (layers_in p) (pos x) (pos y) ∙ ap (dressed_if depth px) s.top in
      ap (λ o. pixel_of o (pos x) (pos y)) e
      ∙ ap₂ (dressed depth px (outline d (frame_in p d))).pixels.at (place_from (frame_in p d).x x u s.across) (place_from (frame_in p d).y y v s.down)
      ∙ cond-true _ (px d u v) 0 (and_from _ _ (lt-ltb u _ s.column) (lt-ltb v _ s.row))
