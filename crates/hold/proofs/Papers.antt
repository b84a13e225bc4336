-- The desk on paper that screen and store hold: its layers by the pixels held, and as those change.
use Rattle.std.proofs.Common.{◌≡◌, ℕ, ◌<◌, Bool, true, false, cond, not, ◌&&◌, ◌||◌, eqb, ltb, List, [], ◌∷◌, ℤ, Some, sym, refl, ap, ◌∙◌, ap₂}
use Rattle.std.proofs.lemmas.Bool.{ne_eqb, both_ways, false≢true, and_parts, and_from, or_left, or_right, not-true, eqb-true, eq-eqb, ltb-true, lt-ltb, cond-true}
use Rattle.raster.specs.Picture.{Picture, sizes}
use Rattle.raster.specs.declared.size.Size.{Size}
use Rattle.paper.specs.Layers.{Layer, covers, covered, pixels_of, or_blank, alter, with_pixels}
use Rattle.paper.specs.Slots.{slots_of}
use Rattle.paper.specs.Desk.{repaint}
use Rattle.plan.specs.declared.plan.Plan.{Plan}
use Rattle.slots.specs.declared.slots.Slots.{Slots}
use Rattle.plan.specs.Frames.{has, distinct}
use Rattle.plan.specs.Plans.{outline, outlines, listed, layers_in, frame_in}
use Rattle.hold.specs.Held.{Pixels, layer_with, layers_with, held, paper_of, layer_held, Holds, OwnPixel}

-- ── Layers with pixels ──

-- a client that is listed is none that is not
pub listed_apart : (c d : ℕ) (cs : List ℕ) → has c cs ≡ false → has d cs ≡ true → c ≡ d → ⊥
listed_apart c d cs n m e = both_ways (has c cs) n (ap (λ k. has k cs) e ∙ m)

either_within : (b : Bool) (m n : ℕ) → (b ≡ true → m ≡ n) → cond b m 0 ≡ cond b n 0
either_within true m n h = h refl
either_within false m n h = refl

-- the client's pixels agree
abbrev pub Agree : Plan → (px qx : Pixels) → ℕ → Type 0
Agree p px qx c = (u v : ℕ) → u < (frame_in p c).w → v < (frame_in p c).h → px c u v ≡ qx c u v

module _ (depth : ℕ) (p : Plan) (px qx : Pixels) where
  pub layer_same : (c : ℕ) → Agree p px qx c → layer_with depth p px c ≡ layer_with depth p qx c
  layer_same c h =
      ap (λ (a : ℕ → ℕ → ℕ). record {
        client = c;
        x = (frame_in p c).x;
        y = (frame_in p c).y;
        pixels = record { width = (frame_in p c).w; height = (frame_in p c).h; depth = depth; at = a };
      })
      (λ i u v.
      either_within (ltb u (frame_in p c).w && ltb v (frame_in p c).h) (px c u v) (qx c u v)
      (λ e. let q = and_parts (ltb u (frame_in p c).w) (ltb v (frame_in p c).h) e in h u v (ltb-true u _ q.0) (ltb-true v _ q.1)) i)

  pub layers_same : (cs : List ℕ) → ((c : ℕ) → has c cs ≡ true → Agree p px qx c) → layers_with depth p px cs ≡ layers_with depth p qx cs
  layers_same [] h = refl
  layers_same (c ∷ cs) h = ap₂ ◌∷◌ (layer_same c (h c (or_left _ _ (eq-eqb c c refl)))) (layers_same cs (λ d m. h d (or_right _ _ m)))

  -- other pixels of one client are a painting of its layer
  pub layers_altered : (c : ℕ) (cs : List ℕ) → distinct cs ≡ true → ((d : ℕ) → has d cs ≡ true → eqb d c ≡ false → Agree p px qx d)
      → layers_with depth p px cs ≡ alter c (with_pixels (layer_with depth p px c).pixels) (layers_with depth p qx cs)
  layers_altered c [] one h = refl
  layers_altered c (d ∷ ds) one h =
      let q = and_parts (not (has d ds)) (distinct ds) one in
      go (layers_altered c ds q.1 (λ e m. h e (or_right _ _ m))) (not-true _ q.0) (eqb d c) refl
    where
      go : layers_with depth p px ds ≡ alter c (with_pixels (layer_with depth p px c).pixels) (layers_with depth p qx ds) → has d ds ≡ false → (b : Bool) → eqb d c ≡ b
          → layer_with depth p px d ∷ layers_with depth p px ds
          ≡ cond b (with_pixels (layer_with depth p px c).pixels (layer_with depth p qx d) ∷ layers_with depth p qx ds)
          (layer_with depth p qx d ∷ alter c (with_pixels (layer_with depth p px c).pixels) (layers_with depth p qx ds))
      go ih n true e =
          let same = eqb-true d c e in
          ap₂ ◌∷◌ (ap (λ k. with_pixels (layer_with depth p px k).pixels (layer_with depth p qx d)) same)
          (layers_same ds (λ k m. h k (or_right _ _ m) (ne_eqb k c (λ e. listed_apart d k ds n m (same ∙ sym e)))))
      go ih n false e = ap₂ ◌∷◌ (layer_same d (h d (or_left _ _ (eq-eqb d d refl)) e)) ih

module _ (depth : ℕ) (p : Plan) (px : Pixels) where
  pub pixels_with : (c : ℕ) (cs : List ℕ) → has c cs ≡ true → pixels_of c (layers_with depth p px cs) ≡ Some (layer_with depth p px c).pixels
  pixels_with c [] h = absurd (false≢true h)
  pixels_with c (d ∷ ds) h = go (pixels_with c ds) (eqb d c) refl h
    where
      go : (has c ds ≡ true → pixels_of c (layers_with depth p px ds) ≡ Some (layer_with depth p px c).pixels) → (b : Bool) → eqb d c ≡ b → (b || has c ds) ≡ true
          → cond b (Some (layer_with depth p px d).pixels) (pixels_of c (layers_with depth p px ds)) ≡ Some (layer_with depth p px c).pixels
      go ih true e m = ap (λ k. Some (layer_with depth p px k).pixels) (eqb-true d c e)
      go ih false e m = ih m

  -- they cover what their outlines cover
  pub covered_with : (cs : List ℕ) (x y : ℤ) → covered (layers_with depth p px cs) x y ≡ covered (outlines cs p.frames) x y
  covered_with [] x y = refl
  covered_with (c ∷ cs) x y = ap (λ b. covers (outline c (frame_in p c)) x y || b) (covered_with cs x y)

-- ── The desk on paper ──

pub held_paper : (screen store : Picture) (p : Plan) (t : Slots) (px : Pixels) → Holds screen store p t px
    → paper_of screen store p t ≡ record { size = sizes screen; slots = slots_of (sizes store) screen.depth; layers = layers_with screen.depth p px (listed p) }
unfolding paper_of
held_paper screen store p t px h =
    ap (λ (ls : List Layer). record { size = sizes screen; slots = slots_of (sizes store) screen.depth; layers = ls })
    (layers_same screen.depth p (held screen store p t) px (listed p) (λ c m u v hu hv. h c m u v hu hv))

module _ (screen store : Picture) (p : Plan) (t : Slots) where
  pub paper_pixels : (c : ℕ) → has c (listed p) ≡ true → pixels_of c (paper_of screen store p t).layers ≡ Some (layer_with screen.depth p (held screen store p t) c).pixels
  unfolding paper_of
  paper_pixels c h = pixels_with screen.depth p (held screen store p t) c (listed p) h

  -- the pane of an open layer has the pixels that are held
  pub held_pane : (c : ℕ) → has c (listed p) ≡ true → layer_held screen store p t c ≡ (layer_with screen.depth p (held screen store p t) c).pixels
  held_pane c h = ap (or_blank (paper_of screen store p t).size.depth) (paper_pixels c h)

  pub layer_size : (c : ℕ) → has c (listed p) ≡ true → sizes (layer_held screen store p t c) ≡ record { width = (frame_in p c).w; height = (frame_in p c).h; depth = screen.depth }
  layer_size c h = ap sizes (held_pane c h)

  pub layer_at : (c u v : ℕ) → OwnPixel p c u v → (layer_held screen store p t c).at u v ≡ held screen store p t c u v
  layer_at c u v o = ap (λ (q : Picture). q.at u v) (held_pane c o.opened) ∙ cond-true _ _ _ (and_from _ _ (lt-ltb u _ o.across) (lt-ltb v _ o.down))

  pub paper_covered : (x y : ℤ) → covered (paper_of screen store p t).layers x y ≡ covered (layers_in p) x y
  unfolding paper_of
  paper_covered x y = covered_with screen.depth p (held screen store p t) (listed p) x y

-- Screen and store that hold other pixels of one client hold a painting of its layer.
pub held_repaint : (screen store screen' store' : Picture) (p : Plan) (t : Slots) (px : Pixels) (c : ℕ) → sizes screen' ≡ sizes screen → sizes store' ≡ sizes store
    → Holds screen' store' p t px → ((d : ℕ) → has d (listed p) ≡ true → eqb d c ≡ false → Agree p px (held screen store p t) d)
    → paper_of screen' store' p t ≡ repaint c (layer_with screen.depth p px c).pixels (paper_of screen store p t)
unfolding paper_of
held_repaint screen store screen' store' p t px c e e' h others =
    held_paper screen' store' p t px h
    ∙ ap₂ (λ (s z : Size). record { size = s; slots = slots_of z s.depth; layers = layers_with s.depth p px (listed p) }) e e'
    ∙ ap (λ (ls : List Layer). record { size = sizes screen; slots = slots_of (sizes store) screen.depth; layers = ls })
    (layers_altered screen.depth p px (held screen store p t) c (listed p) p.once others)
