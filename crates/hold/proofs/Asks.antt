-- What the desk on paper answers of the layers that screen and store hold: by the arrangement alone.
use Rattle.std.proofs.Common.{◌≡◌, ℕ, ◌+◌, Bool, true, false, cond, ◌||◌, eqb, List, [], ◌∷◌, ℤ, is_some, Some, None, Option, sym, refl, ap, ◌∙◌, ap₂}
use Rattle.raster.specs.Picture.{Picture}
use Rattle.raster.specs.Rules.{total}
use Rattle.raster.specs.declared.size.Size.{Size}
use Rattle.paper.specs.Layers.{Layer, Desk, or_else, covers, topmost, pixels_of, is_open}
use Rattle.paper.specs.Slots.{hidden_in, patches_along, count_patches, hidden_count, slots_needed}
use Rattle.paper.specs.Desk.{client_if}
use Rattle.paper.specs.Run.{Alike, none, more}
use Rattle.paper.proofs.Outline.{SameOutline, covers_same, hidden_in_same, hidden_count_same}
use Rattle.plan.specs.declared.plan.Plan.{Plan}
use Rattle.slots.specs.declared.slots.Slots.{Slots}
use Rattle.plan.specs.Frames.{has}
use Rattle.plan.specs.Plans.{outlines, listed, layers_in}
use Rattle.hold.specs.Held.{Pixels, layers_with, held, paper_of, Fitting}

-- ── Outlines ──

module _ (depth : ℕ) (p : Plan) (px : Pixels) where
  pub outlines_with : (cs : List ℕ) → Alike SameOutline (layers_with depth p px cs) (outlines cs p.frames)
  outlines_with [] = none
  outlines_with (c ∷ cs) = more (record { client = refl; x = refl; y = refl; width = refl; height = refl }) (outlines_with cs)

  open_with : (c : ℕ) (cs : List ℕ) → is_some (pixels_of c (layers_with depth p px cs)) ≡ has c cs
  open_with c [] = refl
  open_with c (d ∷ ds) = go _ (open_with c ds) (eqb d c)
    where
      go : (q : Picture) → is_some (pixels_of c (layers_with depth p px ds)) ≡ has c ds → (b : Bool) → is_some (cond b (Some q) (pixels_of c (layers_with depth p px ds))) ≡ (b || has c ds)
      go q ih true = refl
      go q ih false = ih

either_client : (o : Option Layer) (b : Bool) (l : Layer) → client_if (or_else o (cond b (Some l) None)) ≡ or_else (client_if o) (cond b (Some l.client) None)
either_client (Some m) b l = refl
either_client None true l = refl
either_client None false l = refl

-- The topmost layer's client, by the outlines.
pub topmost_same : {ls ms : List Layer} → Alike SameOutline ls ms → (x y : ℤ) → client_if (topmost ls x y) ≡ client_if (topmost ms x y)
topmost_same none x y = refl
topmost_same (more {x = l} {y = m} {xs = ls} {ys = ms} s ss) x y =
    either_client (topmost ls x y) (covers l x y) l
    ∙ (λ i. or_else (topmost_same ss x y i) (cond (covers_same s x y i) (Some (s.client i)) None))
    ∙ sym (either_client (topmost ms x y) (covers m x y) m)

count_same : (f g : ℕ → ℕ → ℕ → Bool) → ((c i j : ℕ) → f c i j ≡ g c i j) → {ls ms : List Layer} → Alike SameOutline ls ms → count_patches f ls ≡ count_patches g ms
count_same f g e none = refl
count_same f g e (more s ss) =
    ap₂ ◌+◌ (λ k. total (λ j. total (λ i. cond (e (s.client k) i j k) 1 0) (patches_along (s.width k))) (patches_along (s.height k))) (count_same f g e ss)

-- How many slots a change needs, by the outlines.
pub needed_same : (also : ℕ → Bool) (before before' after after' : Desk) → before.size ≡ before'.size → after.size ≡ after'.size
    → Alike SameOutline before.layers before'.layers → Alike SameOutline after.layers after'.layers → slots_needed also before after ≡ slots_needed also before' after'
unfolding slots_needed
needed_same also b b' a a' eb ea sb sa =
    count_same _ _
    (λ c i j.
    ap₂ (λ m n. m || (n || also c))
    (ap (λ (z : Size). hidden_in z b.layers c i j) eb ∙ hidden_in_same b'.size sb c i j)
    (ap (λ (z : Size). hidden_in z a.layers c i j) ea ∙ hidden_in_same a'.size sa c i j))
    sa

-- ── The desk that is held ──

module _ (screen store : Picture) (p : Plan) (t : Slots) where
  pub paper_outlines : Alike SameOutline (paper_of screen store p t).layers (layers_in p)
  unfolding paper_of
  paper_outlines = outlines_with screen.depth p (held screen store p t) (listed p)

  pub paper_open : (c : ℕ) → is_open c (paper_of screen store p t) ≡ has c (listed p)
  unfolding paper_of
  paper_open c = open_with screen.depth p (held screen store p t) c (listed p)

  pub paper_topmost : (x y : ℤ) → client_if (topmost (paper_of screen store p t).layers x y) ≡ client_if (topmost (layers_in p) x y)
  paper_topmost x y = topmost_same paper_outlines x y

  pub paper_hidden : Fitting screen store p t → (slots : ℕ) → hidden_count (paper_of screen store p t) ≡ hidden_count (record { size = p.screen; slots = slots; layers = layers_in p })
  unfolding paper_of
  paper_hidden f slots = hidden_count_same (paper_of screen store p t) (record { size = p.screen; slots = slots; layers = layers_in p }) (sym f.size) paper_outlines
