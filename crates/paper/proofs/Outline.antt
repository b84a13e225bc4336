-- What is hidden depends on the outlines of the layers alone, and never passes the number of slots.
use Rattle.std.proofs.Common.{◌≡◌, ℕ, zero, suc, ◌+◌, ◌*◌, ◌≤◌, Bool, true, false, cond, not, ◌&&◌, ◌||◌, eqb, ltb, List, [], ◌∷◌, ℤ, pos, ◌+ℤ◌, Some, sym, refl, ap, ◌∙◌, ap₂, ⊎_elim, arith}
use mathlib.Core.Path.{fun_ext}
use Rattle.std.proofs.lemmas.Bool.{eqb-true, or_left, or_right, or_cases, false≢true, true≢false}
use Rattle.raster.specs.Picture.{Picture, sizes}
use Rattle.raster.specs.Rules.{total}
use Rattle.raster.specs.Blt.{in_rectangle, inside}
use Rattle.raster.specs.Calls.{any_below}
use Rattle.raster.specs.declared.size.Size.{Size}
use Rattle.paper.specs.Layers.{Desk, Layer, with_layers, covers, covered, pixels_of, keep, alter, with_pixels, or_blank, pane}
use Rattle.paper.specs.Slots.{hidden, hidden_in, patches_along, patches_in, count_patches, hidden_count, slots_needed}
use Rattle.paper.specs.Desk.{repaint}
use Rattle.paper.specs.Run.{Alike, none, more}

-- ── Outlines ──

-- Two layers agree but for their pixels.
pub record SameOutline (l m : Layer) : Type 0 where
  pub client : l.client ≡ m.client
  pub x : l.x ≡ m.x
  pub y : l.y ≡ m.y
  pub width : l.pixels.width ≡ m.pixels.width
  pub height : l.pixels.height ≡ m.pixels.height

pub same_outline : (l : Layer) → SameOutline l l
same_outline l = record { client = refl; x = refl; y = refl; width = refl; height = refl }

pub covers_same : {l m : Layer} → SameOutline l m → (x y : ℤ) → covers l x y ≡ covers m x y
covers_same s x y = λ i. in_rectangle (s.x i) (s.y i) (s.width i) (s.height i) x y

pub covered_same : {ls ms : List Layer} → Alike SameOutline ls ms → (x y : ℤ) → covered ls x y ≡ covered ms x y
covered_same none x y = refl
covered_same (more s ss) x y = ap₂ ◌||◌ (covers_same s x y) (covered_same ss x y)

pub hidden_same : (screen : Size) {ls ms : List Layer} {l m : Layer} → Alike SameOutline ls ms → SameOutline l m → (i j : ℕ) → hidden screen ls l i j ≡ hidden screen ms m i j
unfolding hidden
hidden_same screen {ls} {ms} ss s i j =
    let cov : covered ls ≡ covered ms = fun_ext (λ x. fun_ext (λ y. covered_same ss x y)) in
    λ k. any_below (λ v. any_below (λ u.
    (ltb (16 * i + u) (s.width k) && ltb (16 * j + v) (s.height k))
    && not (inside screen (s.x k +ℤ pos (16 * i + u)) (s.y k +ℤ pos (16 * j + v)) && not (cov k (s.x k +ℤ pos (16 * i + u)) (s.y k +ℤ pos (16 * j + v))))) 16) 16

pub hidden_in_same : (screen : Size) {ls ms : List Layer} → Alike SameOutline ls ms → (c i j : ℕ) → hidden_in screen ls c i j ≡ hidden_in screen ms c i j
hidden_in_same screen none c i j = refl
hidden_in_same screen (more s ss) c i j = λ k. cond (eqb (s.client k) c) (hidden_same screen ss s i j k) (hidden_in_same screen ss c i j k)

count_same : (test : ℕ → ℕ → ℕ → Bool) {ls ms : List Layer} → Alike SameOutline ls ms → count_patches test ls ≡ count_patches test ms
count_same test none = refl
count_same test (more s ss) =
    ap₂ ◌+◌ (λ k. total (λ j. total (λ i. cond (test (s.client k) i j) 1 0) (patches_along (s.width k))) (patches_along (s.height k))) (count_same test ss)

pub hidden_count_same : (d e : Desk) → d.size ≡ e.size → Alike SameOutline d.layers e.layers → hidden_count d ≡ hidden_count e
unfolding hidden_count
hidden_count_same d e s ss =
    ap (λ z. count_patches (hidden_in z d.layers) d.layers) s
    ∙ ap (λ t. count_patches t d.layers) (fun_ext (λ c. fun_ext (λ i. fun_ext (λ j. hidden_in_same e.size ss c i j))))
    ∙ count_same (hidden_in e.size e.layers) ss

-- Painting a layer with a picture of its size keeps all outlines.
paint_outline : (depth c : ℕ) (p : Picture) (ls : List Layer) → sizes p ≡ sizes (or_blank depth (pixels_of c ls)) → Alike SameOutline (alter c (with_pixels p) ls) ls
paint_outline depth c p [] e = none
paint_outline depth c p (l ∷ ls) e = go (paint_outline depth c p ls) (eqb l.client c) e
  where
    all_same : (ls : List Layer) → Alike SameOutline ls ls
    all_same [] = none
    all_same (l ∷ ls) = more (same_outline l) (all_same ls)

    go : (sizes p ≡ sizes (or_blank depth (pixels_of c ls)) → Alike SameOutline (alter c (with_pixels p) ls) ls) → (t : Bool) → sizes p ≡ sizes (or_blank depth (cond t (Some l.pixels) (pixels_of c ls)))
        → Alike SameOutline (cond t (with_pixels p l ∷ ls) (l ∷ alter c (with_pixels p) ls)) (l ∷ ls)
    go ih true e = more (record { client = refl; x = refl; y = refl; width = ap (λ s. s.width) e; height = ap (λ s. s.height) e }) (all_same ls)
    go ih false e = more (same_outline l) (ih e)

-- So the same places are covered, and as many patches are hidden.
module _ (c : ℕ) (p : Picture) (d : Desk) (e : sizes p ≡ sizes (pane c d)) where
  pub repaint_covered : (x y : ℤ) → covered (repaint c p d).layers x y ≡ covered d.layers x y
  repaint_covered x y = covered_same (paint_outline d.size.depth c p d.layers e) x y

  pub repaint_hidden : hidden_count (repaint c p d) ≡ hidden_count d
  repaint_hidden = hidden_count_same (repaint c p d) d refl (paint_outline d.size.depth c p d.layers e)

-- ── More passes, more patches ──

-- b passes where a does
abbrev pub Implies : Bool → Bool → Type 0
Implies a b = a ≡ true → b ≡ true

total_mono : (f g : ℕ → ℕ) → ((k : ℕ) → f k ≤ g k) → (n : ℕ) → total f n ≤ total g n
total_mono f g h zero = omega arith
total_mono f g h (suc n) = omega (arith, total_mono f g h n, h n)

one_mono : (a b : Bool) → Implies a b → cond a 1 0 ≤ cond b 1 0
one_mono true b h = rw (h refl) (omega arith)
one_mono false b h = omega arith

patches_mono : (f g : ℕ → ℕ → Bool) (l : Layer) → ((i j : ℕ) → Implies (f i j) (g i j)) → patches_in f l ≤ patches_in g l
patches_mono f g l h =
    total_mono _ _ (λ j. total_mono _ _ (λ i. one_mono (f i j) (g i j) (h i j)) (patches_along l.pixels.width)) (patches_along l.pixels.height)

count_mono : (f g : ℕ → ℕ → ℕ → Bool) → ((c i j : ℕ) → Implies (f c i j) (g c i j)) → (ls : List Layer) → count_patches f ls ≤ count_patches g ls
count_mono f g h [] = omega arith
count_mono f g h (l ∷ ls) = omega (arith, patches_mono (f l.client) (g l.client) l (h l.client), count_mono f g h ls)

-- What is hidden after a call is among what it needs slots for.
pub hidden_needed : (also : ℕ → Bool) (d e : Desk) → hidden_count e ≤ slots_needed also d e
unfolding hidden_count slots_needed
hidden_needed also d e =
    count_mono (hidden_in e.size e.layers) _
    (λ c i j h. or_right (hidden_in d.size d.layers c i j) _ (or_left (hidden_in e.size e.layers c i j) (also c) h)) e.layers

-- ── Some layers less ──

either_mono : (a b c : Bool) → Implies b c → Implies (a || b) (a || c)
either_mono true b c h e = refl
either_mono false b c h e = h e

any_mono : (f g : ℕ → Bool) → ((k : ℕ) → Implies (f k) (g k)) → (n : ℕ) → Implies (any_below f n) (any_below g n)
any_mono f g h zero e = e
any_mono f g h (suc n) e =
    ⊎_elim (λ (a : any_below f n ≡ true). or_left (any_below g n) (g n) (any_mono f g h n a)) (λ (b : f n ≡ true). or_right (any_below g n) (g n) (h n b)) (or_cases (any_below f n) (f n) e)

obscured_mono : (has on before after : Bool) → Implies before after → Implies (has && not (on && not before)) (has && not (on && not after))
obscured_mono has on true after h = rw (h refl) (λ e. e)
obscured_mono false on false after h = λ e. e
obscured_mono true true false after h = λ e. absurd (false≢true e)
obscured_mono true false false after h = λ e. e

module _ (keeps : ℕ → Bool) where
  covered_mono : (ls : List Layer) (x y : ℤ) → Implies (covered (keep keeps ls) x y) (covered ls x y)
  covered_mono [] x y = λ h. h
  covered_mono (l ∷ ls) x y = go (covered_mono ls x y) (keeps l.client)
    where
      go : Implies (covered (keep keeps ls) x y) (covered ls x y) → (t : Bool) → Implies (covered (cond t (l ∷ keep keeps ls) (keep keeps ls)) x y) (covers l x y || covered ls x y)
      go ih true h = either_mono (covers l x y) (covered (keep keeps ls) x y) (covered ls x y) ih h
      go ih false h = or_right (covers l x y) (covered ls x y) (ih h)

  hidden_mono : (screen : Size) (ls : List Layer) (l : Layer) (i j : ℕ) → Implies (hidden screen (keep keeps ls) l i j) (hidden screen ls l i j)
  unfolding hidden
  hidden_mono screen ls l i j =
      any_mono _ _ (λ v. any_mono _ _ (λ u.
      obscured_mono (ltb (16 * i + u) l.pixels.width && ltb (16 * j + v) l.pixels.height) (inside screen (l.x +ℤ pos (16 * i + u)) (l.y +ℤ pos (16 * j + v)))
      (covered (keep keeps ls) (l.x +ℤ pos (16 * i + u)) (l.y +ℤ pos (16 * j + v))) (covered ls (l.x +ℤ pos (16 * i + u)) (l.y +ℤ pos (16 * j + v)))
      (covered_mono ls (l.x +ℤ pos (16 * i + u)) (l.y +ℤ pos (16 * j + v)))) 16) 16

  -- a client without a layer hides nothing
  none_hidden : (screen : Size) (ls : List Layer) (c i j : ℕ) → keeps c ≡ false → hidden_in screen (keep keeps ls) c i j ≡ false
  none_hidden screen [] c i j k = refl
  none_hidden screen (l ∷ ls) c i j k = go (none_hidden screen ls c i j k) (keeps l.client) refl (eqb l.client c) refl
    where
      go : hidden_in screen (keep keeps ls) c i j ≡ false → (t : Bool) → keeps l.client ≡ t → (b : Bool) → eqb l.client c ≡ b
          → hidden_in screen (cond t (l ∷ keep keeps ls) (keep keeps ls)) c i j ≡ false
      go ih true e true q = absurd (true≢false (sym e ∙ ap keeps (eqb-true l.client c q) ∙ k))
      go ih true e false q = rw q ih
      go ih false e b q = ih

  pub hidden_in_mono : (screen : Size) (ls : List Layer) (c i j : ℕ) → Implies (hidden_in screen (keep keeps ls) c i j) (hidden_in screen ls c i j)
  hidden_in_mono screen [] c i j = λ h. h
  hidden_in_mono screen (l ∷ ls) c i j = go (hidden_in_mono screen ls c i j) (keeps l.client) refl (eqb l.client c) refl
    where
      go : Implies (hidden_in screen (keep keeps ls) c i j) (hidden_in screen ls c i j) → (t : Bool) → keeps l.client ≡ t → (b : Bool) → eqb l.client c ≡ b
          → Implies (hidden_in screen (cond t (l ∷ keep keeps ls) (keep keeps ls)) c i j) (cond b (hidden screen ls l i j) (hidden_in screen ls c i j))
      go ih true e true q = rw q (hidden_mono screen ls l i j)
      go ih true e false q = rw q ih
      go ih false e true q = λ h. absurd (true≢false (sym h ∙ none_hidden screen ls c i j (ap keeps (sym (eqb-true l.client c q)) ∙ e)))
      go ih false e false q = ih

  count_keep : (f g : ℕ → ℕ → ℕ → Bool) → ((c i j : ℕ) → Implies (f c i j) (g c i j)) → (ls : List Layer) → count_patches f (keep keeps ls) ≤ count_patches g ls
  count_keep f g h [] = omega arith
  count_keep f g h (l ∷ ls) = go (count_keep f g h ls) (keeps l.client)
    where
      go : count_patches f (keep keeps ls) ≤ count_patches g ls → (t : Bool) → count_patches f (cond t (l ∷ keep keeps ls) (keep keeps ls)) ≤ patches_in (g l.client) l + count_patches g ls
      go ih true = omega (arith, patches_mono (f l.client) (g l.client) l (h l.client))
      go ih false = omega arith

  -- With some layers less no more patches are hidden.
  pub hidden_keep : (d : Desk) → hidden_count (with_layers d (keep keeps d.layers)) ≤ hidden_count d
  unfolding hidden_count
  hidden_keep d = count_keep (hidden_in d.size (keep keeps d.layers)) (hidden_in d.size d.layers) (hidden_in_mono d.size d.layers) d.layers
