-- Painted pictures: when two are equal, and one more turn of a painting.
use Rattle.std.proofs.Common.{◌≡◌, ℕ, ◌+◌, ◌-◌, ◌<◌, Bool, true, false, cond, ◌&&◌, ◌||◌, eqb, ltb, sym, refl, ap, ◌∙◌, subst, arith}
use Rattle.std.proofs.lemmas.Bool.Decides.{nat_tests}
use Rattle.std.proofs.Math.Bool.{and-or_distrib_left, and-or_distrib_right}
use Rattle.std.proofs.lemmas.Bool.{and_parts, and_left, and_right, eqb-true, cond-false}
use Rattle.raster.specs.Rules.{combined}
use Rattle.raster.specs.Picture.{Picture, sizes, painted, with_pixel}
use Rattle.raster.specs.Blits.{between, spans, opposite, turn, inked, mixed, performed}
use Rattle.raster.specs.declared.ink.Ink.{Ink}
use Rattle.raster.specs.declared.ink.Ink.TheVariants.{Value, Itself}
use Rattle.raster.specs.declared.size.Size.{Size}
use Rattle.raster.specs.declared.span.Span.{Span}
use Rattle.raster.specs.declared.blit.Blit.{Blit}

pub same_picture : (p q : Picture) → p.width ≡ q.width → p.height ≡ q.height → p.depth ≡ q.depth
    → ((x y : ℕ) → p.at x y ≡ q.at x y) → p ≡ q
same_picture p q w h d a = λ i. record { width = w i; height = h i; depth = d i; at = λ x y. a x y i }

pub painted_at : (p : Picture) (t : ℕ → ℕ → Bool) (v : ℕ → ℕ → ℕ) (x y : ℕ) → (painted p t v).at x y ≡ cond (t x y) (v x y) (p.at x y)
unfolding painted
painted_at p t v x y = refl

pub painted_sizes : (p : Picture) (t : ℕ → ℕ → Bool) (v : ℕ → ℕ → ℕ) → sizes (painted p t v) ≡ sizes p
unfolding painted
painted_sizes p t v = refl

either_way : (t u : Bool) (v w a : ℕ) → t ≡ u → (t ≡ true → v ≡ w) → cond t v a ≡ cond u w a
either_way true u v w a e h = rw (← e) (h refl)
either_way false u v w a e h = rw (← e) refl

-- tests that agree, and values that agree where they pass
pub painted_same : (p : Picture) (t u : ℕ → ℕ → Bool) (v w : ℕ → ℕ → ℕ) → ((x y : ℕ) → t x y ≡ u x y)
    → ((x y : ℕ) → t x y ≡ true → v x y ≡ w x y) → painted p t v ≡ painted p u w
unfolding painted
painted_same p t u v w e h =
    same_picture (painted p t v) (painted p u w) refl refl refl (λ x y. either_way (t x y) (u x y) (v x y) (w x y) (p.at x y) (e x y) (h x y))

pub painted_none : (p : Picture) (t : ℕ → ℕ → Bool) (v : ℕ → ℕ → ℕ) → ((x y : ℕ) → t x y ≡ false) → painted p t v ≡ p
unfolding painted
painted_none p t v e = same_picture (painted p t v) p refl refl refl (λ x y. cond-false (t x y) (v x y) (p.at x y) (e x y))

both_times : (t u t' : Bool) (v w a : ℕ) → t' ≡ (u || t) → (u ≡ true → w ≡ v) → cond u w (cond t v a) ≡ cond t' v a
both_times t true t' v w a e h = rw e (h refl)
both_times t false t' v w a e h = rw e refl

-- painted once, and then some more with the same values
pub painted_more : (p : Picture) (t u t' : ℕ → ℕ → Bool) (v w : ℕ → ℕ → ℕ) → ((x y : ℕ) → t' x y ≡ (u x y || t x y))
    → ((x y : ℕ) → u x y ≡ true → w x y ≡ v x y) → painted (painted p t v) u w ≡ painted p t' v
unfolding painted
painted_more p t u t' v w e h =
    same_picture (painted (painted p t v) u w) (painted p t' v) refl refl refl
    (λ x y. both_times (t x y) (u x y) (t' x y) (v x y) (w x y) (p.at x y) (e x y) (h x y))

-- one axis: what the first i turns paint, and that one more neither paints nor reads what is painted

-- the coordinates painted by the first i turns
abbrev pub so_far : Span → ℕ → ℕ → Bool
so_far s i x = between (cond (ltb s.source s.first) (s.first + (s.len - i)) s.first) i x

pub so_far_none : (s : Span) (x : ℕ) → so_far s 0 x ≡ false
so_far_none s x = grind (arith, nat_tests)

pub so_far_all : (s : Span) (x : ℕ) → so_far s s.len x ≡ spans s x
so_far_all s x = grind (arith, nat_tests)

pub so_far_more : (s : Span) (i x : ℕ) → i < s.len → so_far s (i + 1) x ≡ (eqb x (s.first + turn s i) || so_far s i x)
so_far_more s i x h = grind (arith, nat_tests)

pub not_painted : (s : Span) (i : ℕ) → i < s.len → so_far s i (s.first + turn s i) ≡ false
not_painted s i h = grind (arith, nat_tests)

pub not_read : (s : Span) (i : ℕ) → i < s.len → so_far s i (s.source + turn s i) ≡ false
not_read s i h = grind (arith, nat_tests)

pub opposite_turn : (s : Span) (k : ℕ) → opposite s (s.first + k) ≡ s.source + k
opposite_turn s k = omega arith

pub turn_below : (s : Span) (i : ℕ) → i < s.len → turn s i < s.len
turn_below s i h = grind (arith, nat_tests)

-- ── A painting turn by turn, for any source of pixels ──

-- The source pixel of each place, by the picture that is painted; it stays while other places are painted.
abbrev pub Pixel : Type 0
Pixel = Picture → (x y : ℕ) → ℕ

abbrev pub Kept : Pixel → Type 0
Kept source = (p : Picture) (t : ℕ → ℕ → Bool) (v : ℕ → ℕ → ℕ) (x y : ℕ) → t x y ≡ false → source (painted p t v) x y ≡ source p x y

-- the pixel (x, y) combined with the source pixel opposite, in the source row sy
abbrev pub blended : (rule : ℕ) (source : Pixel) (columns : Span) → Picture → (sy x y : ℕ) → ℕ
blended rule source columns p sy x y = combined p.depth rule (source p (opposite columns x) sy) (p.at x y)

-- all columns so combined in row y, and in all rows
abbrev pub row_whole : (rule : ℕ) (source : Pixel) (columns : Span) (y sy : ℕ) → Picture → Picture
row_whole rule source columns y sy p = painted p (λ x z. spans columns x && eqb z y) (λ x z. blended rule source columns p sy x z)

abbrev pub rows_whole : (rule : ℕ) (source : Pixel) (columns rows : Span) → Picture → Picture
rows_whole rule source columns rows p = painted p (λ x z. spans columns x && spans rows z) (λ x z. blended rule source columns p (opposite rows z) x z)

-- the picture after i turns of a row, and after j turns of rows
unfoldable pub row_turned : (rule : ℕ) (source : Pixel) (columns : Span) (y sy i : ℕ) → Picture → Picture
row_turned rule source columns y sy i p = painted p (λ x z. so_far columns i x && eqb z y) (λ x z. blended rule source columns p sy x z)

unfoldable pub rows_turned : (rule : ℕ) (source : Pixel) (columns rows : Span) (j : ℕ) → Picture → Picture
rows_turned rule source columns rows j p = painted p (λ x z. spans columns x && so_far rows j z) (λ x z. blended rule source columns p (opposite rows z) x z)

module _ (rule : ℕ) (source : Pixel) (kept : Kept source) (cols : Span) (y sy : ℕ) (p : Picture) where
  pub row_turned_none : p ≡ row_turned rule source cols y sy 0 p
  unfolding row_turned
  row_turned_none = sym (painted_none p _ _ (λ x z. and_left (so_far cols 0 x) (eqb z y) (so_far_none cols x)))

  pub row_turned_all : row_turned rule source cols y sy cols.len p ≡ row_whole rule source cols y sy p
  unfolding row_turned
  row_turned_all = painted_same p _ _ _ _ (λ x z. ap (λ t. t && eqb z y) (so_far_all cols x)) (λ x z t. refl)

  row_value : (i s x z : ℕ) → i < cols.len → s ≡ source (row_turned rule source cols y sy i p) (cols.source + turn cols i) sy
      → x ≡ cols.first + turn cols i → z ≡ y
      → combined (row_turned rule source cols y sy i p).depth rule s ((row_turned rule source cols y sy i p).at (cols.first + turn cols i) y)
      ≡ blended rule source cols p sy x z
  unfolding row_turned
  row_value i s x z h e ex ez =
      let k : ℕ = turn cols i in
      let t : ℕ → ℕ → Bool = λ a c. so_far cols i a && eqb c y in
      let v : ℕ → ℕ → ℕ = λ a c. blended rule source cols p sy a c in
      let e1 : s ≡ source p (opposite cols x) sy =
      e ∙ kept p t v (cols.source + k) sy (and_left _ _ (not_read cols i h)) ∙ ap (λ n. source p n sy) (sym (ap (opposite cols) ex ∙ opposite_turn cols k)) in
      let e2 : (painted p t v).at (cols.first + k) y ≡ p.at x z =
      painted_at p t v (cols.first + k) y ∙ cond-false _ _ _ (and_left _ _ (not_painted cols i h)) ∙ ap (λ n. p.at n y) (sym ex) ∙ ap (p.at x) (sym ez) in
      ap (λ (n : Size). combined n.depth rule s ((painted p t v).at (cols.first + k) y)) (painted_sizes p t v)
      ∙ ap (λ n. combined p.depth rule n ((painted p t v).at (cols.first + k) y)) e1
      ∙ ap (combined p.depth rule (source p (opposite cols x) sy)) e2

  row_turn : (i s : ℕ) → i < cols.len → s ≡ source (row_turned rule source cols y sy i p) (cols.source + turn cols i) sy
      → with_pixel (row_turned rule source cols y sy i p) (cols.first + turn cols i) y
      (combined (row_turned rule source cols y sy i p).depth rule s ((row_turned rule source cols y sy i p).at (cols.first + turn cols i) y))
      ≡ row_turned rule source cols y sy (i + 1) p
  unfolding row_turned
  row_turn i s h e =
      let at : ℕ = cols.first + turn cols i in
      painted_more p (λ a c. so_far cols i a && eqb c y) (λ a c. eqb a at && eqb c y) (λ a c. so_far cols (i + 1) a && eqb c y) _ _
      (λ a c. ap (λ t. t && eqb c y) (so_far_more cols i a h) ∙ and-or_distrib_right (eqb a at) (so_far cols i a) (eqb c y))
      (λ a c t.
      let q = and_parts (eqb a at) (eqb c y) t in
      row_value i s a c h e (eqb-true a _ q.0) (eqb-true c y q.1))

  -- one more turn, from any picture q that is the row so far
  pub row_turned_more : (q q' : Picture) (i k s : ℕ) → i < cols.len → k ≡ turn cols i → q ≡ row_turned rule source cols y sy i p
      → s ≡ source q (cols.source + k) sy
      → q' ≡ with_pixel q (cols.first + k) y (combined q.depth rule s (q.at (cols.first + k) y))
      → q' ≡ row_turned rule source cols y sy (i + 1) p
  row_turned_more q q' i k s h ek e es e' =
      e' ∙ subst (λ (r : Picture). s ≡ source r (cols.source + k) sy
      → with_pixel r (cols.first + k) y (combined r.depth rule s (r.at (cols.first + k) y)) ≡ row_turned rule source cols y sy (i + 1) p) (sym e)
      (subst (λ (n : ℕ). s ≡ source (row_turned rule source cols y sy i p) (cols.source + n) sy
      → with_pixel (row_turned rule source cols y sy i p) (cols.first + n) y
      (combined (row_turned rule source cols y sy i p).depth rule s ((row_turned rule source cols y sy i p).at (cols.first + n) y))
      ≡ row_turned rule source cols y sy (i + 1) p) (sym ek) (row_turn i s h)) es

module _ (rule : ℕ) (source : Pixel) (kept : Kept source) (cols rows : Span) (p : Picture) where
  pub rows_turned_none : p ≡ rows_turned rule source cols rows 0 p
  unfolding rows_turned
  rows_turned_none = sym (painted_none p _ _ (λ x z. and_right (spans cols x) (so_far rows 0 z) (so_far_none rows z)))

  pub rows_turned_all : rows_turned rule source cols rows rows.len p ≡ rows_whole rule source cols rows p
  unfolding rows_turned
  rows_turned_all = painted_same p _ _ _ _ (λ x z. ap (λ t. spans cols x && t) (so_far_all rows z)) (λ x z t. refl)

  rows_value : (j x z : ℕ) → j < rows.len → z ≡ rows.first + turn rows j
      → blended rule source cols (rows_turned rule source cols rows j p) (rows.source + turn rows j) x z ≡ blended rule source cols p (opposite rows z) x z
  unfolding rows_turned
  rows_value j x z h ez =
      let k : ℕ = turn rows j in
      let t : ℕ → ℕ → Bool = λ a c. spans cols a && so_far rows j c in
      let v : ℕ → ℕ → ℕ = λ a c. blended rule source cols p (opposite rows c) a c in
      let from : ℕ = opposite cols x in
      let e1 : source (painted p t v) from (rows.source + k) ≡ source p from (opposite rows z) =
      kept p t v from (rows.source + k) (and_right _ _ (not_read rows j h)) ∙ ap (λ n. source p from n) (sym (ap (opposite rows) ez ∙ opposite_turn rows k)) in
      let e2 : (painted p t v).at x z ≡ p.at x z =
      painted_at p t v x z ∙ cond-false _ _ _ (and_right _ _ (ap (so_far rows j) ez ∙ not_painted rows j h)) in
      ap (λ (n : Size). combined n.depth rule (source (painted p t v) from (rows.source + k)) ((painted p t v).at x z)) (painted_sizes p t v)
      ∙ ap (λ n. combined p.depth rule n ((painted p t v).at x z)) e1
      ∙ ap (combined p.depth rule (source p from (opposite rows z))) e2

  rows_turn : (j : ℕ) → j < rows.len
      → row_whole rule source cols (rows.first + turn rows j) (rows.source + turn rows j) (rows_turned rule source cols rows j p) ≡ rows_turned rule source cols rows (j + 1) p
  unfolding rows_turned
  rows_turn j h =
      let at : ℕ = rows.first + turn rows j in
      painted_more p (λ x z. spans cols x && so_far rows j z) (λ x z. spans cols x && eqb z at) (λ x z. spans cols x && so_far rows (j + 1) z) _ _
      (λ x z. ap (λ t. spans cols x && t) (so_far_more rows j z h) ∙ and-or_distrib_left (spans cols x) (eqb z at) (so_far rows j z))
      (λ x z t.
      let q = and_parts (spans cols x) (eqb z at) t in
      rows_value j x z h (eqb-true z _ q.1))

  pub rows_turned_more : (q q' : Picture) (j k : ℕ) → j < rows.len → k ≡ turn rows j → q ≡ rows_turned rule source cols rows j p
      → q' ≡ row_whole rule source cols (rows.first + k) (rows.source + k) q
      → q' ≡ rows_turned rule source cols rows (j + 1) p
  rows_turned_more q q' j k h ek e e' =
      e' ∙ ap (row_whole rule source cols (rows.first + k) (rows.source + k)) e
      ∙ ap (λ n. row_whole rule source cols (rows.first + n) (rows.source + n) (rows_turned rule source cols rows j p)) ek ∙ rows_turn j h

-- ── The case of a blit and its ink ──

inked_kept : (ink : Ink) → Kept (inked ink)
unfolding painted
inked_kept (Value n) p t v x y e = refl
inked_kept Itself p t v x y e = cond-false (t x y) (v x y) (p.at x y) e

-- the picture with a blit's columns painted in row y, from row sy; after i turns in that row; and after j turns of rows
unfoldable pub row_painted : Blit → ℕ → ℕ → Picture → Picture
row_painted b y sy p = painted p (λ x z. spans b.columns x && eqb z y) (λ x z. mixed b p sy x z)

unfoldable pub row_so_far : Blit → ℕ → ℕ → ℕ → Picture → Picture
row_so_far b y sy i p = row_turned b.rule.number (inked b.ink) b.columns y sy i p

unfoldable pub rows_so_far : Blit → ℕ → Picture → Picture
rows_so_far b j p = rows_turned b.rule.number (inked b.ink) b.columns b.rows j p

module _ (b : Blit) (y sy : ℕ) (p : Picture) where
  pub row_none : p ≡ row_so_far b y sy 0 p
  unfolding row_so_far
  row_none = row_turned_none b.rule.number (inked b.ink) (inked_kept b.ink) b.columns y sy p

  pub row_all : row_so_far b y sy b.columns.len p ≡ row_painted b y sy p
  unfolding row_so_far row_painted
  row_all = row_turned_all b.rule.number (inked b.ink) (inked_kept b.ink) b.columns y sy p

  -- one more turn, from any picture q that is the row so far
  pub row_more : (q q' : Picture) (i k s : ℕ) → i < b.columns.len → k ≡ turn b.columns i → q ≡ row_so_far b y sy i p
      → s ≡ inked b.ink q (b.columns.source + k) sy
      → q' ≡ with_pixel q (b.columns.first + k) y (combined q.depth b.rule.number s (q.at (b.columns.first + k) y))
      → q' ≡ row_so_far b y sy (i + 1) p
  unfolding row_so_far
  row_more = row_turned_more b.rule.number (inked b.ink) (inked_kept b.ink) b.columns y sy p

module _ (b : Blit) (p : Picture) where
  pub rows_none : p ≡ rows_so_far b 0 p
  unfolding rows_so_far
  rows_none = rows_turned_none b.rule.number (inked b.ink) (inked_kept b.ink) b.columns b.rows p

  pub rows_all : rows_so_far b b.rows.len p ≡ performed b p
  unfolding rows_so_far performed
  rows_all = rows_turned_all b.rule.number (inked b.ink) (inked_kept b.ink) b.columns b.rows p

  pub rows_more : (q q' : Picture) (j k : ℕ) → j < b.rows.len → k ≡ turn b.rows j → q ≡ rows_so_far b j p
      → q' ≡ row_painted b (b.rows.first + k) (b.rows.source + k) q
      → q' ≡ rows_so_far b (j + 1) p
  unfolding rows_so_far row_painted
  rows_more = rows_turned_more b.rule.number (inked b.ink) (inked_kept b.ink) b.columns b.rows p

-- a value below a bound, or 0
pub cond_less : (t : Bool) (a b : ℕ) → a < b → cond t a 0 < b
cond_less true a b l = l
cond_less false a b l = omega arith
