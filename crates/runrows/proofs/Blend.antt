-- A working row, combined with a source row pixel by pixel, and what it makes of a picture.
use Rattle.std.proofs.Common.{◌≡◌, ℕ, ◌+◌, ◌-◌, ◌^◌, ◌<◌, ◌≤◌, min, Bool, true, cond, ◌&&◌, eqb, ltb, List, length, get_or, set, refl, ◌∙◌, arith, rules}
use borrow.Rule.Slice.PartMut.{put_mid}
use Rattle.std.specs.List.{between}
use Rattle.std.proofs.lemmas.List.{length-set, places}
use Rattle.std.proofs.lemmas.List.Edits.{get_or-between}
use Rattle.std.proofs.lemmas.Bool.{cond_both}
use Rattle.std.proofs.lemmas.Bool.Decides.{nat_tests}
use Rattle.std.proofs.lemmas.Grind.{common_steps}
use Rattle.raster.specs.Rules.{combined}
use Rattle.raster.specs.Picture.{Picture, Sound, painted, with_pixel}
use Rattle.raster.specs.Blits.{spans, opposite, inked, mixed, Below}
use Rattle.raster.specs.declared.size.Size.{Size}
use Rattle.raster.specs.declared.span.Span.{Span}
use Rattle.raster.specs.declared.blit.Blit.{Blit}
use Rattle.raster.proofs.Digits.{combined_below}
use Rattle.raster.proofs.Paints.{same_picture, row_painted}
use Rattle.runrows.specs.Runs.{run_rows}
use Rattle.runrows.specs.Means.{with_row, Blended}
use Rattle.runrows.specs.Writing.{PixelsFit}
use Rattle.runrows.specs.Rows.{RowWritten, written_at}

-- it is enough to combine the part of the span with its part of the source row
pub blended : (depth rule : ℕ) (cols : Span) (source before part : List ℕ) → cols.first + cols.len ≤ length before → cols.source + cols.len ≤ length source
    → length part ≡ cols.len
    → ((k : ℕ) → k < cols.len → get_or part k 0
    ≡ combined depth rule (get_or (between cols.source (cols.source + cols.len) source) k 0) (get_or (between cols.first (cols.first + cols.len) before) k 0))
    → Blended depth rule cols source before (put_mid cols.first (cols.first + cols.len - cols.first) before part)
blended depth rule cols source before part paints reads long done k l =
    let i : ℕ = k - cols.first in
    let from = get_or-between source cols.source (cols.source + cols.len) i 0 in
    let to = get_or-between before cols.first (cols.first + cols.len) i 0 in
    let fs : List ℕ = put_mid cols.first (cols.first + cols.len - cols.first) before part in
    let here : cols.first ≤ k → k < cols.first + cols.len → get_or fs k 0 ≡ get_or part i 0 = λ h m. search (rules, places) in
    let low : k < cols.first → get_or fs k 0 ≡ get_or before k 0 = λ h. search (rules, places) in
    let high : cols.first + cols.len ≤ k → get_or fs k 0 ≡ get_or before k 0 = λ h. search (rules, places) in
    grind (arith, nat_tests, done i)

-- a row written into the entries is a row put into the picture
pub row_written : (s : Size) (y : ℕ) (pixels es fs : List ℕ) → y < s.height → RowWritten s y pixels es fs → run_rows fs s ≡ with_row (run_rows es s) y pixels
unfolding painted
row_written s y pixels es fs ly r = same_picture (run_rows fs s) _ refl refl refl (written_at s y pixels es fs ly r)

-- a row put into a picture that differs from the picture's row where a test says so
module _ (p : Picture) (y : ℕ) (pixels : List ℕ) (t : ℕ → Bool) (v : ℕ → ℕ → ℕ) (is : (a : ℕ) → a < p.width → get_or pixels a 0 ≡ cond (t a) (v a y) (p.at a y)) where
  row_fits : Sound p → ((a : ℕ) → v a y < 2 ^ p.depth) → length pixels ≡ p.width → PixelsFit p.depth pixels
  row_fits sound few long k l =
      rw (is k (omega (arith, long))) (cond_both (t k) _ _ (λ n. n < 2 ^ p.depth) (λ _. few k) (λ _. sound.values k y))

  row_differs : ((a : ℕ) → t a ≡ true → a < p.width) → with_row p y pixels ≡ painted p (λ a z. t a && eqb z y) v
  unfolding painted
  row_differs in_row = same_picture (with_row p y pixels) _ refl refl refl place
    where
      place : (a z : ℕ) → cond (ltb a p.width && eqb z y) (get_or pixels a 0) (p.at a z) ≡ cond (t a && eqb z y) (v a z) (p.at a z)
      place a z = grind (arith, nat_tests, is a, in_row a)

-- the row y of a picture, blended with the source row sy
module _ (p : Picture) (b : Blit) (y sy : ℕ) (source before after : List ℕ) (sound : Sound p) (cols : Below p.width b.columns) (long : length after ≡ p.width)
    (src : (k : ℕ) → k < p.width → get_or source k 0 ≡ inked b.ink p k sy) (bef : (k : ℕ) → k < p.width → get_or before k 0 ≡ p.at k y)
    (bl : Blended (min p.depth 8) b.rule.number b.columns source before after) where
  blended_is : (k : ℕ) → k < p.width → get_or after k 0 ≡ cond (spans b.columns k) (mixed b p sy k y) (p.at k y)
  blended_is k l =
      let deep : min p.depth 8 ≡ p.depth = omega (arith, sound.deep.1) in
      let here = rw deep at (bl k (omega (arith, long))) in
      let before = bef k l in
      let from = src (opposite b.columns k) in
      grind (arith, nat_tests)

  pub blended_fits : PixelsFit p.depth after
  blended_fits = row_fits p y after (spans b.columns) (mixed b p sy) blended_is sound (λ k. combined_below p.depth b.rule.number _ _) long

  pub row_blended : with_row p y after ≡ row_painted b y sy p
  unfolding row_painted
  row_blended = row_differs p y after (spans b.columns) (mixed b p sy) blended_is (λ k t. grind (arith, nat_tests))

-- the row y of a picture, with the pixel x set to v
module _ (p : Picture) (x y v : ℕ) (before : List ℕ) (lx : x < p.width) (long : length before ≡ p.width) (bef : (k : ℕ) → k < p.width → get_or before k 0 ≡ p.at k y) where
  set_is : (k : ℕ) → k < p.width → get_or (set before x v) k 0 ≡ cond (eqb k x) v (p.at k y)
  set_is k l = grind (arith, common_steps, bef k l)

  pub set_fits : v < 2 ^ p.depth → Sound p → PixelsFit p.depth (set before x v)
  set_fits few sound = row_fits p y (set before x v) (λ a. eqb a x) (λ _ _. v) set_is sound (λ _. few) (length-set before x v ∙ long)

  pub row_set : with_row p y (set before x v) ≡ with_pixel p x y v
  row_set = row_differs p y (set before x v) (λ a. eqb a x) (λ _ _. v) set_is (λ a t. grind (arith, nat_tests))
