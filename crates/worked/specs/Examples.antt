-- Worked examples: what the definitions give on small cases.
use Rattle.std.specs.Prelude.{◌≡◌, ℕ, List, [], ◌∷◌, ℤ, pos, negsuc, Ok, slice_index}
use Rattle.raster.specs.Rules.{combined}
use Rattle.raster.specs.Picture.{Picture}
use Rattle.raster.specs.Blt.{transfer}
use Rattle.raster.specs.Calls.{BitmapCall, fill_with, scroll_by, bitmap_answer, bitmap_after}
use Rattle.planes.specs.Layout.{word_of, bit_of}
use Rattle.runrows.specs.Runs.{run_at, Settled}
use Rattle.paper.specs.Examples.{DeskExamples}

-- a picture of depth 2 that is 0 everywhere, and one of a row of four pixels
abbrev pub zeros : (w h : ℕ) → Picture
zeros w h = record { width = w; height = h; depth = 2; at = λ _ _. 0 }

abbrev pub row : List ℕ → Picture
row values = record { width = 4; height = 1; depth = 2; at = λ x _. slice_index values x }

abbrev pub pixels : Picture → List ℕ
pixels p = p.at 0 0 ∷ p.at 1 0 ∷ p.at 2 0 ∷ p.at 3 0 ∷ []

abbrev pub sample : Picture
sample = row (1 ∷ 2 ∷ 3 ∷ 0 ∷ [])

-- three pixels from x = from to x = to, by the rule that takes the source
abbrev pub three : (from to : ℤ) → BitmapCall
three from to = scroll_by (transfer 3 from (pos 0) to (pos 0) 3 1)

-- the entries of a run row, and the pixels that they read at depth 2
abbrev pub runs : List ℕ
runs = 34 ∷ 16 ∷ 17 ∷ 0 ∷ []

pub record WorkedExamples : Type 0 where
  -- at depth 2, rule 12 makes 2 of the source 1
  pub complement : (d : ℕ) → combined 2 12 1 d ≡ 2
  -- a fill at (-2, -1), 4 by 3, on a bitmap of 3 by 2
  pub fill_clipped : bitmap_answer (zeros 3 2) (fill_with 3 1 (negsuc 1) (negsuc 0) 4 3) ≡ Ok 4
  -- a scroll of 1 2 3 0 from x = 0 to x = 1, and from x = -1 to x = 0
  pub onward : pixels (bitmap_after sample (three (pos 0) (pos 1))) ≡ 1 ∷ 1 ∷ 2 ∷ 3 ∷ []
  pub onward_count : bitmap_answer sample (three (pos 0) (pos 1)) ≡ Ok 3
  pub cut : pixels (bitmap_after sample (three (negsuc 0) (pos 0))) ≡ 1 ∷ 1 ∷ 2 ∷ 0 ∷ []
  pub cut_count : bitmap_answer sample (three (negsuc 0) (pos 0)) ≡ Ok 2
  -- at a width of 320, one plane: row 204, column 256
  pub far_word : (h : ℕ) → word_of 320 h 0 256 204 ≡ 2048
  pub far_bit : bit_of 256 ≡ 31
  -- the row 2 2 0 1 in its one writing
  pub run_row : Settled 2 runs 4
  pub run_pixels : run_at 2 runs 0 ∷ run_at 2 runs 1 ∷ run_at 2 runs 2 ∷ run_at 2 runs 3 ∷ [] ≡ 2 ∷ 2 ∷ 0 ∷ 1 ∷ []
  -- patches, slots and moves on a desk
  pub on_desks : DeskExamples
