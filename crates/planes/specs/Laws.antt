-- What the layout of planes means.
use Rattle.std.specs.Prelude.{◌≡◌, ℕ, ◌^◌, ◌<◌, List, slice_index}
use Rattle.raster.specs.declared.size.Size.{Size}
use Rattle.planes.specs.Layout.{laid_out, Kept}

-- every word has 32 bits
abbrev pub Words : List ℕ → Type 0
Words ws = (i : ℕ) → slice_index ws i < 2 ^ 32

pub record PlanesLaws : Type 0 where
  -- The picture and the bits that are no pixel's settle every word: there is one list that a call may leave.
  pub one_list : (s : Size) (before one two : List ℕ) → Words one → Words two → Kept s before one → Kept s before two
      → laid_out one s ≡ laid_out two s → one ≡ two
