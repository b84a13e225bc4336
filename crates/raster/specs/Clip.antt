-- One axis of a BitBlt: which coordinates it concerns, and how they are cut to the bitmaps.
use Rattle.std.specs.Prelude.{◌≡◌, ℕ, ◌+◌, ◌≤◌, Bool, true, ◌&&◌, ℤ, pos}
use Rattle.raster.specs.Blt.{holds, behind}
use Rattle.raster.specs.Blits.{spans, opposite}
use Rattle.raster.specs.declared.span.Span.{Span}

-- x lies among the n coordinates from d and below dest, and its source coordinate, counted from s, lies below source.
unfoldable pub hits : (s d : ℤ) (n source dest x : ℕ) → Bool
hits s d n source dest x = holds d n (pos x) && (holds (pos 0) dest (pos x) && holds (pos 0) source (behind s d x))

-- The coordinates concerned are those of the span, and each has its source coordinate opposite.
pub record Clipped (s d : ℤ) (n source dest : ℕ) (r : Span) : Type 0 where
  pub paints : r.first + r.len ≤ dest
  pub reads : r.source + r.len ≤ source
  pub hit : (x : ℕ) → hits s d n source dest x ≡ spans r x
  pub back : (x : ℕ) → spans r x ≡ true → behind s d x ≡ pos (opposite r x)
  pub none : r.len ≡ 0 → (r.first ≡ 0) × (r.source ≡ 0)
