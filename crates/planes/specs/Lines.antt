-- Where the words of a row stand.
use Rattle.std.specs.Prelude.{ℕ, ◌*◌}
use Rattle.raster.specs.declared.size.Size.{Size}
use Rattle.planes.specs.Layout.{stride}
use Rattle.planes.specs.declared.words.Line.{Line}

-- The words of row y: its first in plane 0, the words of a plane, and the planes.
abbrev pub line_of : Size → (y : ℕ) → Line
line_of s y = record { row = y; first = y * stride s.width; plane = s.height * stride s.width; depth = s.depth }
