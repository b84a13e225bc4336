-- Frames of layers and clients, as plain lists.
use Rattle.std.specs.Prelude.{ℕ, Bool, true, false, not, ◌&&◌, ◌||◌, List, [], ◌∷◌, pos, ◌==◌}
use Rattle.raster.specs.declared.rectangle.Rectangle.{Rectangle}

abbrev pub no_frame : Rectangle
no_frame = record { x = pos 0; y = pos 0; w = 0; h = 0 }

-- a client is among some, and none is there twice
abbrev pub has : ℕ → List ℕ → Bool
has c [] = false
has c (d ∷ ds) = d == c || has c ds

abbrev pub distinct : List ℕ → Bool
distinct [] = true
distinct (c ∷ cs) = not (has c cs) && distinct cs
