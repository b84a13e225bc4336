-- The bitmap that a pane is, and what of its desk drawing on it leaves.
use Rattle.std.specs.Prelude.{◌≡◌}
use Rattle.raster.specs.Picture.{Picture, sizes}
use Rattle.raster.specs.declared.bitmap.Bitmap.{Ghosts}
use Rattle.paper.specs.Layers.{pane}
use Rattle.paper.specs.Desk.{repaint}
use Rattle.paper.specs.Run.{Becomes}
use Rattle.desk.specs.Desks.{on_paper, state_of, Keeps}
use Rattle.pane.specs.declared.pane.Pane.{Pane}

module _ {S T : Type 0} (s : Ghosts S) (t : Ghosts T) where
  -- The client's layer on the desk on paper; 0 by 0, at the desk's depth, if the client has none.
  abbrev pub picture_of : Pane S T → Picture
  picture_of p = pane p.client (on_paper s t p.desk)

  -- The second comes from the first by drawing on it.
  pub record PaneKept (p q : Pane S T) : Type 0 where
    -- It is the same client's,
    pub client : q.client ≡ p.client
    -- and as large as before.
    pub size : sizes (picture_of q) ≡ sizes (picture_of p)
    -- Of the desk on paper only the pixels of the client's layer are others: all other layers, the order, the corners, the
    -- size and the number of slots stay. The screen follows the screen rule, and the slots in use follow from the desk on paper.
    pub leaves : Becomes (state_of s t p.desk) (repaint p.client (picture_of q) (on_paper s t p.desk)) (state_of s t q.desk)
    -- What is no pixel of screen or store stays.
    pub rest : Keeps s t p.desk q.desk
