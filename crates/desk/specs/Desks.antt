-- The desk on paper that a desk stands for, and what of it no call changes.
use Rattle.std.specs.Prelude.{ℕ, Bool, cond, ◌&&◌, ◌==◌}
use Rattle.raster.specs.Picture.{Picture, sizes}
use Rattle.raster.specs.Calls.{Unaltered}
use Rattle.raster.specs.declared.bitmap.Bitmap.{Ghosts}
use Rattle.raster.specs.declared.size.Size.{Size}
use Rattle.paper.specs.Layers as paper
use Rattle.paper.specs.Layers.{new_desk}
use Rattle.paper.specs.Slots.{slots_of}
use Rattle.paper.specs.Desk.{Call, Answer}
use Rattle.paper.specs.Run.{State, Does}
use Rattle.slots.specs.Tables.{has_slot}
use Rattle.plan.specs.Counts.{passing}
use Rattle.hold.specs.Held.{paper_of}
use Rattle.desk.specs.declared.book.Book.{Book}
use Rattle.desk.specs.declared.desk.Desk.{Desk}

abbrev pub same_size : Size → Size → Bool
same_size a b = a.width == b.width && (a.height == b.height && a.depth == b.depth)

-- A book was made for a screen and a store of these sizes.
abbrev pub made_for : (screen store : Picture) → Book → Bool
made_for screen store b = same_size b.plan.screen (sizes screen) && b.slots.places == slots_of (sizes store) screen.depth

-- The desk on paper that two pictures and a book stand for. A book that was made for others, which no call brings about,
-- counts as that of a new desk.
unfoldable pub on_pictures : (screen store : Picture) → Book → paper.Desk
on_pictures screen store b =
    cond (made_for screen store b) (paper_of screen store b.plan b.slots) (new_desk (sizes screen) (slots_of (sizes store) screen.depth))

-- The slots in use, by the book.
unfoldable pub used_by : (screen store : Picture) → Book → ℕ
used_by screen store b = cond (made_for screen store b) (passing (has_slot b.slots)) 0

-- What stands: the desk on paper, the pixels in the screen, and the slots in use.
abbrev pub state_on : (screen store : Picture) → Book → State
state_on screen store b = record { paper = on_pictures screen store b; screen = screen; used = used_by screen store b }

module _ {S T : Type 0} (s : Ghosts S) (t : Ghosts T) where
  abbrev pub on_paper : Desk S T → paper.Desk
  on_paper d = on_pictures (s.picture d.screen) (t.picture d.store) d.book

  abbrev pub state_of : Desk S T → State
  state_of d = state_on (s.picture d.screen) (t.picture d.store) d.book

  -- What is no pixel of screen or store stays.
  pub record Keeps (d e : Desk S T) : Type 0 where
    pub screen : s.keeps d.screen e.screen
    pub store : t.keeps d.store e.store

  -- What a call does: its answer, the desk on paper after it, the screen and the slots in use; what is no pixel of screen or store stays; and
  -- a refused call leaves the very same desk.
  pub record Performed (old : Desk S T) (call : Call) (answer : Answer) (new : Desk S T) : Type 0 where
    pub does : Does (state_of old) call answer (state_of new)
    pub rest : Keeps old new
    pub refused : Unaltered answer old new
