-- Stowing, repainting and blanking, told of bitmaps of any kinds. What is no pixel stays (`keeps`), and so does the size.
use Rattle.std.specs.Prelude.{◌≡◌, ℕ, Bool}
use Rattle.raster.specs.Picture.{Picture, sizes}
use Rattle.raster.specs.declared.bitmap.Bitmap.{Ghosts}
use Rattle.hold.specs.declared.layer.Layout.{Layout}
use Rattle.moving.specs.Phases.{Fitting, Stowed, repainted}

module _ {S T : Type 0} (s : Ghosts S) (t : Ghosts T) where
  -- The layout is one of this screen and this store.
  abbrev pub Sized : Layout → (screen : S) (store : T) → Type 0
  Sized l screen store = Fitting (s.picture screen) (t.picture store) l.plan.now l.slots.now

  -- What shows at some places of the screen was copied to the store.
  pub record Stows (l : Layout) (at : ℕ → ℕ → Bool) (screen : S) (old new : T) : Type 0 where
    pub keeps : t.keeps old new
    pub size : sizes (t.picture new) ≡ sizes (t.picture old)
    pub stows : Sized l screen old → Stowed (s.picture screen) l.plan.now l.slots.now at (t.picture old) (t.picture new)

  -- Some places of the screen got what the store has for them.
  pub record Repaints (l : Layout) (at : ℕ → ℕ → Bool) (store : T) (old new : S) : Type 0 where
    pub keeps : s.keeps old new
    pub size : sizes (s.picture new) ≡ sizes (s.picture old)
    pub paints : Sized l old store → s.picture new ≡ repainted (t.picture store) l.plan.now l.slots.now at (s.picture old)

-- The store was blanked, in the way that `blanked` says of its pictures.
pub record Blanks {T : Type 0} (t : Ghosts T) (blanked : (before after : Picture) → Type 0) (old new : T) : Type 0 where
  pub keeps : t.keeps old new
  pub size : sizes (t.picture new) ≡ sizes (t.picture old)
  pub blanks : blanked (t.picture old) (t.picture new)
