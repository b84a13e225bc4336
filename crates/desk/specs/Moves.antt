-- How a desk goes over to another arrangement.
use Rattle.std.specs.Prelude.{◌≡◌, ℕ, ◌<◌, min, true, List, [], ◌∷◌, ◌++◌, Ok, Err, Result}
use Rattle.raster.specs.Picture.{Picture, sizes}
use Rattle.raster.specs.declared.size.Size.{Size}
use Rattle.paper.specs.declared.DeskFault.{DeskFault}
use Rattle.paper.specs.Layers.{only, without}
use Rattle.paper.specs.Desk.{Call, raise_layer, lower_layer, Answer}
use Rattle.raster.specs.declared.rectangle.Rectangle.{Rectangle}
use Rattle.plan.specs.declared.plan.Plan.{Plan}
use Rattle.slots.specs.declared.slots.Slots.{Slots}
use Rattle.plan.specs.Frames.{has}
use Rattle.plan.specs.Plans.{listed, layers_in, hidden_patch}
use Rattle.slots.specs.Tables.{has_slot}
use Rattle.plan.specs.Arranged.{Arranged, SameFrames}
use Rattle.slots.specs.Allots.{Retained}
use Rattle.moving.specs.Phases.{Fitting, on_screen, Stowed, repainted}
use Rattle.desk.specs.declared.book.Book.{Book}

-- What a call without an answer of its own answers: 0, or the fault.
abbrev pub done : Result (Unit {0}) DeskFault → Answer
done (Ok u) = Ok 0
done (Err f) = Err f

-- Each patch that is hidden in an arrangement has a slot.
abbrev pub Serves : Plan → Slots → Type 0
Serves q t = (k : ℕ) → k < 2400 → hidden_patch q k ≡ true → has_slot t k ≡ true

-- A book of the arrangement q: of the slots in the table t it has those of the hidden patches.
pub record Settled (q : Plan) (t : Slots) (b : Book) : Type 0 where
  pub plan : b.plan ≡ q
  pub slots : Retained t (hidden_patch q) b.slots

-- A book without layers, for a screen of a size and a number of slots.
pub record Fresh (screen : Size) (places : ℕ) (b : Book) : Type 0 where
  pub layers : listed b.plan ≡ []
  pub size : b.plan.screen ≡ screen
  pub slots : b.slots.places ≡ min places 4096

-- The store after what showed in some areas of the screen was stowed, one area after the other.
abbrev pub StowedAll : (screen : Picture) → Plan → Slots → List Rectangle → (before after : Picture) → Type 0
StowedAll screen p t [] before after = after ≡ before
StowedAll screen p t (f ∷ fs) before after = (between : Picture) × (Stowed screen p t (on_screen p.screen f) before between) × (StowedAll screen p t fs between after)

-- The screen after some areas of it were repainted, one after the other.
abbrev pub repainted_all : (store : Picture) → Plan → Slots → List Rectangle → Picture → Picture
repainted_all store q t [] screen = screen
repainted_all store q t (f ∷ fs) screen = repainted_all store q t fs (repainted store q t (on_screen q.screen f) screen)

-- What showed in some areas of the screen was stowed by the arrangement p, and the areas repainted by q, with the slots of t.
pub record Rearranges (p q : Plan) (t : Slots) (areas : List Rectangle) (screen store screen' store' : Picture) : Type 0 where
  pub screen_size : sizes screen' ≡ sizes screen
  pub store_size : sizes store' ≡ sizes store
  pub stowed : Fitting screen store p t → StowedAll screen p t areas store store'
  pub repaints : Fitting screen store' q t → screen' ≡ repainted_all store' q t areas screen

-- The calls that put the layers in another order.
pub data Reorders (p q : Plan) (c : ℕ) : Call → Type 0 where
  raises : Arranged p q (without c (layers_in p) ++ only c (layers_in p)) (λ d. has d (listed p)) → SameFrames p q → Reorders p q c (raise_layer c)
  lowers : Arranged p q (only c (layers_in p) ++ without c (layers_in p)) (λ d. has d (listed p)) → SameFrames p q → Reorders p q c (lower_layer c)
