-- Layers keep apart: what one client sees of its layer does not depend on the other clients,
-- and what the screen shows depends on the layers alone.
use Rattle.std.specs.Prelude.{◌≡◌, ℕ, cond, ◌≢◌, List, ◌∷◌, ◌++◌, length, take, pos}
use Rattle.raster.specs.Picture.{sizes}
use Rattle.raster.specs.Blt.{inside}
use Rattle.raster.specs.declared.size.Size.{Size}
use Rattle.paper.specs.Layers.{shown}
use Rattle.paper.specs.Slots.{hidden_count}
use Rattle.paper.specs.Desk.{Call, Answer}
use Rattle.paper.specs.Run.{State, new_state, Step, state_after, end_of, Run, calls_in, calls_of, opens_of, answers_of, layer_of, Alike, SameCall, SameLayer}
use Rattle.paper.specs.House.{House, HouseCall, for_outer, HouseStep, HouseRun, outer_steps, inner_steps, house_calls, house_end}

-- ── One client ──

-- Two runs hold the same calls of a client, and its opens fare alike.
pub record SamePart (c : ℕ) (one two : List Step) : Type 0 where
  pub calls : Alike SameCall (calls_of c one) (calls_of c two)
  pub opens : opens_of c one ≡ opens_of c two

-- Its fills, scrolls, stamps, reads and closes get equal answers, and at any two points with equally many of its
-- calls made, its layer is open in neither or in both with equal size and pixels.
pub record SameView (c : ℕ) (s₁ : State) (one : List Step) (s₂ : State) (two : List Step) : Type 0 where
  pub answers : answers_of c one ≡ answers_of c two
  pub layers : (n m : ℕ) → length (calls_of c (take n one)) ≡ length (calls_of c (take m two))
      → layer_of c (state_after n s₁ one) ≡ layer_of c (state_after m s₂ two)

-- A client's part in two runs on screens of one depth settles its view.
-- Sizes of screens, stores and numbers of slots may differ.
abbrev pub Isolated : ℕ → State → List Step → State → List Step → Type 0
Isolated c s₁ one s₂ two = s₁.paper.size.depth ≡ s₂.paper.size.depth → SamePart c one two → SameView c s₁ one s₂ two

-- ── The screen ──

-- Two desks have the same layers, on screens of one size and depth.
pub record SameLayers (s₁ s₂ : State) : Type 0 where
  pub size : s₁.paper.size ≡ s₂.paper.size
  pub layers : Alike SameLayer s₁.paper.layers s₂.paper.layers

-- The screen has the desk's size and depth, and each place on it shows the topmost layer that covers it, or 0.
-- As many slots are in use as patches are hidden.
pub record Shows (s : State) : Type 0 where
  pub size : sizes s.screen ≡ s.paper.size
  pub pixels : (x y : ℕ)
      → s.screen.at x y ≡ cond (inside s.paper.size (pos x) (pos y)) (shown s.paper.layers (pos x) (pos y)) 0
  pub used : s.used ≡ hidden_count s.paper

-- Equal screens, and equally many slots in use.
pub record SameScreen (s₁ s₂ : State) : Type 0 where
  pub screens : s₁.screen ≡ s₂.screen
  pub used : s₁.used ≡ s₂.used
  pub first : Shows s₁
  pub second : Shows s₂

-- The layers, with the screen's size and depth, settle the screen and the slots in use.
abbrev pub Settled : State → State → Type 0
Settled s₁ s₂ = SameLayers s₁ s₂ → SameScreen s₁ s₂

-- ── Two runs ──

-- Two runs of desks, from s₁ and s₂.
pub record RunsKeepApart (s₁ s₂ : State) (one two : List Step) : Type 0 where
  pub isolated : (c : ℕ) → Isolated c s₁ one s₂ two
  pub settled : Settled (end_of s₁ one) (end_of s₂ two)

-- Two runs in houses, whose outer desks begin at s₁ and s₂. The outer desk's steps before and after the making count alike.
pub record HouseRunsKeepApart {s₁ s₂ : State} (one : HouseRun s₁) (two : HouseRun s₂) : Type 0 where
  pub inner_isolated : (c : ℕ) → Isolated c one.made.inner (inner_steps one) two.made.inner (inner_steps two)
  pub outer_isolated : (c : ℕ) → c ≢ one.host → c ≢ two.host → Isolated c s₁ (outer_steps one) s₂ (outer_steps two)
  pub inner_settled : Settled (end_of one.made.inner (inner_steps one)) (end_of two.made.inner (inner_steps two))
  pub outer_settled : Settled (end_of s₁ (outer_steps one)) (end_of s₂ (outer_steps two))

-- Wherever among the calls in a house one for the outer desk stands, it leaves the inner screen as it was.
abbrev pub InnerScreenStays : House → List HouseStep → Type 0
InnerScreenStays made mixed =
    (before rest : List HouseStep) (call : Call) (got : Answer) (t : House)
    → mixed ≡ before ++ (record { call = for_outer call; got = got; stands = t } ∷ rest)
    → t.inner.screen ≡ (house_end made before).inner.screen

-- ── There are runs ──

-- A run with just these calls.
pub record SomeRun (s : State) (ks : List Call) : Type 0 where
  pub steps : List Step
  pub is_run : Run s steps
  pub has_calls : calls_in steps ≡ ks

-- A run in a house with just this host, this number of inner slots and these calls.
pub record SomeHouseRun (s : State) (alone : List Call) (host slots : ℕ) (mixed : List HouseCall) : Type 0 where
  pub run : HouseRun s
  pub has_host : run.host ≡ host
  pub has_slots : run.slots ≡ slots
  pub has_alone : calls_in run.alone ≡ alone
  pub has_mixed : house_calls run.mixed ≡ mixed

-- ── The theorem ──

-- Every two runs of new desks keep apart, and every two runs in houses whose outer desks begin new;
-- no call to the outer desk of a house alters the inner screen. And every list of calls has such a run.
pub record LayersKeepApart : Type 0 where
  pub on_desks : (size₁ : Size) (slots₁ : ℕ) (size₂ : Size) (slots₂ : ℕ) (one two : List Step)
      → Run (new_state size₁ slots₁) one → Run (new_state size₂ slots₂) two
      → RunsKeepApart (new_state size₁ slots₁) (new_state size₂ slots₂) one two
  pub in_houses : (size₁ : Size) (slots₁ : ℕ) (size₂ : Size) (slots₂ : ℕ)
      (one : HouseRun (new_state size₁ slots₁)) (two : HouseRun (new_state size₂ slots₂))
      → HouseRunsKeepApart one two
  pub inner_screens_stay : (size : Size) (slots : ℕ) (run : HouseRun (new_state size slots))
      → InnerScreenStays run.made run.mixed
  pub runs_on_desks : (size : Size) (slots : ℕ) (ks : List Call) → SomeRun (new_state size slots) ks
  pub runs_in_houses : (size : Size) (slots : ℕ) (alone : List Call) (host inner_slots : ℕ) (mixed : List HouseCall)
      → SomeHouseRun (new_state size slots) alone host inner_slots mixed
