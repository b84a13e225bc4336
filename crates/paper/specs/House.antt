-- A house: an outer desk, one of its clients as host, and an inner desk whose screen is the host's pane.
use Rattle.std.specs.Prelude.{◌≡◌, ℕ, Bool, true, false, cond, ◌&&◌, List, [], ◌∷◌, ◌++◌, Err, ◌==◌, nat_le}
use Rattle.raster.specs.Picture.{sizes}
use Rattle.raster.specs.declared.refusal.Refusal.TheVariants.{Host}
use Rattle.paper.specs.Layers.{Desk, pane}
use Rattle.paper.specs.Desk.{Call, open_layer, close_layer, raise_layer, lower_layer, move_layer, fill_layer, scroll_layer, stamp_layer, read_layer, client_of, repaint, because, Answer, answer, after}
use Rattle.paper.specs.Run.{State, new_state, Becomes, Does, Event, called, elsewhere, Step, Run, end_of}

-- The calls that draw on the pane of the client that they name, or give or take it. The host's are refused.
abbrev pub draws : Call → Bool
draws (open_layer c x y w h) = true
draws (close_layer c) = true
draws (raise_layer c) = false
draws (lower_layer c) = false
draws (move_layer c x y) = false
draws (fill_layer c rule v x y w h) = true
draws (scroll_layer c t) = true
draws (stamp_layer c t source) = true
draws (read_layer c x y) = false

-- The outer desk refuses a call because it names the host. That a client is above 7 is asked before.
abbrev pub refused_for_host : (host : ℕ) → Call → Bool
refused_for_host host call = nat_le (client_of call) 7 && (client_of call == host && draws call)

-- What a call to the outer desk of a house answers, and the outer desk that it leaves.
unfoldable pub outer_answer : (host : ℕ) → Desk → Call → Answer
outer_answer host d call = cond (refused_for_host host call) (Err (because Host (client_of call))) (answer d call)

unfoldable pub outer_after : (host : ℕ) → Desk → Call → Desk
outer_after host d call = cond (refused_for_host host call) d (after d call)

-- What stands in a house: each of its desks.
pub record House : Type 0 where
  pub outer : State
  pub inner : State

-- The inner screen is the host's pane.
pub record StandsOn (host : ℕ) (t : House) : Type 0 where
  pub screen_is_pane : t.inner.screen ≡ pane host t.outer.paper

-- The making of a house: a new inner desk on the host's pane, which is cleared by that.
pub record Made (host slots : ℕ) (s : State) (t : House) : Type 0 where
  pub inner_new : t.inner ≡ new_state (sizes (pane host s.paper)) slots
  pub outer_leaves : Becomes s (repaint host t.inner.screen s.paper) t.outer
  pub stands_on : StandsOn host t

-- What a call to the outer desk promises. Of the inner desk it is not said here that its screen stays: that is proved.
pub record OuterDoes (host : ℕ) (t : House) (call : Call) (got : Answer) (t' : House) : Type 0 where
  pub answers : got ≡ outer_answer host t.outer.paper call
  pub leaves : Becomes t.outer (outer_after host t.outer.paper call) t'.outer
  pub inner_paper : t'.inner.paper ≡ t.inner.paper
  pub inner_used : t'.inner.used ≡ t.inner.used
  pub stands_on : StandsOn host t'

-- What a call to the inner desk promises. In the outer desk it draws on the host's layer and changes nothing else.
pub record InnerDoes (host : ℕ) (t : House) (call : Call) (got : Answer) (t' : House) : Type 0 where
  pub does : Does t.inner call got t'.inner
  pub outer_leaves : Becomes t.outer (repaint host t'.inner.screen t.outer.paper) t'.outer
  pub stands_on : StandsOn host t'

-- ── Runs in a house ──

-- A call to one of the two desks.
pub data HouseCall : Type 0 where
  for_outer : Call → HouseCall
  for_inner : Call → HouseCall

-- A call, its answer, and what stands after it.
pub record HouseStep : Type 0 where
  pub call : HouseCall
  pub got : Answer
  pub stands : House

-- Calls in a house, each for one of its two desks.
pub data Mixed (host : ℕ) : House → List HouseStep → Type 0 where
  ends : {t : House} → Mixed host t []
  outer : {t t' : House} {call : Call} {got : Answer} {steps : List HouseStep} → OuterDoes host t call got t' → Mixed host t' steps
      → Mixed host t (record { call = for_outer call; got = got; stands = t' } ∷ steps)
  inner : {t t' : House} {call : Call} {got : Answer} {steps : List HouseStep} → InnerDoes host t call got t' → Mixed host t' steps
      → Mixed host t (record { call = for_inner call; got = got; stands = t' } ∷ steps)

-- A run in a house: a run of the outer desk alone, the making, and calls for both desks.
pub record HouseRun (start : State) : Type 0 where
  pub host : ℕ
  pub slots : ℕ
  pub alone : List Step
  pub made : House
  pub mixed : List HouseStep
  pub is_run : Run start alone
  pub is_made : Made host slots (end_of start alone) made
  pub is_mixed : Mixed host made mixed

-- What stands at the end of some calls in a house.
abbrev pub house_end : House → List HouseStep → House
house_end t [] = t
house_end t (m ∷ steps) = house_end m.stands steps

abbrev pub house_calls : List HouseStep → List HouseCall
house_calls [] = []
house_calls (m ∷ steps) = m.call ∷ house_calls steps

-- A call as each desk sees it.
abbrev pub outer_event : HouseCall → Answer → Event
outer_event (for_outer call) got = called call got
outer_event (for_inner call) got = elsewhere

abbrev pub inner_event : HouseCall → Answer → Event
inner_event (for_outer call) got = elsewhere
inner_event (for_inner call) got = called call got

abbrev pub outer_view : List HouseStep → List Step
outer_view [] = []
outer_view (m ∷ steps) = record { event = outer_event m.call m.got; stands = m.stands.outer } ∷ outer_view steps

abbrev pub inner_view : List HouseStep → List Step
inner_view [] = []
inner_view (m ∷ steps) = record { event = inner_event m.call m.got; stands = m.stands.inner } ∷ inner_view steps

-- The outer desk's steps: before the making, the making, and after it.
abbrev pub outer_steps : {start : State} → HouseRun start → List Step
outer_steps r = r.alone ++ (record { event = elsewhere; stands = r.made.outer } ∷ outer_view r.mixed)

-- The inner desk's steps, which begin after the making.
abbrev pub inner_steps : {start : State} → HouseRun start → List Step
inner_steps r = inner_view r.mixed
