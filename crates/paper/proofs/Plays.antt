-- Every list of calls has a run, on a desk and in a house.
use Rattle.std.proofs.Common.{◌≡◌, ℕ, List, [], ◌∷◌, sym, refl, ap, subst}
use Rattle.raster.specs.Picture.{sizes}
use Rattle.paper.specs.Layers.{Desk, blank, or_blank, pane, screen_after}
use Rattle.paper.specs.Slots.{hidden_count}
use Rattle.paper.specs.Desk.{Call, repaint, answer, after}
use Rattle.paper.specs.Run.{State, new_state, Becomes, called, Step, end_of, Run, ends, calls, calls_in}
use Rattle.paper.specs.House as house
use Rattle.paper.specs.House.{outer_answer, outer_after, House, StandsOn, HouseCall, for_outer, for_inner, HouseStep, Mixed, house_calls}
use Rattle.paper.specs.Apart.{SomeRun, SomeHouseRun}
use Rattle.paper.proofs.Pane.{painted_pane, drawn_pane}

-- What stands when the desk on paper becomes d.
abbrev become : State → Desk → State
become s d = record { paper = d; screen = screen_after s.screen s.paper d; used = hidden_count d }

becomes : (s : State) (d : Desk) → Becomes s d (become s d)
becomes s d = record { paper = refl; screen = refl; used = refl }

-- ── On a desk ──

abbrev play : State → List Call → List Step
play s [] = []
play s (k ∷ ks) =
    record { event = called k (answer s.paper k); stands = become s (after s.paper k) } ∷ play (become s (after s.paper k)) ks

plays : (s : State) (ks : List Call) → Run s (play s ks)
plays s [] = ends
plays s (k ∷ ks) =
    calls (record { answers = refl; leaves = becomes s (after s.paper k) }) (plays (become s (after s.paper k)) ks)

play_calls : (s : State) (ks : List Call) → calls_in (play s ks) ≡ ks
play_calls s [] = refl
play_calls s (k ∷ ks) = ap (λ more. k ∷ more) (play_calls (become s (after s.paper k)) ks)

pub some_run : (s : State) (ks : List Call) → SomeRun s ks
some_run s ks = record { steps = play s ks; is_run = plays s ks; has_calls = play_calls s ks }

-- ── In a house ──

abbrev next_outer : ℕ → House → Call → House
next_outer host t k = record {
  outer = become t.outer (outer_after host t.outer.paper k);
  inner = record { paper = t.inner.paper; screen = pane host (outer_after host t.outer.paper k); used = t.inner.used };
}

-- the inner state becomes i, and is drawn on the host's layer
abbrev with_inner : ℕ → State → State → House
with_inner host outer i = record { outer = become outer (repaint host i.screen outer.paper); inner = i }

abbrev next_inner : ℕ → House → Call → House
next_inner host t k = with_inner host t.outer (become t.inner (after t.inner.paper k))

inner_on : (host : ℕ) (t : House) (k : Call) → StandsOn host t → StandsOn host (next_inner host t k)
inner_on host t k on = record {
  screen_is_pane =
      let d = t.inner.paper in
      subst (λ p. screen_after p d (after d k) ≡ pane host (repaint host (screen_after p d (after d k)) t.outer.paper)) (sym on.screen_is_pane)
      (drawn_pane host t.outer.paper d (after d k));
}

abbrev play_mixed : ℕ → House → List HouseCall → List HouseStep
play_mixed host t [] = []
play_mixed host t (for_outer k ∷ ks) =
    record { call = for_outer k; got = outer_answer host t.outer.paper k; stands = next_outer host t k } ∷ play_mixed host (next_outer host t k) ks
play_mixed host t (for_inner k ∷ ks) =
    record { call = for_inner k; got = answer t.inner.paper k; stands = next_inner host t k } ∷ play_mixed host (next_inner host t k) ks

plays_mixed : (host : ℕ) (t : House) (ks : List HouseCall) → StandsOn host t → Mixed host t (play_mixed host t ks)
plays_mixed host t [] on = house.ends
plays_mixed host t (for_outer k ∷ ks) on =
    let next : StandsOn host (next_outer host t k) = record { screen_is_pane = refl } in
    house.outer
    (record { answers = refl; leaves = becomes t.outer (outer_after host t.outer.paper k); inner_paper = refl; inner_used = refl; stands_on = next })
    (plays_mixed host (next_outer host t k) ks next)
plays_mixed host t (for_inner k ∷ ks) on =
    let d = after t.inner.paper k in
    let next : StandsOn host (next_inner host t k) = inner_on host t k on in
    house.inner
    (record { does = record { answers = refl; leaves = becomes t.inner d }; outer_leaves = becomes t.outer _; stands_on = next })
    (plays_mixed host (next_inner host t k) ks next)

mixed_calls : (host : ℕ) (t : House) (ks : List HouseCall) → house_calls (play_mixed host t ks) ≡ ks
mixed_calls host t [] = refl
mixed_calls host t (for_outer k ∷ ks) = ap (λ more. for_outer k ∷ more) (mixed_calls host (next_outer host t k) ks)
mixed_calls host t (for_inner k ∷ ks) = ap (λ more. for_inner k ∷ more) (mixed_calls host (next_inner host t k) ks)

-- A new inner desk stands on the host's pane.
new_on : (host slots : ℕ) (s : State) → StandsOn host (with_inner host s (new_state (sizes (pane host s.paper)) slots))
new_on host slots s = record {
  screen_is_pane =
      let p = pane host s.paper in
      painted_pane host s.paper (blank p.width p.height p.depth)
      (λ n. subst (λ o. blank (or_blank s.paper.size.depth o).width (or_blank s.paper.size.depth o).height (or_blank s.paper.size.depth o).depth ≡ or_blank s.paper.size.depth o) (sym n) refl);
}

pub some_house_run : (s : State) (alone : List Call) (host slots : ℕ) (mixed : List HouseCall) → SomeHouseRun s alone host slots mixed
some_house_run start alone host slots mixed =
    let s = end_of start (play start alone) in
    let inner = new_state (sizes (pane host s.paper)) slots in
    let made = with_inner host s inner in
    record {
      run = record {
        host = host;
        slots = slots;
        alone = play start alone;
        made = made;
        mixed = play_mixed host made mixed;
        is_run = plays start alone;
        is_made = record { inner_new = refl; outer_leaves = becomes s _; stands_on = new_on host slots s };
        is_mixed = plays_mixed host made mixed (new_on host slots s);
      };
      has_host = refl;
      has_slots = refl;
      has_alone = play_calls start alone;
      has_mixed = mixed_calls host made mixed;
    }
