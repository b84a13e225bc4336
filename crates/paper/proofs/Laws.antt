-- The laws of a desk hold.
use Rattle.std.proofs.Common.{◌≡◌, ℕ, ◌+◌, ◌<◌, ◌≤◌, Bool, true, false, cond, not, eqb, List, [], ◌∷◌, ◌++◌, length, ℤ, is_some, Some, None, Ok, Err, Option, sym, refl, ap, ◌∙◌, subst, ap₂, arith}
use Rattle.std.proofs.lemmas.Bool.{eq-eqb, eqb-true, lt-ltb, ltb-false}
use Rattle.raster.specs.Picture.{Picture, sizes}
use Rattle.raster.specs.Blt.{Source, blt}
use Rattle.raster.specs.declared.transfer.Transfer.{Transfer}
use Rattle.raster.specs.Calls.{refuse_if, first_fault}
use Rattle.raster.specs.declared.refusal.Refusal.TheVariants.{NotOpen}
use Rattle.raster.specs.declared.size.Size.{Size}
use Rattle.raster.proofs.Paints.{painted_sizes}
use Rattle.paper.specs.declared.DeskFault.{DeskFault}
use Rattle.paper.specs.Layers.{Desk, Layer, with_layers, or_else, pixels_of, is_open, pane, only, without, alter, with_pixels, at_corner}
use Rattle.paper.specs.Slots.{hidden_count, slots_needed}
use Rattle.paper.specs.Desk.{Call, open_layer, close_layer, raise_layer, lower_layer, move_layer, fill_layer, scroll_layer, stamp_layer, read_layer, client_of, new_layer, repaint, change, because, no_client, not_open, already_open, beyond_size, too_few_slots, fault_of, answer, after}
use Rattle.paper.specs.Run.{new_state, Step, end_of, Run}
use Rattle.paper.specs.Laws.{DeskLaws}
use Rattle.paper.proofs.View.{after_either, answer_refused, answer_accepted, after_accepted, other_stays, slots_stay}
use Rattle.paper.proofs.Layers.{not_some, pixels-++}
use Rattle.paper.proofs.Order.{raised_raised, raised_lowered, placed_back, layers_of, layers-++, layers_split, layers_alter, none_only, opened_closed}
use Rattle.paper.proofs.Pane.{above_seven}
use Rattle.paper.proofs.HiddenPixels.{clear_shows, shown_clear}
use Rattle.paper.proofs.Outline.{repaint_hidden, hidden_needed, hidden_keep}
use Rattle.paper.proofs.Screen.{visible_shows, covered_shows, uncovered_clears, untouched_stays, outside_stays}
use Rattle.paper.proofs.Runs.{run_keeps, run_shows}

-- ── What a call that is not refused says ──

passed_first : {F : Type 0} (a : Option F) (more : List (Option F)) → first_fault (a ∷ more) ≡ None → (a ≡ None) × (first_fault more ≡ None)
passed_first (Some f) more e = (cc, cc)
passed_first None more e = (refl, e)

passed_test : {F : Type 0} (t : Bool) (f : F) → refuse_if t f ≡ None → t ≡ false
passed_test true f e = cc
passed_test false f e = refl

-- an answer tells whether there was a fault
pub no_fault : (d : Desk) (call : Call) (n : ℕ) → answer d call ≡ Ok n → fault_of d call ≡ None
no_fault d call n e = go (fault_of d call) refl
  where
    go : (o : Option DeskFault) → fault_of d call ≡ o → o ≡ None
    go (Some f) q = let a = answer_refused d call f q in cc
    go None q = refl

refused_stays : (d : Desk) (call : Call) (f : DeskFault) → answer d call ≡ Err f → after d call ≡ d
refused_stays d call f e = after_either (λ p. p ≡ d) d call refl (λ n. let a = answer_accepted d call n in cc)

-- ── Close after open ──

-- What an accepted open says of its client.
pub record MayOpen (c : ℕ) (d : Desk) : Type 0 where
  pub client : no_client c ≡ None
  pub unopened : pixels_of c d.layers ≡ None

pub may_open : (d : Desk) (c : ℕ) (x y : ℤ) (w h : ℕ) → fault_of d (open_layer c x y w h) ≡ None → MayOpen c d
may_open d c x y w h e =
    let p = passed_first (no_client c) _ e in
    let q = passed_first (already_open c d) _ p.1 in
    record { client = p.0; unopened = not_some (pixels_of c d.layers) (passed_test _ _ q.0) }

closes : (d : Desk) (c : ℕ) (l : Layer) → l.client ≡ c → MayOpen c d → after (with_layers d (d.layers ++ (l ∷ []))) (close_layer c) ≡ d
closes d c l e m =
    let own : eqb l.client c ≡ true = eq-eqb l.client c e in
    let e₁ : pixels_of c (d.layers ++ (l ∷ [])) ≡ Some l.pixels =
    pixels-++ c d.layers (l ∷ []) ∙ ap₂ (λ o t. or_else o (cond t (Some l.pixels) None)) m.unopened own in
    after_accepted (with_layers d (d.layers ++ (l ∷ []))) (close_layer c)
    (ap₂ (λ f o. first_fault (f ∷ refuse_if (not (is_some o)) (because NotOpen c) ∷ [])) m.client e₁)
    ∙ ap (with_layers d) (opened_closed c l d.layers (eq-eqb c l.client (sym e)) m.unopened)

open_close : (d : Desk) (c : ℕ) (x y : ℤ) (w h n : ℕ) → answer d (open_layer c x y w h) ≡ Ok n → after (after d (open_layer c x y w h)) (close_layer c) ≡ d
open_close d c x y w h n e =
    let f = no_fault d (open_layer c x y w h) n e in
    ap (λ p. after p (close_layer c)) (after_accepted d (open_layer c x y w h) f)
    ∙ closes d c (new_layer d.size.depth c x y w h) refl (may_open d c x y w h f)

-- ── Clients above 7 ──

abbrev Known : Desk → Type 0
Known d = (c : ℕ) → 7 < c → is_open c d ≡ false

known_after : (d : Desk) (call : Call) → Known d → Known (after d call)
known_after d call k c h = go (eqb (client_of call) c) refl
  where
    go : (b : Bool) → eqb (client_of call) c ≡ b → is_open c (after d call) ≡ false
    go true e =
        let same : client_of call ≡ c = eqb-true (client_of call) c e in
        ap (is_open c) (above_seven d call (lt-ltb 7 (client_of call) (omega arith))) ∙ k c h
    go false e = ap is_some (other_stays c d call e) ∙ k c h

-- ── One layer for a client ──

abbrev Single : Desk → Type 0
Single d = (k : ℕ) → layers_of k d.layers ≤ 1

single_open : (d : Desk) (c : ℕ) (l : Layer) → l.client ≡ c → pixels_of c d.layers ≡ None → Single d → Single (with_layers d (d.layers ++ (l ∷ [])))
single_open d c l e n s k = rw (layers-++ k d.layers (l ∷ [])) (go (eqb k l.client) refl)
  where
    go : (t : Bool) → eqb k l.client ≡ t → layers_of k d.layers + length (cond t (l ∷ []) []) ≤ 1
    go true q =
        let same : c ≡ k = sym (eqb-true k l.client q ∙ e) in
        let zero_of : layers_of k d.layers ≡ 0 = subst (λ a. layers_of a d.layers ≡ 0) same (ap length (none_only c d.layers n)) in
        omega arith
    go false q = omega (arith, s k)

single_alter : (d : Desk) (c : ℕ) (f : Layer → Layer) → ((l : Layer) → (f l).client ≡ l.client) → Single d → Single (with_layers d (alter c f d.layers))
single_alter d c f h s k = rw (layers_alter k c f h d.layers) (s k)

single_change : (d : Desk) (call : Call) → fault_of d call ≡ None → Single d → Single (change d call)
single_change d (open_layer c x y w h) f s k = single_open d c (new_layer d.size.depth c x y w h) refl (may_open d c x y w h f).unopened s k
single_change d (close_layer c) f s k = omega (arith, layers_split k (λ n. eqb c n) d.layers, s k)
single_change d (raise_layer c) f s k = omega (arith, layers-++ k (without c d.layers) (only c d.layers), layers_split k (λ n. eqb c n) d.layers, s k)
single_change d (lower_layer c) f s k = omega (arith, layers-++ k (only c d.layers) (without c d.layers), layers_split k (λ n. eqb c n) d.layers, s k)
single_change d (move_layer c x y) f s k = single_alter d c (at_corner x y) (λ l. refl) s k
single_change d (fill_layer c rule v x y w h) f s k = single_alter d c (with_pixels _) (λ l. refl) s k
single_change d (scroll_layer c t) f s k = single_alter d c (with_pixels _) (λ l. refl) s k
single_change d (stamp_layer c t source) f s k = single_alter d c (with_pixels _) (λ l. refl) s k
single_change d (read_layer c x y) f s k = s k

-- A client that has at most one layer has at most one after every call.
pub single_after : (d : Desk) (call : Call) → Single d → Single (after d call)
single_after d call s = after_either Single d call s (λ f. single_change d call f s)

-- ── Slots ──

abbrev Enough : Desk → Type 0
Enough d = hidden_count d ≤ d.slots

-- the check for slots, the last of those of an open, a raise, a lower or a move
enough_if : (also : ℕ → Bool) (d : Desk) (call : Call) → first_fault (too_few_slots also d call ∷ []) ≡ None → hidden_count (change d call) ≤ d.slots
enough_if also d call e =
    omega (arith, hidden_needed also d (change d call), ltb-false d.slots (slots_needed also d (change d call)) (passed_test _ _ (passed_first _ [] e).0))

-- what is painted in its own size hides no more
painted_enough : (c : ℕ) (p : Picture) (d : Desk) → sizes p ≡ sizes (pane c d) → Enough d → Enough (repaint c p d)
painted_enough c p d e s = omega (arith, repaint_hidden c p d e)

blt_sizes : (t : Transfer) (s : Source) (p : Picture) → sizes (blt t s p) ≡ sizes p
unfolding blt
blt_sizes t s p = painted_sizes p _ _

enough_change : (d : Desk) (call : Call) → fault_of d call ≡ None → Enough d → hidden_count (change d call) ≤ d.slots
enough_change d (open_layer c x y w h) f s =
    let e₁ = passed_first (no_client c) _ f in
    let e₂ = passed_first (already_open c d) _ e₁.1 in
    enough_if (λ _. false) d (open_layer c x y w h) (passed_first (beyond_size c w h) _ e₂.1).1
enough_change d (close_layer c) f s = omega (arith, hidden_keep (λ k. not (eqb c k)) d)
enough_change d (raise_layer c) f s = enough_if (λ _. false) d (raise_layer c) (passed_first (not_open c d) _ (passed_first (no_client c) _ f).1).1
enough_change d (lower_layer c) f s = enough_if (λ _. false) d (lower_layer c) (passed_first (not_open c d) _ (passed_first (no_client c) _ f).1).1
enough_change d (move_layer c x y) f s = enough_if (eqb c) d (move_layer c x y) (passed_first (not_open c d) _ (passed_first (no_client c) _ f).1).1
enough_change d (fill_layer c rule v x y w h) f s = painted_enough c _ d (blt_sizes _ _ (pane c d)) s
enough_change d (scroll_layer c t) f s = painted_enough c _ d (blt_sizes _ _ (pane c d)) s
enough_change d (stamp_layer c t source) f s = painted_enough c _ d (blt_sizes _ _ (pane c d)) s
enough_change d (read_layer c x y) f s = s

-- If the hidden patches are at most the slots, so are they after every call.
pub enough_after : (d : Desk) (call : Call) → Enough d → Enough (after d call)
enough_after d call s =
    let kept : hidden_count (after d call) ≤ d.slots = after_either (λ e. hidden_count e ≤ d.slots) d call s (λ f. enough_change d call f s) in
    omega (arith, slots_stay d call)

run_enough : (size : Size) (slots : ℕ) (steps : List Step) → Run (new_state size slots) steps → (end_of (new_state size slots) steps).used ≤ slots
unfolding hidden_count
run_enough size slots steps r =
    let kept : Enough (end_of (new_state size slots) steps).paper = run_keeps Enough enough_after r (omega arith) in
    let same : (end_of (new_state size slots) steps).paper.slots ≡ slots = run_keeps (λ d. d.slots ≡ slots) (λ d call e. slots_stay d call ∙ e) r refl in
    omega (arith, (run_shows size slots steps r).used)

-- ── The laws ──

pub desk_laws_lem : DeskLaws
desk_laws_lem = record {
  refused_stays = refused_stays;
  clear_shows = clear_shows;
  shown_clear = shown_clear;
  visible_shows = visible_shows;
  raise_twice = λ d c. ap (with_layers d) (raised_raised c d.layers);
  raise_lower = λ d c. ap (with_layers d) (raised_lowered c d.layers);
  there_and_back = λ d c x y a b e. ap (with_layers d) (placed_back c x y a b d.layers e);
  open_close = open_close;
  covered_shows = covered_shows;
  uncovered_clears = uncovered_clears;
  untouched_stays = untouched_stays;
  outside_stays = outside_stays;
  known_clients = λ size slots steps r. run_keeps Known known_after r (λ c h. refl);
  one_layer = λ size slots steps r. run_keeps Single single_after r (λ k. omega arith);
  enough_slots = run_enough;
}
