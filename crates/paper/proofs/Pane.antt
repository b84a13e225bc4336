-- The host's pane: no call to the outer desk alters it, and what is painted on it stands.
use Rattle.std.proofs.Common.{◌≡◌, ℕ, Bool, true, false, cond, ◌&&◌, eqb, ltb, leb, List, [], ◌∷◌, Some, None, Option, sym, refl, ap, ◌∙◌, subst, ap₂, true≢false, arith}
use Rattle.std.proofs.lemmas.Bool.{eqb-true, and_parts}
use Rattle.std.proofs.lemmas.Bool.Decides.{nat_tests}
use Rattle.raster.specs.Picture.{Picture}
use Rattle.raster.specs.Calls.{first_fault}
use Rattle.raster.specs.declared.refusal.Refusal.TheVariants.{ClientAboveSeven}
use Rattle.paper.specs.declared.DeskFault.{DeskFault}
use Rattle.paper.specs.Layers.{Desk, Layer, or_blank, pixels_of, pane, alter, with_pixels, with_layers, screen_after}
use Rattle.paper.specs.Desk.{Call, open_layer, close_layer, raise_layer, lower_layer, move_layer, fill_layer, scroll_layer, stamp_layer, read_layer, client_of, repaint, because, fault_of, after}
use Rattle.paper.specs.House.{draws, refused_for_host, outer_after}
use Rattle.paper.proofs.Layers.{repainted, paint_same}
use Rattle.paper.proofs.View.{after_refused, next_is, other_stays, size_stays}
use Rattle.paper.proofs.Screen.{empty_screen}

-- ── A call to the outer desk ──

-- a call refused for the host names the host
pub names_host : (host : ℕ) (call : Call) → refused_for_host host call ≡ true → client_of call ≡ host
names_host host call h =
    eqb-true (client_of call) host
    (and_parts (eqb (client_of call) host) (draws call) (and_parts (leb (client_of call) 7) (eqb (client_of call) host && draws call) h).1).0

pub outer_size : (host : ℕ) (d : Desk) (call : Call) → (outer_after host d call).size ≡ d.size
unfolding outer_after
outer_size host d call = go (refused_for_host host call)
  where
    go : (b : Bool) → (cond b d (after d call)).size ≡ d.size
    go true = refl
    go false = size_stays d call

first_fails : (b : Bool) (f : DeskFault) (more : List (Option DeskFault)) → b ≡ true → first_fault (cond b (Some f) None ∷ more) ≡ Some f
first_fails b f more e = ap (λ x. first_fault (cond x (Some f) None ∷ more)) e

fault_above : (d : Desk) (call : Call) → ltb 7 (client_of call) ≡ true → fault_of d call ≡ Some (because ClientAboveSeven (client_of call))
fault_above d (open_layer c x y w h) e = first_fails (ltb 7 c) _ _ e
fault_above d (close_layer c) e = first_fails (ltb 7 c) _ _ e
fault_above d (raise_layer c) e = first_fails (ltb 7 c) _ _ e
fault_above d (lower_layer c) e = first_fails (ltb 7 c) _ _ e
fault_above d (move_layer c x y) e = first_fails (ltb 7 c) _ _ e
fault_above d (fill_layer c rule v x y w h) e = first_fails (ltb 7 c) _ _ e
fault_above d (scroll_layer c t) e = first_fails (ltb 7 c) _ _ e
fault_above d (stamp_layer c t source) e = first_fails (ltb 7 c) _ _ e
fault_above d (read_layer c x y) e = first_fails (ltb 7 c) _ _ e

-- A call of a client above 7 changes nothing.
pub above_seven : (d : Desk) (call : Call) → ltb 7 (client_of call) ≡ true → after d call ≡ d
above_seven d call h = after_refused d call _ (fault_above d call h)

-- a raise, a lower, a move and a read leave the client's own pixels
looks_only : (d : Desk) (call : Call) → draws call ≡ false → pixels_of (client_of call) (after d call).layers ≡ pixels_of (client_of call) d.layers
looks_only d (open_layer c x y w h) e = absurd (true≢false e)
looks_only d (close_layer c) e = absurd (true≢false e)
looks_only d (raise_layer c) e = next_is d (raise_layer c)
looks_only d (lower_layer c) e = next_is d (lower_layer c)
looks_only d (move_layer c x y) e = next_is d (move_layer c x y)
looks_only d (fill_layer c rule v x y w h) e = absurd (true≢false e)
looks_only d (scroll_layer c t) e = absurd (true≢false e)
looks_only d (stamp_layer c t source) e = absurd (true≢false e)
looks_only d (read_layer c x y) e = next_is d (read_layer c x y)

above_if : (k host : ℕ) (b : Bool) → (leb k 7 && (eqb k host && b)) ≡ false → eqb k host ≡ true → b ≡ true → ltb 7 k ≡ true
above_if k host b n e t = grind (arith, nat_tests)

-- A call to the outer desk leaves the host's pixels.
host_stays : (host : ℕ) (d : Desk) (call : Call) → pixels_of host (outer_after host d call).layers ≡ pixels_of host d.layers
unfolding outer_after
host_stays host d call = go (refused_for_host host call) refl
  where
    own_case : (b : Bool) → draws call ≡ b → refused_for_host host call ≡ false → eqb (client_of call) host ≡ true → pixels_of host (after d call).layers ≡ pixels_of host d.layers
    own_case true f n e = ap (λ p. pixels_of host p.layers) (above_seven d call (above_if (client_of call) host (draws call) n e f))
    own_case false f n e =
        let same : client_of call ≡ host = eqb-true (client_of call) host e in
        subst (λ k. pixels_of k (after d call).layers ≡ pixels_of k d.layers) same (looks_only d call f)

    by_client : (b : Bool) → eqb (client_of call) host ≡ b → refused_for_host host call ≡ false → pixels_of host (after d call).layers ≡ pixels_of host d.layers
    by_client true e n = own_case (draws call) refl n e
    by_client false e n = other_stays host d call e

    go : (b : Bool) → refused_for_host host call ≡ b → pixels_of host (cond b d (after d call)).layers ≡ pixels_of host d.layers
    go true e = refl
    go false e = by_client (eqb (client_of call) host) refl e

pub pane_stays : (host : ℕ) (d : Desk) (call : Call) → pane host (outer_after host d call) ≡ pane host d
pane_stays host d call = ap₂ (λ s o. or_blank s.depth o) (outer_size host d call) (host_stays host d call)

-- ── Painting on a pane ──

-- Of two paintings the later one stands.
paint_again : (c : ℕ) (p q : Picture) (ls : List Layer) → alter c (with_pixels q) (alter c (with_pixels p) ls) ≡ alter c (with_pixels q) ls
paint_again c p q [] = refl
paint_again c p q (l ∷ ls) = go (paint_again c p q ls) (eqb l.client c) refl
  where
    go : alter c (with_pixels q) (alter c (with_pixels p) ls) ≡ alter c (with_pixels q) ls → (b : Bool) → eqb l.client c ≡ b
        → alter c (with_pixels q) (cond b (with_pixels p l ∷ ls) (l ∷ alter c (with_pixels p) ls)) ≡ cond b (with_pixels q l ∷ ls) (l ∷ alter c (with_pixels q) ls)
    go ih true e = rw e refl
    go ih false e = rw e (ap (λ ms. l ∷ ms) ih)

pub repaint_again : (c : ℕ) (p q : Picture) (d : Desk) → repaint c q (repaint c p d) ≡ repaint c q d
repaint_again c p q d = ap (with_layers d) (paint_again c p q d.layers)

-- To paint a layer with its own pixels changes nothing.
paint_own : (c depth : ℕ) (ls : List Layer) → alter c (with_pixels (or_blank depth (pixels_of c ls))) ls ≡ ls
paint_own c depth [] = refl
paint_own c depth (l ∷ ls) = go (paint_own c depth ls) (eqb l.client c)
  where
    go : alter c (with_pixels (or_blank depth (pixels_of c ls))) ls ≡ ls → (b : Bool)
        → cond b (with_pixels (or_blank depth (cond b (Some l.pixels) (pixels_of c ls))) l ∷ ls) (l ∷ alter c (with_pixels (or_blank depth (cond b (Some l.pixels) (pixels_of c ls)))) ls) ≡ l ∷ ls
    go ih true = refl
    go ih false = ap (λ ms. l ∷ ms) ih

pub repaint_own : (c : ℕ) (d : Desk) → repaint c (pane c d) d ≡ d
repaint_own c d = ap (with_layers d) (paint_own c d.size.depth d.layers)

-- An open layer that was painted has those pixels.
pub repainted_pane : (c : ℕ) (p q : Picture) (d : Desk) → pixels_of c d.layers ≡ Some q → pane c (repaint c p d) ≡ p
repainted_pane c p q d e = ap (or_blank d.size.depth) (paint_same c p d.layers ∙ ap (λ o. repainted o p) e)

-- A pane that is painted with p has it; a client with no layer has only the empty pane, so p must be that.
pub painted_pane : (c : ℕ) (d : Desk) (p : Picture) → (pixels_of c d.layers ≡ None → p ≡ pane c d) → p ≡ pane c (repaint c p d)
painted_pane c d p h = go (pixels_of c d.layers) refl ∙ ap (or_blank d.size.depth) (sym (paint_same c p d.layers))
  where
    go : (o : Option Picture) → pixels_of c d.layers ≡ o → p ≡ or_blank d.size.depth (repainted o p)
    go (Some q) e = refl
    go None e = h e ∙ ap (or_blank d.size.depth) e

-- A desk whose screen is the pane leaves on it what its calls leave on the screen.
pub drawn_pane : (c : ℕ) (d e f : Desk) → screen_after (pane c d) e f ≡ pane c (repaint c (screen_after (pane c d) e f) d)
drawn_pane c d e f =
    painted_pane c d (screen_after (pane c d) e f) (λ n. empty_screen (pane c d) e f (ap (λ o. (or_blank d.size.depth o).width) n))
