-- Every layer's picture is 0 outside its size, and so is what a call leaves.
use Rattle.std.proofs.Common.{◌≡◌, ℕ, Bool, true, false, cond, eqb, List, [], ◌∷◌, ◌++◌, Some, refl}
use Rattle.raster.specs.Picture.{Picture}
use Rattle.raster.specs.Blt.{Source, blt}
use Rattle.raster.specs.declared.transfer.Transfer.{Transfer}
use Rattle.paper.specs.Layers.{Desk, Layer, or_blank, pixels_of, pane, keep, only, without, alter, with_pixels, at_corner}
use Rattle.paper.specs.Desk.{Call, open_layer, close_layer, raise_layer, lower_layer, move_layer, fill_layer, scroll_layer, stamp_layer, read_layer, repaint, change, after}
use Rattle.paper.specs.Run.{Alike, none, more, SameLayer}
use Rattle.paper.proofs.View.{after_either}
use Rattle.paper.proofs.Pictures.{Clean, blank_clean, blt_clean, same_is}

abbrev pub AllClean : List Layer → Type 0
AllClean [] = Unit {0}
AllClean (l ∷ ls) = Clean l.pixels × AllClean ls

-- Clean layers that agree are equal.
pub same_layers : {ls ms : List Layer} → Alike SameLayer ls ms → AllClean ls → AllClean ms → ls ≡ ms
same_layers none a b = refl
same_layers (more s ss) a b =
    λ i. record { client = s.client i; x = s.x i; y = s.y i; pixels = same_is s.pixels a.0 b.0 i } ∷ same_layers ss a.1 b.1 i

clean-++ : (ls ms : List Layer) → AllClean ls → AllClean ms → AllClean (ls ++ ms)
clean-++ [] ms a b = b
clean-++ (l ∷ ls) ms a b = (a.0, clean-++ ls ms a.1 b)

clean_keep : (t : ℕ → Bool) (ls : List Layer) → AllClean ls → AllClean (keep t ls)
clean_keep t [] a = tt
clean_keep t (l ∷ ls) a = go (clean_keep t ls a.1) (t l.client)
  where
    go : AllClean (keep t ls) → (b : Bool) → AllClean (cond b (l ∷ keep t ls) (keep t ls))
    go ih true = (a.0, ih)
    go ih false = ih

clean_alter : (c : ℕ) (f : Layer → Layer) → ((l : Layer) → Clean l.pixels → Clean (f l).pixels) → (ls : List Layer) → AllClean ls → AllClean (alter c f ls)
clean_alter c f h [] a = tt
clean_alter c f h (l ∷ ls) a = go (clean_alter c f h ls a.1) (eqb l.client c)
  where
    go : AllClean (alter c f ls) → (b : Bool) → AllClean (cond b (f l ∷ ls) (l ∷ alter c f ls))
    go ih true = (h l a.0, a.1)
    go ih false = (a.0, ih)

pub clean_repaint : (c : ℕ) (p : Picture) (d : Desk) → Clean p → AllClean d.layers → AllClean (repaint c p d).layers
clean_repaint c p d k a = clean_alter c (with_pixels p) (λ l _. k) d.layers a

clean_pane : (depth c : ℕ) (ls : List Layer) → AllClean ls → Clean (or_blank depth (pixels_of c ls))
clean_pane depth c [] a = blank_clean 0 0 depth
clean_pane depth c (l ∷ ls) a = go (clean_pane depth c ls a.1) (eqb l.client c)
  where
    go : Clean (or_blank depth (pixels_of c ls)) → (b : Bool) → Clean (or_blank depth (cond b (Some l.pixels) (pixels_of c ls)))
    go ih true = a.0
    go ih false = ih

clean_drawn : (c : ℕ) (d : Desk) (t : Transfer) (s : Source) → AllClean d.layers → AllClean (repaint c (blt t s (pane c d)) d).layers
clean_drawn c d t s a = clean_repaint c (blt t s (pane c d)) d (blt_clean t s (pane c d) (clean_pane d.size.depth c d.layers a)) a

clean_change : (d : Desk) (call : Call) → AllClean d.layers → AllClean (change d call).layers
clean_change d (open_layer c x y w h) a = clean-++ d.layers _ a (blank_clean w h d.size.depth, tt)
clean_change d (close_layer c) a = clean_keep _ d.layers a
clean_change d (raise_layer c) a = clean-++ (without c d.layers) (only c d.layers) (clean_keep _ d.layers a) (clean_keep _ d.layers a)
clean_change d (lower_layer c) a = clean-++ (only c d.layers) (without c d.layers) (clean_keep _ d.layers a) (clean_keep _ d.layers a)
clean_change d (move_layer c x y) a = clean_alter c (at_corner x y) (λ l k. k) d.layers a
clean_change d (fill_layer c rule v x y w h) a = clean_drawn c d _ _ a
clean_change d (scroll_layer c t) a = clean_drawn c d t _ a
clean_change d (stamp_layer c t source) a = clean_drawn c d t _ a
clean_change d (read_layer c x y) a = a

-- Every call leaves clean layers clean.
pub clean_after : (d : Desk) (call : Call) → AllClean d.layers → AllClean (after d call).layers
clean_after d call a = after_either (λ e. AllClean e.layers) d call a (λ _. clean_change d call a)
