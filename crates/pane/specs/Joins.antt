-- What drawing on a pane leaves, taken together: nothing drawn, and one thing drawn after another.
-- Lemmas: proved, not to be believed. They stand here since the laws in the impl of Bitmap cite them.
use Rattle.std.specs.Prelude.{◌≡◌, ℤ, refl}
use Rattle.std.proofs.Common.{sym, ap, ◌∙◌, subst}
use Rattle.std.proofs.lemmas.Bool.{or_left}
use Rattle.raster.specs.Picture.{Picture}
use Rattle.raster.specs.declared.bitmap.Bitmap.{Ghosts}
use Rattle.paper.specs.Layers as paper
use Rattle.paper.specs.Layers.{covered, screen_after}
use Rattle.paper.specs.Desk.{repaint}
use Rattle.paper.specs.Run.{Becomes}
use Rattle.paper.proofs.Outline.{repaint_covered}
use Rattle.paper.proofs.Pane.{repaint_own, repaint_again}
use Rattle.paper.proofs.Screen.{screen_joins}
use Rattle.desk.specs.Desks.{on_paper, state_of}
use Rattle.desk.proofs.Idle.{idle}
use Rattle.pane.specs.declared.pane.Pane.{Pane}
use Rattle.pane.specs.Panes.{picture_of, PaneKept}

module _ {S T : Type 0} (s : Ghosts S) (t : Ghosts T) where
  -- nothing is drawn
  pub pane_same : ((a : S) → s.keeps a a) → ((a : T) → t.keeps a a) → (p : Pane S T) → PaneKept s t p p
  pane_same ss ts p =
      record {
        client = refl;
        size = refl;
        leaves = subst (λ (e : paper.Desk). Becomes (state_of s t p.desk) e (state_of s t p.desk)) (sym (repaint_own p.client (on_paper s t p.desk)))
            (idle (s.picture p.desk.screen) (t.picture p.desk.store) p.desk.book);
        rest = record { screen = ss p.desk.screen; store = ts p.desk.store };
      }

  -- first one thing is drawn, then another
  pub pane_joins : ((a b c : S) → s.keeps a b → s.keeps b c → s.keeps a c) → ((a b c : T) → t.keeps a b → t.keeps b c → t.keeps a c)
      → (p q r : Pane S T) → PaneKept s t p q → PaneKept s t q r → PaneKept s t p r
  pane_joins ss ts p q r a b =
      let c = p.client in
      let d = on_paper s t p.desk in
      let e = on_paper s t q.desk in
      let f = on_paper s t r.desk in
      record {
        client = b.client ∙ a.client;
        size = b.size ∙ a.size;
        leaves =
            record {
              paper = b.leaves.paper ∙ ap (λ k. repaint k (picture_of s t r) e) a.client ∙ ap (repaint c (picture_of s t r)) a.leaves.paper
                  ∙ repaint_again c (picture_of s t q) (picture_of s t r) d;
              screen = b.leaves.screen ∙ ap (λ (z : Picture). screen_after z e f) a.leaves.screen
                  ∙ screen_joins (s.picture p.desk.screen) d e f (λ x y h. or_left (covered d.layers x y) _ (sym (between x y) ∙ h));
              used = b.leaves.used;
            };
        rest = record { screen = ss _ _ _ a.rest.screen b.rest.screen; store = ts _ _ _ a.rest.store b.rest.store };
      }
    where
      between : (x y : ℤ) → covered (on_paper s t q.desk).layers x y ≡ covered (on_paper s t p.desk).layers x y
      between x y = ap (λ (z : paper.Desk). covered z.layers x y) a.leaves.paper ∙ repaint_covered p.client (picture_of s t q) (on_paper s t p.desk) a.size x y
