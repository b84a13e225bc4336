-- What drawing on a pane leaves.
use Rattle.std.proofs.Common.{◌≡◌, ℕ, Result, sym, refl, ap, ◌∙◌, subst}
use Rattle.std.specs.Result.{IsErrAnd}
use Rattle.raster.specs.Picture.{sizes}
use Rattle.raster.specs.Calls.{BitmapCall, bitmap_after, Called}
use Rattle.raster.specs.declared.fault.Fault.{Fault}
use Rattle.raster.specs.declared.bitmap.Bitmap.{Ghosts}
use Rattle.raster.proofs.Called.{Refused, call_refused}
use Rattle.raster.proofs.Lawful.{bitmap_laws_lem}
use Rattle.paper.specs.Layers as paper
use Rattle.paper.specs.Layers.{covered, pane, screen_after}
use Rattle.paper.specs.Desk.{Call, Answer, after, repaint}
use Rattle.paper.specs.Run.{Becomes, Does}
use Rattle.paper.proofs.Draws.{SameDrawing, pane_draws}
use Rattle.desk.specs.declared.desk.Desk.{Desk}
use Rattle.desk.specs.Desks.{on_paper, state_of, Keeps}
use Rattle.pane.specs.declared.pane.Pane.{Pane}
use Rattle.pane.specs.Panes.{picture_of, PaneKept}
use Rattle.pane.specs.Joins.{pane_same}
use Rattle.pane.proofs.Drawings.{drawing_repaints, shut_above}

module _ {S T : Type 0} (s : Ghosts S) (t : Ghosts T) where
  -- the pane on the desk that a call leaves
  abbrev pub on_desk : Pane S T → Desk S T → Pane S T
  on_desk p d = record { desk = d; client = p.client }

  -- a refused call leaves the pane as it was
  pub pane_refused : ((a : S) → s.keeps a a) → ((a : T) → t.keeps a a) → (p : Pane S T) (call : BitmapCall) (r : Result ℕ Fault) (f : Fault) → IsErrAnd r (λ e. e ≡ f)
      → Refused (picture_of s t p) call f → Called (picture_of s t) (PaneKept s t) p call r p
  pane_refused ss ts p call r f h q = call_refused (picture_of s t) (PaneKept s t) p (pane_same s t ss ts p) call r f h q

  -- a drawing on the desk is one on the pane
  module _ (p : Pane S T) (d : Desk S T) {k : Call} {call : BitmapCall} {got : Answer} (same : SameDrawing p.client k call)
      (does : Does (state_of s t p.desk) k got (state_of s t d)) where
    pub pane_drawn : picture_of s t (on_desk p d) ≡ bitmap_after (picture_of s t p) call
    pane_drawn =
        ap (pane p.client) does.leaves.paper
        ∙ pane_draws (on_paper s t p.desk) p.client (shut_above (s.picture p.desk.screen) (t.picture p.desk.store) p.desk.book p.client) same

    repainted : after (on_paper s t p.desk) k ≡ repaint p.client (picture_of s t (on_desk p d)) (on_paper s t p.desk)
    repainted =
        drawing_repaints (on_paper s t p.desk) p.client same
        ∙ ap (λ (e : paper.Desk). repaint p.client (pane p.client e) (on_paper s t p.desk)) (sym does.leaves.paper)

    pub pane_kept : Keeps s t p.desk d → PaneKept s t p (on_desk p d)
    pane_kept rest =
        record {
          client = refl;
          size = ap sizes pane_drawn ∙ bitmap_laws_lem.size_stays (picture_of s t p) call;
          leaves = subst (λ (e : paper.Desk). Becomes (state_of s t p.desk) e (state_of s t d)) repainted does.leaves;
          rest = rest;
        }
