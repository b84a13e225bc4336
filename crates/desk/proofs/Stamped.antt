-- Stamping on a layer: from the pictures of screen and store to the desk on paper.
use Rattle.std.proofs.Common.{◌≡◌, ℕ, true, false, ltb, List, [], ◌∷◌, Some, None, Ok, Option, Result, sym, refl, ap, ◌∙◌, subst}
use Rattle.std.proofs.lemmas.Option.{none-some}
use Rattle.raster.specs.Picture.{Picture, sizes}
use Rattle.raster.specs.Blt.{from_picture, count, blt}
use Rattle.raster.specs.declared.transfer.Transfer.{Transfer}
use Rattle.raster.specs.Calls.{unless, first_fault, refuse_if}
use Rattle.raster.specs.Clip.{Clipped}
use Rattle.raster.specs.declared.refusal.Refusal.TheVariants.{RuleAboveFifteen, ValueTooLarge}
use Rattle.raster.specs.declared.rule.Rule.{Rule}
use Rattle.raster.specs.declared.size.Size.{Size}
use Rattle.raster.specs.declared.span.Span.{Span}
use Rattle.paper.specs.declared.DeskFault.{DeskFault}
use Rattle.paper.specs.Layers as paper
use Rattle.paper.specs.Layers.{is_open, pane}
use Rattle.paper.specs.Desk.{because, no_client, not_open, no_rule, stamp_layer}
use Rattle.paper.specs.Run.{Does}
use Rattle.hold.specs.Held.{Drawn, layer_held}
use Rattle.draw.specs.Stamps.{Stamps}
use Rattle.desk.specs.declared.book.Book.{Book}
use Rattle.desk.specs.Carried.{stamp_checks}
use Rattle.desk.specs.Desks.{made_for, on_pictures, state_on}
use Rattle.desk.proofs.Answered.{check_rest}
use Rattle.desk.proofs.Checks.{one_check, passed_open}
use Rattle.desk.proofs.Drawn.{drawn_does}
use Rattle.desk.proofs.Fits.{paper_fits, paper_size, open_listed, open_pane}

first_two : {F : Type 0} (a b : Option F) (rest : List (Option F)) → first_fault (a ∷ b ∷ rest) ≡ None → first_fault (a ∷ b ∷ []) ≡ None
first_two (Some x) b rest e = absurd (none-some _ (sym e))
first_two None (Some y) rest e = absurd (none-some _ (sym e))
first_two None None rest e = refl

module _ (screen store : Picture) (b : Book) (c : ℕ) where
  -- the last check, after the others passed
  pub stamp_last : ◌≡◌ {A = Result (Unit {0}) DeskFault} (Ok tt) (unless (first_fault (no_client c ∷ not_open c (on_pictures screen store b) ∷ [])) tt)
      → (rule depth : ℕ) → ltb 15 rule ≡ false → first_fault (stamp_checks c (on_pictures screen store b) rule depth) ≡ refuse_if (ltb screen.depth depth) (because ValueTooLarge c)
  stamp_last ok rule depth low =
      let deep = refuse_if (ltb (on_pictures screen store b).size.depth depth) (because ValueTooLarge c) in
      check_rest screen store b c ok (no_rule c rule ∷ deep ∷ [])
      ∙ ap (λ t. first_fault (refuse_if t (because RuleAboveFifteen c) ∷ deep ∷ [])) low ∙ one_check deep
      ∙ ap (λ (z : Size). refuse_if (ltb z.depth depth) (because ValueTooLarge c)) (paper_size screen store b)

  module _ (t : Transfer) (source : Picture) (ok : first_fault (stamp_checks c (on_pictures screen store b) t.rule source.depth) ≡ None) where
    opened : is_open c (on_pictures screen store b) ≡ true
    opened = passed_open c (on_pictures screen store b) (first_two (no_client c) (not_open c (on_pictures screen store b)) _ ok)

    pub stamp_fits : made_for screen store b ≡ true
    stamp_fits = (open_listed screen store b c opened).0

    pub stamp_clipped : (from pane_size : Size) (rule : Rule) (columns rows : Span) → from ≡ sizes source → pane_size ≡ sizes (pane c (on_pictures screen store b)) → rule.number ≡ t.rule
        → Clipped t.sx t.dx t.w from.width pane_size.width columns → Clipped t.sy t.dy t.h from.height pane_size.height rows
        → Stamps b.plan c t (sizes source) rule columns rows
    stamp_clipped from size rule columns rows ef ep er cc cr =
        let is = ep ∙ ap sizes (open_pane screen store b c opened) in
        record {
          opened = (open_listed screen store b c opened).1;
          by = er;
          across = subst (λ (z : Size). Clipped t.sx t.dx t.w (sizes source).width z.width columns) is (subst (λ (z : Size). Clipped t.sx t.dx t.w z.width size.width columns) ef cc);
          down = subst (λ (z : Size). Clipped t.sy t.dy t.h (sizes source).height z.height rows) is (subst (λ (z : Size). Clipped t.sy t.dy t.h z.height size.height rows) ef cr);
        }

    pub stamp_does : (screen' store' : Picture)
        → Drawn b.plan b.slots screen store screen' store' c (blt t (from_picture source) (layer_held screen store b.plan b.slots c))
        → (n : ℕ) → n ≡ count t (from_picture source) (sizes (layer_held screen store b.plan b.slots c))
        → Does (state_on screen store b) (stamp_layer c t source) (Ok n) (state_on screen' store' b)
    stamp_does screen' store' drawn n e =
        let same : layer_held screen store b.plan b.slots c ≡ pane c (on_pictures screen store b) = ap (pane c) (sym (paper_fits screen store b stamp_fits)) in
        drawn_does screen store screen' store' b c _ stamp_fits drawn (stamp_layer c t source) n ok
        (ap (λ (p : Picture). paper.with_layers (on_pictures screen store b) (paper.alter c (paper.with_pixels (blt t (from_picture source) p)) (on_pictures screen store b).layers)) (sym same))
        (e ∙ ap (λ (p : Picture). count t (from_picture source) (sizes p)) same)
