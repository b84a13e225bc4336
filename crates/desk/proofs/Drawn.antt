-- Drawing on a layer: from the pictures of screen and store to the desk on paper.
use Rattle.std.proofs.Common.{◌≡◌, ℕ, ◌*◌, true, ◌&&◌, eqb, [], ◌∷◌, Some, None, Ok, Err, Result, sym, refl, ap, ◌∙◌, subst}
use Rattle.raster.specs.Picture.{Picture, sizes}
use Rattle.raster.specs.Calls.{BitmapCall, unless, first_fault, bitmap_fault, bitmap_value, bitmap_change}
use Rattle.raster.specs.Blits.{Below, performed, Performs}
use Rattle.raster.specs.declared.blit.Blit.{Blit}
use Rattle.raster.specs.declared.fault.Fault.{Fault}
use Rattle.raster.specs.declared.size.Size.{Size}
use Rattle.paper.specs.declared.DeskFault.{DeskFault}
use Rattle.paper.specs.Layers as paper
use Rattle.paper.specs.Layers.{is_open, pane, screen_after}
use Rattle.paper.specs.Slots.{slots_of}
use Rattle.paper.specs.Desk.{Call, no_client, not_open, carried, own_bitmap, repaint, change, accepted_value, fault_of}
use Rattle.paper.specs.Run.{Becomes, Does}
use Rattle.paper.proofs.Draws.{SameDrawing, fills, scrolls}
use Rattle.paper.proofs.View.{answer_accepted, after_accepted}
use Rattle.hold.specs.Held.{Drawn, layer_held, paper_of}
use Rattle.draw.specs.Areas.{BlitWithin}
use Rattle.desk.specs.declared.book.Book.{Book}
use Rattle.desk.specs.Carried.{own_fault}
use Rattle.desk.specs.Desks.{same_size, made_for, on_pictures, state_on}
use Rattle.desk.proofs.Fits.{paper_fits, open_listed, open_pane}
use Rattle.desk.proofs.Counted.{used_is}
use Rattle.desk.proofs.Idle.{refused_does}
use Rattle.desk.proofs.Answered.{check_refused, check_open, own_check}

-- a book fits by sizes alone
pub made_same : (screen store screen' store' : Picture) (b : Book) → sizes screen' ≡ sizes screen → sizes store' ≡ sizes store → made_for screen' store' b ≡ made_for screen store b
made_same screen store screen' store' b es et =
    ap (λ (z : Size). same_size b.plan.screen z && eqb b.slots.places (slots_of (sizes store') z.depth)) es
    ∙ ap (λ (z : Size). same_size b.plan.screen (sizes screen) && eqb b.slots.places (slots_of z screen.depth)) et

module _ (screen store screen' store' : Picture) (b : Book) (c : ℕ) (q : Picture) (fits : made_for screen store b ≡ true)
    (drawn : Drawn b.plan b.slots screen store screen' store' c q) where
  paper_after : on_pictures screen' store' b ≡ repaint c q (on_pictures screen store b)
  paper_after =
      paper_fits screen' store' b (made_same screen store screen' store' b drawn.screen_size drawn.store_size ∙ fits)
      ∙ drawn.paper ∙ ap (repaint c q) (sym (paper_fits screen store b fits))

  drawn_becomes : Becomes (state_on screen store b) (repaint c q (on_pictures screen store b)) (state_on screen' store' b)
  drawn_becomes =
      record {
        paper = paper_after;
        screen = drawn.shows ∙ ap (λ (d : paper.Desk). screen_after screen d (paper_of screen' store' b.plan b.slots)) (sym (paper_fits screen store b fits))
            ∙ ap (screen_after screen (on_pictures screen store b)) (sym (paper_fits screen' store' b (made_same screen store screen' store' b drawn.screen_size drawn.store_size ∙ fits)));
        used = used_is screen' store' b;
      }

  -- an accepted drawing call
  pub drawn_does : (k : Call) (n : ℕ) → fault_of (on_pictures screen store b) k ≡ None → change (on_pictures screen store b) k ≡ repaint c q (on_pictures screen store b)
      → n ≡ accepted_value (on_pictures screen store b) k → Does (state_on screen store b) k (Ok n) (state_on screen' store' b)
  drawn_does k n ok e v =
      let d = on_pictures screen store b in
      record {
        answers = ap Ok v ∙ sym (answer_accepted d k ok);
        leaves = subst (λ (z : paper.Desk). Becomes (state_on screen store b) z (state_on screen' store' b)) (sym (after_accepted d k ok ∙ e)) drawn_becomes;
      }

module _ (screen store : Picture) (b : Book) (c : ℕ) where
  -- the faults of a fill or a scroll
  drawing_checks : {k : Call} {call : BitmapCall} → SameDrawing c k call
      → fault_of (on_pictures screen store b) k ≡ first_fault (no_client c ∷ not_open c (on_pictures screen store b) ∷ own_bitmap c (on_pictures screen store b) call ∷ [])
  drawing_checks fills = refl
  drawing_checks scrolls = refl

  pub drawing_shut : (k : Call) (call : BitmapCall) → SameDrawing c k call → (f : DeskFault)
      → ◌≡◌ {A = Result (Unit {0}) DeskFault} (Err f) (unless (first_fault (no_client c ∷ not_open c (on_pictures screen store b) ∷ [])) tt)
      → Does (state_on screen store b) k (Err f) (state_on screen store b)
  drawing_shut k call s f e =
      refused_does screen store b k f (drawing_checks s ∙ check_refused screen store b c (own_bitmap c (on_pictures screen store b) call ∷ []) f e)

  module _ (ok : ◌≡◌ {A = Result (Unit {0}) DeskFault} (Ok tt) (unless (first_fault (no_client c ∷ not_open c (on_pictures screen store b) ∷ [])) tt)) where
    drawing_fault : {k : Call} {call : BitmapCall} → SameDrawing c k call → fault_of (on_pictures screen store b) k ≡ carried c (bitmap_fault (sizes (pane c (on_pictures screen store b))) call)
    drawing_fault {call = call} s = drawing_checks s ∙ own_check screen store b c ok call

    pub drawing_refused : (k : Call) (call : BitmapCall) → SameDrawing c k call → (f : Fault) → bitmap_fault (sizes (pane c (on_pictures screen store b))) call ≡ Some f
        → Does (state_on screen store b) k (Err (own_fault c f)) (state_on screen store b)
    drawing_refused k call s f e = refused_does screen store b k (own_fault c f) (drawing_fault s ∙ ap (carried c) e)

    -- the blit lies in the layer
    pub blit_within : (call : BitmapCall) (blit : Blit) → Performs (sizes (pane c (on_pictures screen store b))) call blit → BlitWithin b.plan c blit
    blit_within call blit p =
        let o = check_open screen store b c ok in
        let is = open_pane screen store b c o in
        record {
          opened = (open_listed screen store b c o).1;
          columns = subst (λ (z : Picture). Below z.width blit.columns) is p.columns;
          rows = subst (λ (z : Picture). Below z.height blit.rows) is p.rows;
        }

    pub drawing_fits : made_for screen store b ≡ true
    drawing_fits = (open_listed screen store b c (check_open screen store b c ok)).0

    drawing_change : {k : Call} {call : BitmapCall} → SameDrawing c k call → change (on_pictures screen store b) k ≡ repaint c (bitmap_change (pane c (on_pictures screen store b)) call) (on_pictures screen store b)
    drawing_change fills = refl
    drawing_change scrolls = refl

    drawing_value : {k : Call} {call : BitmapCall} → SameDrawing c k call → accepted_value (on_pictures screen store b) k ≡ bitmap_value (pane c (on_pictures screen store b)) call
    drawing_value fills = refl
    drawing_value scrolls = refl

    pub drawing_does : (screen' store' : Picture) (k : Call) (call : BitmapCall) → SameDrawing c k call → (blit : Blit) → Performs (sizes (pane c (on_pictures screen store b))) call blit
        → Drawn b.plan b.slots screen store screen' store' c (performed blit (layer_held screen store b.plan b.slots c))
        → (n : ℕ) → n ≡ blit.rows.len * blit.columns.len → Does (state_on screen store b) k (Ok n) (state_on screen' store' b)
    drawing_does screen' store' k call s blit p drawn n e =
        let d = on_pictures screen store b in
        let same : performed blit (layer_held screen store b.plan b.slots c) ≡ bitmap_change (pane c d) call =
        ap (λ (z : paper.Desk). performed blit (pane c z)) (sym (paper_fits screen store b drawing_fits)) ∙ p.leaves (pane c d) refl in
        drawn_does screen store screen' store' b c _ drawing_fits drawn k n (drawing_fault s ∙ ap (carried c) p.accepted)
        (drawing_change s ∙ ap (λ (z : Picture). repaint c z d) (sym same)) (e ∙ p.counts (pane c d) refl ∙ sym (drawing_value s))
