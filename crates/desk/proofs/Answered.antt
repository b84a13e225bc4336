-- What a call to an open layer answers, from what its checks found.
use Rattle.std.proofs.Common.{◌≡◌, ℕ, ◌<◌, true, List, [], ◌∷◌, ℤ, nat_abs, Some, None, Ok, Err, Option, Result, sym, ap, ◌∙◌, subst}
use Rattle.std.proofs.lemmas.Bool.{cond-true, and_from, lt-ltb}
use Rattle.raster.specs.Picture.{Picture, sizes}
use Rattle.raster.specs.Calls.{BitmapCall, read_at, unless, first_fault, bitmap_fault}
use Rattle.raster.specs.declared.fault.Fault.{Fault}
use Rattle.raster.proofs.Accepts.{unless_ok, unless_err}
use Rattle.raster.proofs.Called.{read_found}
use Rattle.paper.specs.declared.DeskFault.{DeskFault}
use Rattle.paper.specs.Layers.{is_open, pane}
use Rattle.paper.specs.Desk.{read_layer, no_client, not_open, own_bitmap, carried, Answer, answer}
use Rattle.paper.proofs.View.{answer_accepted}
use Rattle.hold.specs.Held.{Fitting, OwnPixel, held}
use Rattle.plan.specs.Plans.{frame_in}
use Rattle.desk.specs.declared.book.Book.{Book}
use Rattle.desk.specs.Desks.{on_pictures}
use Rattle.desk.proofs.Checks.{first_refuse, first_pass, one_check, passed_open}
use Rattle.desk.proofs.Fits.{fitting, open_listed, open_pane}

module _ (screen store : Picture) (b : Book) (c : ℕ) where
  -- the client is above 7 or has no open layer
  pub check_refused : (rest : List (Option DeskFault)) (f : DeskFault)
      → ◌≡◌ {A = Result (Unit {0}) DeskFault} (Err f) (unless (first_fault (no_client c ∷ not_open c (on_pictures screen store b) ∷ [])) tt)
      → first_fault (no_client c ∷ not_open c (on_pictures screen store b) ∷ rest) ≡ Some f
  check_refused rest f e = first_refuse (no_client c ∷ not_open c (on_pictures screen store b) ∷ []) rest f (unless_err (first_fault (no_client c ∷ not_open c (on_pictures screen store b) ∷ [])) tt f e)

  -- the client has an open layer
  module _ (ok : ◌≡◌ {A = Result (Unit {0}) DeskFault} (Ok tt) (unless (first_fault (no_client c ∷ not_open c (on_pictures screen store b) ∷ [])) tt)) where
    passes : first_fault (no_client c ∷ not_open c (on_pictures screen store b) ∷ []) ≡ None
    passes = (unless_ok (first_fault (no_client c ∷ not_open c (on_pictures screen store b) ∷ [])) tt tt ok).0

    pub check_open : is_open c (on_pictures screen store b) ≡ true
    check_open = passed_open c (on_pictures screen store b) passes

    pub check_rest : (rest : List (Option DeskFault)) → first_fault (no_client c ∷ not_open c (on_pictures screen store b) ∷ rest) ≡ first_fault rest
    check_rest rest = first_pass (no_client c ∷ not_open c (on_pictures screen store b) ∷ []) rest passes

    -- the last check is that of the client's own bitmap
    pub own_check : (call : BitmapCall) → first_fault (no_client c ∷ not_open c (on_pictures screen store b) ∷ own_bitmap c (on_pictures screen store b) call ∷ [])
        ≡ carried c (bitmap_fault (sizes (pane c (on_pictures screen store b))) call)
    own_check call = check_rest (own_bitmap c (on_pictures screen store b) call ∷ []) ∙ one_check (own_bitmap c (on_pictures screen store b) call)

    pub own_pixel : (x y : ℤ) (u v r : ℕ)
        → ◌≡◌ {A = Result (ℕ × ℕ) Fault} (Ok (u, v)) (unless (bitmap_fault (sizes (pane c (on_pictures screen store b))) (read_at x y)) (nat_abs x, nat_abs y))
        → (Fitting screen store b.plan b.slots → OwnPixel b.plan c u v → r ≡ held screen store b.plan b.slots c u v)
        → ◌≡◌ {A = Answer} (Ok r) (answer (on_pictures screen store b) (read_layer c x y))
    own_pixel x y u v r e h =
        let d = on_pictures screen store b in
        let p = pane c d in
        let f = read_found p x y u v e in
        let q = open_listed screen store b c check_open in
        let is = open_pane screen store b c check_open in
        let lu : u < (frame_in b.plan c).w = subst (λ (z : Picture). u < z.width) is f.across in
        let lv : v < (frame_in b.plan c).h = subst (λ (z : Picture). v < z.height) is f.down in
        let z = unless_ok (bitmap_fault (sizes p) (read_at x y)) (nat_abs x, nat_abs y) (u, v) e in
        let at : held screen store b.plan b.slots c u v ≡ p.at u v =
        sym (ap (λ (m : Picture). m.at u v) is ∙ cond-true _ _ _ (and_from _ _ (lt-ltb u (frame_in b.plan c).w lu) (lt-ltb v (frame_in b.plan c).h lv))) in
        ap Ok (h (fitting screen store b q.0) (record { opened = q.1; across = lu; down = lv }) ∙ at ∙ ap (λ (w : ℕ × ℕ). p.at w.0 w.1) z.1)
        ∙ sym (answer_accepted d (read_layer c x y) (own_check (read_at x y) ∙ ap (carried c) z.0))
