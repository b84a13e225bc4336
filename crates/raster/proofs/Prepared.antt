-- A fill and a scroll that are not refused, clipped: performing the blit is the call.
use Rattle.std.proofs.Common.{◌≡◌, ℕ, ◌*◌, ◌^◌, ◌≤◌, Bool, true, false, ◌&&◌, leb, ℤ, pos, nat_abs, sym, refl, ap, ◌∙◌, subst, ap₂, arith, rules}
use Rattle.std.proofs.lemmas.Int.{ints}
use Rattle.std.proofs.lemmas.Bool.{le-ltb}
use Rattle.raster.specs.Picture.{Picture, sizes}
use Rattle.raster.specs.Blt.{holds, behind, concerned, everywhere, from_picture, count, blt}
use Rattle.raster.specs.declared.transfer.Transfer.{Transfer}
use Rattle.raster.specs.Calls.{fill_with, scroll_by, fill_transfer}
use Rattle.raster.specs.Blits.{spans, opposite, inked, performed, Performs}
use Rattle.raster.specs.Clip.{hits, Clipped}
use Rattle.raster.specs.declared.ink.Ink.{Ink}
use Rattle.raster.specs.declared.ink.Ink.TheVariants.{Value, Itself}
use Rattle.raster.specs.declared.rule.Rule.{Rule}
use Rattle.raster.specs.declared.size.Size.{Size}
use Rattle.raster.specs.declared.span.Span.{Span}
use Rattle.raster.specs.declared.blit.Blit.{Blit}
use Rattle.raster.proofs.Accepts.{fill_accepted, scroll_accepted, rows_accepted}
use Rattle.raster.proofs.Paints.{Pixel, rows_whole}
use Rattle.raster.proofs.Counts.{clipped_count, clipped_blt, clipped_rows}

-- the tests of two axes, put together and taken apart
two_axes : (a b c d e f : Bool) → ((a && b) && ((c && d) && (e && f))) ≡ ((a && (c && e)) && (b && (d && f)))
two_axes a b c d e f = search rules

-- the same, where the source has every place
no_source : (a b c d : Bool) → ((a && b) && ((c && d) && true)) ≡ ((a && (c && c)) && (b && (d && d)))
no_source a b c d = search rules

itself : (z : ℤ) (a : ℕ) → behind z z a ≡ pos a
itself z a = omega (arith, ints)

abbrev blit_of : Rule → Ink → Span → Span → Blit
blit_of r ink cols rows = record { rule = r; ink = ink; columns = cols; rows = rows }

-- a clip, for a picture of the size
at_picture : (s d : ℤ) (n : ℕ) (f : Size → ℕ) (size : Size) (p : Picture) (r : Span) → sizes p ≡ size → Clipped s d n (f size) (f size) r → Clipped s d n (f (sizes p)) (f (sizes p)) r
at_picture s d n f size p r e c = subst (λ (z : Size). Clipped s d n (f z) (f z) r) (sym e) c

-- the pixels of a transfer from a picture, by the clips of its two axes
module _ (t : Transfer) (source d : Picture) (cols rows : Span)
    (across : Clipped t.sx t.dx t.w source.width d.width cols) (down : Clipped t.sy t.dy t.h source.height d.height rows) where
  pub clip_spans : (x y : ℕ) → concerned t (from_picture source) (sizes d) x y ≡ (spans cols x && spans rows y)
  unfolding concerned hits
  clip_spans x y =
      two_axes (holds t.dx t.w (pos x)) (holds t.dy t.h (pos y)) (holds (pos 0) d.width (pos x)) (holds (pos 0) d.height (pos y))
      (holds (pos 0) source.width (behind t.sx t.dx x)) (holds (pos 0) source.height (behind t.sy t.dy y))
      ∙ ap (λ z. z && hits t.sy t.dy t.h source.height d.height y) (across.hit x) ∙ ap (λ z. spans cols x && z) (down.hit y)

  -- the BitBlt is what the source pixels opposite make
  pub clip_blt : (rule : ℕ) (ink : Pixel) → rule ≡ t.rule → ((x y : ℕ) → ink d x y ≡ source.at x y) → rows_whole rule ink cols rows d ≡ blt t (from_picture source) d
  clip_blt rule ink e same =
      clipped_blt t (from_picture source) d cols rows across.paints down.paints clip_spans rule ink e
      (λ x y l m. same (opposite cols x) (opposite rows y) ∙ ap₂ (λ a b. source.at (nat_abs a) (nat_abs b)) (sym (across.back x l)) (sym (down.back y m)))

  pub clip_count : rows.len * cols.len ≡ count t (from_picture source) (sizes d)
  clip_count = clipped_count t (from_picture source) d cols rows across.paints down.paints clip_spans

module _ (r : Rule) (cols rows : Span) where
  module _ (rule v : ℕ) (x y : ℤ) (w h : ℕ) where
    fill_spans : (p : Picture) → Clipped x x w p.width p.width cols → Clipped y y h p.height p.height rows
        → (a c : ℕ) → concerned (fill_transfer rule x y w h) (everywhere v) (sizes p) a c ≡ (spans cols a && spans rows c)
    unfolding concerned hits
    fill_spans p cx cy a c =
        let A : Bool = holds x w (pos a) in
        let C : Bool = holds (pos 0) p.width (pos a) in
        no_source A (holds y h (pos c)) C (holds (pos 0) p.height (pos c))
        ∙ ap (λ z. (A && (C && holds (pos 0) p.width z)) && (holds y h (pos c) && (holds (pos 0) p.height (pos c) && holds (pos 0) p.height (pos c)))) (sym (itself x a))
        ∙ ap (λ t. t && (holds y h (pos c) && (holds (pos 0) p.height (pos c) && holds (pos 0) p.height (pos c)))) (cx.hit a)
        ∙ ap (λ z. spans cols a && (holds y h (pos c) && (holds (pos 0) p.height (pos c) && holds (pos 0) p.height z))) (sym (itself y c))
        ∙ ap (λ t. spans cols a && t) (cy.hit c)

    pub fill_performs : (size : Size) → r.number ≡ rule → rule ≤ 15 → leb (2 ^ size.depth) v ≡ false
        → Clipped x x w size.width size.width cols → Clipped y y h size.height size.height rows
        → Performs size (fill_with rule v x y w h) (blit_of r (Value v) cols rows)
    unfolding performed
    fill_performs size er few fits cx cy =
        let t = fill_transfer rule x y w h in
        let ok = fill_accepted size x y rule v w h (le-ltb 15 rule few) fits in
        let across : (p : Picture) → sizes p ≡ size → Clipped x x w p.width p.width cols = λ p e. at_picture x x w (λ z. z.width) size p cols e cx in
        let down : (p : Picture) → sizes p ≡ size → Clipped y y h p.height p.height rows = λ p e. at_picture y y h (λ z. z.height) size p rows e cy in
        record {
          accepted = ok;
          columns = record { paints = cx.paints; reads = cx.reads };
          rows = record { paints = cy.paints; reads = cy.reads };
          leaves = λ p e. clipped_blt t (everywhere v) p cols rows (across p e).paints (down p e).paints (fill_spans p (across p e) (down p e)) r.number (λ _ _ _. v) er (λ a c l m. refl);
          counts = λ p e. clipped_count t (everywhere v) p cols rows (across p e).paints (down p e).paints (fill_spans p (across p e) (down p e));
          touches = λ p e z.
              clipped_rows t (everywhere v) p cols rows (across p e).paints (down p e).paints (fill_spans p (across p e) (down p e)) z
              ∙ sym (rows_accepted p (fill_with rule v x y w h) (fill_accepted (sizes p) x y rule v w h (le-ltb 15 rule few) (ap (λ (s : Size). leb (2 ^ s.depth) v) e ∙ fits)) z);
        }

  module _ (t : Transfer) where
    pub scroll_performs : (size : Size) → r.number ≡ t.rule → t.rule ≤ 15
        → Clipped t.sx t.dx t.w size.width size.width cols → Clipped t.sy t.dy t.h size.height size.height rows
        → Performs size (scroll_by t) (blit_of r Itself cols rows)
    unfolding performed
    scroll_performs size er few cx cy =
        let across : (p : Picture) → sizes p ≡ size → Clipped t.sx t.dx t.w p.width p.width cols = λ p e. at_picture t.sx t.dx t.w (λ z. z.width) size p cols e cx in
        let down : (p : Picture) → sizes p ≡ size → Clipped t.sy t.dy t.h p.height p.height rows = λ p e. at_picture t.sy t.dy t.h (λ z. z.height) size p rows e cy in
        record {
          accepted = scroll_accepted size t (le-ltb 15 t.rule few);
          columns = record { paints = cx.paints; reads = cx.reads };
          rows = record { paints = cy.paints; reads = cy.reads };
          leaves = λ p e. clip_blt t p p cols rows (across p e) (down p e) r.number (inked Itself) er (λ a c. refl);
          counts = λ p e. clip_count t p p cols rows (across p e) (down p e);
          touches = λ p e z.
              clipped_rows t (from_picture p) p cols rows (across p e).paints (down p e).paints (clip_spans t p p cols rows (across p e) (down p e)) z
              ∙ sym (rows_accepted p (scroll_by t) (scroll_accepted (sizes p) t (le-ltb 15 t.rule few)) z);
        }
