-- What a blit and a stamp paint, by their sources.
use Rattle.std.proofs.Common.{◌≡◌, ℕ, ◌*◌, ◌<◌, ◌≤◌, min, true, sym, refl, ◌∙◌, subst, ap₂, inl, inr, ⊎_elim, arith}
use Rattle.std.proofs.lemmas.Bool.{cases_lt, and_parts}
use Rattle.std.proofs.lemmas.Bool.Decides.{nat_tests}
use Rattle.raster.specs.Rules.{combined}
use Rattle.raster.specs.Picture.{Picture, sizes, Sound}
use Rattle.raster.specs.Blt.{from_picture, count, blt}
use Rattle.raster.specs.declared.transfer.Transfer.{Transfer}
use Rattle.raster.specs.Blits.{spans, opposite, inked, performed}
use Rattle.raster.specs.Clip.{Clipped}
use Rattle.raster.specs.declared.blit.Blit.{Blit}
use Rattle.raster.specs.declared.rule.Rule.{Rule}
use Rattle.raster.specs.declared.size.Size.{Size}
use Rattle.raster.specs.declared.span.Span.{Span}
use Rattle.raster.proofs.Paints.{painted_same}
use Rattle.raster.proofs.Prepared.{clip_blt, clip_count}
use Rattle.plan.specs.declared.plan.Plan.{Plan}
use Rattle.plan.specs.Plans.{frame_in}
use Rattle.hold.specs.declared.layer.Layer.{Layer}
use Rattle.hold.specs.Held.{layer_held, OwnPixel}
use Rattle.hold.proofs.Papers.{layer_size}
use Rattle.draw.specs.Areas.{BlitWithin, Within}
use Rattle.draw.specs.Sources.{in_place, all_blended, ReadsAll}
use Rattle.draw.specs.Stamps.{Stamps}

-- ── A blit ──

pub blit_performed : (b : Blit) (q : Picture) → all_blended b.rule.number (inked b.ink) b.columns b.rows q ≡ performed b q
unfolding all_blended performed
blit_performed b q = refl

module _ (p : Plan) (c : ℕ) (b : Blit) (w : BlitWithin p c b) where
  pub blit_within : Within p c b.columns b.rows
  blit_within = record {
    opened = w.opened;
    across = w.columns.paints;
    wide = omega (arith, w.columns.reads, p.narrow c);
    down = w.rows.paints;
    high = omega (arith, w.rows.reads, p.short c);
  }

  pub blit_reads : ReadsAll (OwnPixel p c) b.columns b.rows
  blit_reads j hj i hi = record { opened = w.opened; across = omega (arith, w.columns.reads); down = omega (arith, w.rows.reads) }

-- ── A stamp ──

-- a place of a span is opposite itself, where the places are their own source
itself : (s : Span) (x : ℕ) → spans s x ≡ true → opposite (in_place s) x ≡ x
itself s x h = grind (arith, nat_tests)

-- a pixel past 65,535 is none, as one there
pub at_most_there : (p : Picture) → Sound p → (x y : ℕ) → p.at (min x 65535) (min y 65535) ≡ p.at x y
at_most_there p sound x y =
    ⊎_elim
    (λ (a : x < 65536).
    ⊎_elim
    (λ (b : y < 65536). ap₂ p.at (omega arith) (omega arith))
    (λ (b : 65536 ≤ y). sound.outside _ _ (inr (omega (arith, sound.high))) ∙ sym (sound.outside x y (inr (omega (arith, sound.high)))))
    (cases_lt y 65536))
    (λ (a : 65536 ≤ x). sound.outside _ _ (inl (omega (arith, sound.wide))) ∙ sym (sound.outside x y (inl (omega (arith, sound.wide)))))
    (cases_lt x 65536)

-- The transfer's clip, at the picture of the layer.
module _ (l : Layer) (s0 t0 source : Picture) (tr : Transfer) (r : Rule) (cols rows : Span) (w : Stamps l.layout.plan.now l.client tr (sizes source) r cols rows) where
  abbrev own : Picture
  own = layer_held s0 t0 l.layout.plan.now l.layout.slots.now l.client

  own_size : sizes own ≡ record { width = (frame_in l.layout.plan.now l.client).w; height = (frame_in l.layout.plan.now l.client).h; depth = s0.depth }
  own_size = layer_size s0 t0 l.layout.plan.now l.layout.slots.now l.client w.opened

  across_layer : Clipped tr.sx tr.dx tr.w source.width own.width cols
  across_layer = subst (λ (z : Size). Clipped tr.sx tr.dx tr.w source.width z.width cols) (sym own_size) w.across

  down_layer : Clipped tr.sy tr.dy tr.h source.height own.height rows
  down_layer = subst (λ (z : Size). Clipped tr.sy tr.dy tr.h source.height z.height rows) (sym own_size) w.down

  pub stamp_within : Within l.layout.plan.now l.client (in_place cols) (in_place rows)
  stamp_within = record {
    opened = w.opened;
    across = w.across.paints;
    wide = omega (arith, w.across.paints, l.layout.plan.now.narrow l.client);
    down = w.down.paints;
    high = omega (arith, w.down.paints, l.layout.plan.now.short l.client);
  }

  clipped_all : all_blended r.number (λ _. source.at) cols rows own ≡ blt tr (from_picture source) own
  unfolding all_blended
  clipped_all = clip_blt tr source own cols rows across_layer down_layer r.number (λ _. source.at) w.by (λ x y. refl)

  -- from the places themselves, where the source is laid
  pub stamp_blt : all_blended r.number (λ _ x y. source.at (opposite cols x) (opposite rows y)) (in_place cols) (in_place rows) own ≡ blt tr (from_picture source) own
  unfolding all_blended
  stamp_blt =
      painted_same own _ _ _ _ (λ x y. refl)
      (λ x y h.
      let q = and_parts _ _ h in
      ap₂ (λ a b. combined own.depth r.number (source.at (opposite cols a) (opposite rows b)) (own.at x y)) (itself cols x q.0) (itself rows y q.1))
      ∙ clipped_all

  pub stamp_count : rows.len * cols.len ≡ count tr (from_picture source) (sizes own)
  stamp_count = clip_count tr source own cols rows across_layer down_layer
