-- Drawing on a layer, pixel by pixel: one more turn on the layer's picture.
use Rattle.std.proofs.Common.{◌≡◌, ℕ, ◌+◌, ◌^◌, ◌<◌, min, true, sym, ap, ◌∙◌, subst, ap₂, arith}
use Rattle.raster.specs.Rules.{combined}
use Rattle.raster.specs.Picture.{Picture, sizes, Sound, with_pixel}
use Rattle.raster.specs.Blits.{turn}
use Rattle.raster.specs.declared.size.Size.{Size}
use Rattle.raster.specs.declared.span.Span.{Span}
use Rattle.raster.proofs.Digits.{combined_below}
use Rattle.raster.proofs.Paints.{turn_below, row_turned, row_turned_none, row_turned_all, row_turned_more, rows_turned, rows_turned_none, rows_turned_all, rows_turned_more}
use Rattle.plan.specs.declared.plan.Plan.{Plan}
use Rattle.slots.specs.declared.slots.Slots.{Slots}
use Rattle.plan.specs.Frames.{has}
use Rattle.plan.specs.Plans.{listed}
use Rattle.hold.specs.declared.layer.Layer.{Layer}
use Rattle.hold.specs.Held.{held, layer_held, Fitting, OwnPixel, Drawn, PixelPut}
use Rattle.hold.proofs.Papers.{layer_size, layer_at}
use Rattle.hold.proofs.Drawings.{drawn_none, drawn_joins, drawn_pane, drawn_fits}
use Rattle.draw.specs.Touches.{touched}
use Rattle.draw.specs.Sources.{Pixel, Kept, row_blended, all_blended, ReadsRow, ReadsAll}
use Rattle.draw.specs.Areas.{Within, RowWithin}

module _ (l : Layer) where
  abbrev p : Plan
  p = l.layout.plan.now

  abbrev t : Slots
  t = l.layout.slots.now

  abbrev c : ℕ
  c = l.client

  abbrev layer : (screen store : Picture) → Picture
  layer screen store = layer_held screen store p t c

  -- the layer's picture, by an equation
  pub drawn_as : (s0 t0 s1 t1 q r : Picture) → q ≡ r → Drawn p t s0 t0 s1 t1 c q → Drawn p t s0 t0 s1 t1 c r
  drawn_as s0 t0 s1 t1 q r e d = subst (λ (z : Picture). Drawn p t s0 t0 s1 t1 c z) e d

  -- A pixel put with the rule's result of its value and a source pixel.
  pub touch_drawn : (screen store screen' store' : Picture) (x y : ℕ) → OwnPixel p c x y → Sound screen → (rule s d v : ℕ) (size : Size) → size ≡ sizes screen
      → d ≡ held screen store p t c x y → v ≡ combined (min size.depth 8) rule s d
      → (v < 2 ^ screen.depth → PixelPut p t screen store screen' store' c x y v)
      → Drawn p t screen store screen' store' c (touched rule s x y (layer screen store))
  touch_drawn screen store screen' store' x y o sound rule s d v size es ed ev put =
      let q = layer screen store in
      let deep = sound.deep in
      let e8 : min screen.depth 8 ≡ screen.depth = omega (arith, deep.1) in
      let small : v ≡ combined screen.depth rule s d = ev ∙ ap (λ (z : Size). combined (min z.depth 8) rule s d) es ∙ ap (λ n. combined n rule s d) e8 in
      let same : v ≡ combined q.depth rule s (q.at x y) =
      small ∙ ap₂ (λ m n. combined m rule s n) (sym (ap (λ (z : Size). z.depth) (layer_size screen store p t c o.opened))) (ed ∙ sym (layer_at screen store p t c x y o)) in
      drawn_as screen store screen' store' _ _ (ap (with_pixel q x y) same)
      (put (subst (λ n. n < 2 ^ screen.depth) (sym small) (combined_below screen.depth rule s d))).drawn

  module _ (opened : has c (listed p) ≡ true) (s0 t0 : Picture) (rule : ℕ) (source : Pixel) (kept : Kept source) (cols : Span) where
    pub row_starts : (y sy : ℕ) → Fitting s0 t0 p t → Drawn p t s0 t0 s0 t0 c (row_turned rule source cols y sy 0 (layer s0 t0))
    row_starts y sy f = drawn_as s0 t0 s0 t0 _ _ (row_turned_none rule source kept cols y sy (layer s0 t0)) (drawn_none p t c opened s0 t0 f)

    -- one turn: a source pixel is sampled at `from`, and the pixel at x combined with it
    pub row_goes_on : (places : ℕ → ℕ → Type 0) (y sy : ℕ) (s1 t1 s2 t2 : Picture) (i k from x s : ℕ) → Fitting s0 t0 p t → RowWithin p c cols y → ReadsRow places cols sy
        → i < cols.len → k ≡ turn cols i → from ≡ min (cols.source + k) 65535 → x ≡ min (cols.first + k) 65535
        → Drawn p t s0 t0 s1 t1 c (row_turned rule source cols y sy i (layer s0 t0))
        → (Fitting s1 t1 p t → places from sy → s ≡ source (layer s1 t1) from sy)
        → (OwnPixel p c x y → Fitting s1 t1 p t → Drawn p t s1 t1 s2 t2 c (touched rule s x y (layer s1 t1)))
        → Drawn p t s0 t0 s2 t2 c (row_turned rule source cols y sy (i + 1) (layer s0 t0))
    row_goes_on places y sy s1 t1 s2 t2 i k from x s f w reads h ek ef ex d sampled touch =
        let below : k < cols.len = subst (λ n. n < cols.len) (sym ek) (turn_below cols i h) in
        let across = w.across in
        let wide = w.wide in
        let narrow = p.narrow c in
        let ef' : from ≡ cols.source + k = omega arith in
        let ex' : x ≡ cols.first + k = omega arith in
        let f1 = drawn_fits p t c opened s0 t0 s1 t1 _ d f in
        let es = sampled f1 (subst (λ n. places n sy) (sym ef') (reads k below)) in
        let e = touch (record { opened = w.opened; across = omega arith; down = w.down }) f1 in
        drawn_as s0 t0 s2 t2 _ _
        (row_turned_more rule source kept cols y sy (layer s0 t0) (layer s1 t1) _ i k s h ek (drawn_pane p t c opened s0 t0 s1 t1 _ d)
        (es ∙ ap (λ n. source (layer s1 t1) n sy) ef') (ap (λ n. touched rule s n y (layer s1 t1)) ex'))
        (drawn_joins p t c opened s0 t0 s1 t1 s2 t2 _ _ d e)

    pub row_ends : (y sy i : ℕ) (s1 t1 : Picture) → i ≡ cols.len → Drawn p t s0 t0 s1 t1 c (row_turned rule source cols y sy i (layer s0 t0))
        → Drawn p t s0 t0 s1 t1 c (row_blended rule source cols y sy (layer s0 t0))
    unfolding row_blended
    row_ends y sy i s1 t1 e d =
        drawn_as s0 t0 s1 t1 _ _ (ap (λ n. row_turned rule source cols y sy n (layer s0 t0)) e ∙ row_turned_all rule source kept cols y sy (layer s0 t0)) d

    module _ (rows : Span) where
      pub rows_start : Fitting s0 t0 p t → Drawn p t s0 t0 s0 t0 c (rows_turned rule source cols rows 0 (layer s0 t0))
      rows_start f = drawn_as s0 t0 s0 t0 _ _ (rows_turned_none rule source kept cols rows (layer s0 t0)) (drawn_none p t c opened s0 t0 f)

      -- one turn: row y is painted from row `from`
      pub rows_go_on : (places : ℕ → ℕ → Type 0) (s1 t1 s2 t2 : Picture) (j k from y : ℕ) → Fitting s0 t0 p t → Within p c cols rows → ReadsAll places cols rows
          → j < rows.len → k ≡ turn rows j → y ≡ min (rows.first + k) 65535 → from ≡ min (rows.source + k) 65535
          → Drawn p t s0 t0 s1 t1 c (rows_turned rule source cols rows j (layer s0 t0))
          → (RowWithin p c cols y → ReadsRow places cols from → Fitting s1 t1 p t → Drawn p t s1 t1 s2 t2 c (row_blended rule source cols y from (layer s1 t1)))
          → Drawn p t s0 t0 s2 t2 c (rows_turned rule source cols rows (j + 1) (layer s0 t0))
      unfolding row_blended
      rows_go_on places s1 t1 s2 t2 j k from y f w reads h ek ey ef d row =
          let below : k < rows.len = subst (λ n. n < rows.len) (sym ek) (turn_below rows j h) in
          let down = w.down in
          let high = w.high in
          let short = p.short c in
          let ef' : from ≡ rows.source + k = omega arith in
          let ey' : y ≡ rows.first + k = omega arith in
          let e = row (record { opened = w.opened; across = w.across; wide = w.wide; down = omega arith }) (subst (ReadsRow places cols) (sym ef') (reads k below)) (drawn_fits p t c opened s0 t0 s1 t1 _ d f) in
          drawn_as s0 t0 s2 t2 _ _
          (rows_turned_more rule source kept cols rows (layer s0 t0) (layer s1 t1) _ j k h ek (drawn_pane p t c opened s0 t0 s1 t1 _ d) (ap₂ (λ m n. row_blended rule source cols m n (layer s1 t1)) ey' ef'))
          (drawn_joins p t c opened s0 t0 s1 t1 s2 t2 _ _ d e)

      pub rows_end : (j : ℕ) (s1 t1 : Picture) → j ≡ rows.len → Drawn p t s0 t0 s1 t1 c (rows_turned rule source cols rows j (layer s0 t0)) → Drawn p t s0 t0 s1 t1 c (all_blended rule source cols rows (layer s0 t0))
      unfolding all_blended
      rows_end j s1 t1 e d = drawn_as s0 t0 s1 t1 _ _ (ap (λ n. rows_turned rule source cols rows n (layer s0 t0)) e ∙ rows_turned_all rule source kept cols rows (layer s0 t0)) d
