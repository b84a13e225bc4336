-- A change of one layer is no matter to the patches that neither its frame before nor its frame after meets.
use Rattle.std.proofs.Common.{◌≡◌, ℕ, ◌+◌, ◌/◌, ◌%◌, ◌<◌, ◌≤◌, min, Bool, true, false, cond, not, ◌&&◌, ◌||◌, eqb, ltb, ◌⊎◌, List, [], ◌∷◌, get_or, ℤ, pos, ◌+ℤ◌, sym, refl, ap, ◌∙◌, ap₂, inl, inr, ⊎_elim, arith, rules}
use Rattle.std.specs.Prelude.{Some, None, Option, IfSome}
use Rattle.std.proofs.lemmas.Int.{ints}
use Rattle.std.proofs.lemmas.Bool.{cases_Bool, cases_eq, cases_lt, both_ways, eqb-true, eq-eqb, and_from, and_left, and_right, le-ltb, or_left, or_right}
use Rattle.std.proofs.lemmas.Bool.Decides.{nat_tests}
use Rattle.raster.specs.declared.size.Size.{Size}
use Rattle.paper.specs.Layers.{Layer, without}
use Rattle.raster.specs.declared.rectangle.Rectangle.{Rectangle}
use Rattle.plan.specs.declared.plan.Plan.{Plan}
use Rattle.plan.specs.Frames.{no_frame, has}
use Rattle.plan.specs.Plans.{listed, layers_in, frame_in, outline, outlines, above, hidden_patch, patch_of, moved_patch, needs}
use Rattle.plan.specs.Areas.{reaches, meets, met, on_screen, hidden_area}
use Rattle.plan.proofs.Patches.{hidden_at}
use Rattle.slots.specs.Blocks.{patch_x, patch_y, InFrame, patch_met}
use Rattle.slots.specs.Changes.{Concerns}
use Rattle.slots.specs.Walks.{InLayer, Clear}
use Rattle.plan.proofs.Lawful.{Outside, hidden_bounded}

pub or_twice : (a : Bool) → (a || (a || false)) ≡ a
or_twice a = search rules

-- ── Layers that meet an area, without one that does not ──

module _ (fs : List Rectangle) (c : ℕ) (left top right bottom : ℤ) where
  abbrev meets_frame : ℕ → Bool
  meets_frame d = meets (get_or fs d no_frame).x (get_or fs d no_frame).y (get_or fs d no_frame).w (get_or fs d no_frame).h left top right bottom

  -- the client's layer, if it is there, does not meet the area
  abbrev Off : List ℕ → Type 0
  Off cs = has c cs ≡ true → meets_frame c ≡ false

  off_rest : (e : ℕ) (cs : List ℕ) → Off (e ∷ cs) → Off cs
  off_rest e cs off h = off (or_right (eqb e c) (has c cs) h)

  off_here : (e : ℕ) (cs : List ℕ) → Off (e ∷ cs) → eqb c e ≡ true → meets_frame e ≡ false
  off_here e cs off h =
      let same = eqb-true c e h in
      ap meets_frame (sym same) ∙ off (or_left (eqb e c) (has c cs) (eq-eqb e c (sym same)))

  abbrev hit : List Layer → Bool
  hit ls = met ls left top right bottom

  met_without : (cs : List ℕ) → Off cs → hit (without c (outlines cs fs)) ≡ hit (outlines cs fs)
  met_without [] off = refl
  met_without (e ∷ cs) off = go (met_without cs (off_rest e cs off)) (eqb c e) refl
    where
      go : hit (without c (outlines cs fs)) ≡ hit (outlines cs fs) → (b : Bool) → eqb c e ≡ b
          → hit (cond (not b) (outline e (get_or fs e no_frame) ∷ without c (outlines cs fs)) (without c (outlines cs fs))) ≡ (meets_frame e || hit (outlines cs fs))
      go ih true h = ih ∙ ap (λ b. b || hit (outlines cs fs)) (sym (off_here e cs off h))
      go ih false h = ap (λ b. meets_frame e || b) ih

  pub met_above : (d : ℕ) → (d ≡ c → ⊥) → (cs : List ℕ) → Off cs → hit (above d (without c (outlines cs fs))) ≡ hit (above d (outlines cs fs))
  met_above d ne [] off = refl
  met_above d ne (e ∷ cs) off = go (met_above d ne cs (off_rest e cs off)) (met_without cs (off_rest e cs off)) (eqb c e) refl (eqb e d) refl
    where
      go : hit (above d (without c (outlines cs fs))) ≡ hit (above d (outlines cs fs)) → hit (without c (outlines cs fs)) ≡ hit (outlines cs fs)
          → (b : Bool) → eqb c e ≡ b → (a : Bool) → eqb e d ≡ a
          → hit (above d (cond (not b) (outline e (get_or fs e no_frame) ∷ without c (outlines cs fs)) (without c (outlines cs fs))))
          ≡ hit (cond a (outlines cs fs) (above d (outlines cs fs)))
      go ih all true h true i = absurd (ne (sym (eqb-true e d i) ∙ sym (eqb-true c e h)))
      go ih all true h false i = ih
      go ih all false h true i = ap (λ a. hit (cond a (without c (outlines cs fs)) (above d (without c (outlines cs fs))))) i ∙ all
      go ih all false h false i = ap (λ a. hit (cond a (without c (outlines cs fs)) (above d (without c (outlines cs fs))))) i ∙ ih

-- ── One patch ──

-- an area that the same higher layers meet is hidden alike
area_alike : (s : Size) (higher lower : List Layer) (f : Rectangle) (u v : ℕ)
    → met higher (f.x +ℤ pos u) (f.y +ℤ pos v) (f.x +ℤ pos (min (u + 16) f.w)) (f.y +ℤ pos (min (v + 16) f.h))
    ≡ met lower (f.x +ℤ pos u) (f.y +ℤ pos v) (f.x +ℤ pos (min (u + 16) f.w)) (f.y +ℤ pos (min (v + 16) f.h))
    → hidden_area s higher f u v ≡ hidden_area s lower f u v
unfolding hidden_area
area_alike s higher lower f u v e =
    ap (λ b. (ltb u f.w && ltb v f.h)
    && (not (on_screen s (f.x +ℤ pos u) (f.y +ℤ pos v) (f.x +ℤ pos (min (u + 16) f.w)) (f.y +ℤ pos (min (v + 16) f.h))) || b)) e

-- a layer's own frame meets each of its patches
axis_own : (x : ℤ) (n u : ℕ) → u < n → reaches x n (x +ℤ pos u) (x +ℤ pos (min (u + 16) n)) ≡ true
axis_own x n u h = grind (arith, ints, nat_tests)

own_met : (f : Rectangle) (k : ℕ) → InFrame f k → patch_met f f k ≡ true
own_met f k i = and_from _ _ (axis_own f.x f.w (patch_x k) i.across) (axis_own f.y f.h (patch_y k) i.down)

frame_cases : (f : Rectangle) (k : ℕ) → InFrame f k ⊎ Outside f (k % 300 % 20) (k % 300 / 20)
frame_cases f k =
    ⊎_elim
    (λ (a : patch_x k < f.w).
    ⊎_elim (λ (b : patch_y k < f.h). inl (record { across = a; down = b })) (λ (b : f.h ≤ patch_y k). inr (inr b)) (cases_lt (patch_y k) f.h))
    (λ (a : f.w ≤ patch_x k). inr (inl a))
    (cases_lt (patch_x k) f.w)

-- a patch that no open layer has is not hidden
pub hidden_none : (p : Plan) (k : ℕ) → (has (k / 300) (listed p) ≡ true → Outside (frame_in p (k / 300)) (k % 300 % 20) (k % 300 / 20)) → hidden_patch p k ≡ false
hidden_none p k h =
    ⊎_elim
    (λ (o : has (k / 300) (listed p) ≡ true). (hidden_bounded p).outside (k / 300) (k % 300 % 20) (k % 300 / 20) o (h o))
    (λ (s : has (k / 300) (listed p) ≡ false). (hidden_bounded p).closed (k / 300) (k % 300 % 20) (k % 300 / 20) s)
    (cases_Bool (has (k / 300) (listed p)))

module _ (p q : Plan) (c : ℕ) (ch : Concerns p q c) (area : Rectangle) (was : has c (listed p) ≡ true → area ≡ frame_in p c) (k : ℕ) (clear : InLayer q c k → Clear q c area k) where
  abbrev d : ℕ
  d = k / 300

  abbrev u : ℕ
  u = patch_x k

  abbrev v : ℕ
  v = patch_y k

  -- of another open layer
  other_same : (d ≡ c → ⊥) → has d (listed q) ≡ true → InFrame (frame_in q d) k → hidden_patch q k ≡ hidden_patch p k
  other_same ne o i =
      let f = frame_in q d in
      let cl = clear (record { opened = or_left _ (eqb d c) o; inside = i }) in
      let left = f.x +ℤ pos u in
      let top = f.y +ℤ pos v in
      let right = f.x +ℤ pos (min (u + 16) f.w) in
      let bottom = f.y +ℤ pos (min (v + 16) f.h) in
      let after = met_above q.frames c left top right bottom d ne (listed q) (λ _. cl.own) in
      let before = met_above p.frames c left top right bottom d ne (listed p) (λ h. ap (λ (z : Rectangle). patch_met z f k) (sym (was h)) ∙ cl.other) in
      hidden_at q.screen q.frames d (k % 300 % 20) (k % 300 / 20) (listed q) o
      ∙ area_alike q.screen (above d (layers_in q)) (above d (layers_in p)) f u v (sym after ∙ ap (λ ls. met (above d ls) left top right bottom) ch.layers ∙ before)
      ∙ ap₂ (λ (s : Size) (g : Rectangle). hidden_area s (above d (layers_in p)) g u v) ch.screen (ch.frames d ne)
      ∙ sym (hidden_at p.screen p.frames d (k % 300 % 20) (k % 300 / 20) (listed p) (sym (ch.clients d ne) ∙ o))

  -- of the client's own layer there is none
  own_none : d ≡ c → InFrame (frame_in q d) k → ⊥
  own_none e i =
      both_ways _ (clear (record { opened = or_right (has d (listed q)) (eqb d c) (eq-eqb d c e); inside = i })).own
      (ap (λ n. patch_met (frame_in q n) (frame_in q d) k) (sym e) ∙ own_met (frame_in q d) k i)

  -- outside the layer after is outside the layer before
  outside_before : Outside (frame_in q d) (k % 300 % 20) (k % 300 / 20) → has d (listed p) ≡ true → Outside (frame_in p d) (k % 300 % 20) (k % 300 / 20)
  outside_before out h =
      ⊎_elim
      (λ (e : d ≡ c).
      let o : has c (listed p) ≡ true = ap (λ n. has n (listed p)) (sym e) ∙ h in
      resized (ap (λ n. (frame_in q n).w) e ∙ ch.wide o ∙ ap (λ n. (frame_in p n).w) (sym e)) (ap (λ n. (frame_in q n).h) e ∙ ch.high o ∙ ap (λ n. (frame_in p n).h) (sym e)))
      (λ (ne : d ≡ c → ⊥). resized (ap (λ (z : Rectangle). z.w) (ch.frames d ne)) (ap (λ (z : Rectangle). z.h) (ch.frames d ne)))
      (cases_eq d c)
    where
      resized : (frame_in q d).w ≡ (frame_in p d).w → (frame_in q d).h ≡ (frame_in p d).h → Outside (frame_in p d) (k % 300 % 20) (k % 300 / 20)
      resized ew eh =
          ⊎_elim (λ (l : (frame_in q d).w ≤ patch_x k). inl (omega arith)) (λ (l : (frame_in q d).h ≤ patch_y k). inr (omega arith)) out

  pub same_hidden : hidden_patch q k ≡ hidden_patch p k
  same_hidden =
      ⊎_elim
      (λ (i : InFrame (frame_in q d) k).
      ⊎_elim
      (λ (e : d ≡ c). absurd (own_none e i))
      (λ (ne : d ≡ c → ⊥).
      ⊎_elim
      (λ (o : has d (listed q) ≡ true). other_same ne o i)
      (λ (s : has d (listed q) ≡ false).
      hidden_none q k (λ o. absurd (both_ways _ s o)) ∙ sym (hidden_none p k (λ o. absurd (both_ways _ (sym (ch.clients d ne) ∙ s) o))))
      (cases_Bool (has d (listed q))))
      (cases_eq d c))
      (λ (out : Outside (frame_in q d) (k % 300 % 20) (k % 300 / 20)). hidden_none q k (λ _. out) ∙ sym (hidden_none p k (outside_before out)))
      (frame_cases (frame_in q d) k)

  -- nor is it a patch of the moved layer, which is the client's or none
  moved_none : (moved : Option ℕ) → IfSome moved (λ m. m ≡ c) → moved_patch q moved k ≡ false
  moved_none None own = refl
  moved_none (Some m) own =
      ⊎_elim (λ (e : eqb d m ≡ true). none (eqb-true d m e)) (λ (e : eqb d m ≡ false). and_right _ _ (and_left _ _ e)) (cases_Bool (eqb d m))
    where
      none : d ≡ m → patch_of q m k ≡ false
      none e =
          ⊎_elim
          (λ (i : InFrame (frame_in q d) k). absurd (own_none (e ∙ own) i))
          (λ (out : Outside (frame_in q d) (k % 300 % 20) (k % 300 / 20)).
          and_right (has m (listed q)) _ (and_right (eqb d m) _
          (ap (λ n. ltb u (frame_in q n).w && ltb v (frame_in q n).h) (sym e)
          ∙ ⊎_elim (λ (a : (frame_in q d).w ≤ u). and_left _ _ (le-ltb u (frame_in q d).w a)) (λ (a : (frame_in q d).h ≤ v). and_right _ _ (le-ltb v (frame_in q d).h a)) out)))
          (frame_cases (frame_in q d) k)

  pub same_needs : (moved : Option ℕ) → IfSome moved (λ m. m ≡ c) → needs p q moved k ≡ hidden_patch p k
  same_needs moved own = ap₂ (λ a b. hidden_patch p k || (a || b)) same_hidden (moved_none moved own) ∙ or_twice (hidden_patch p k)
