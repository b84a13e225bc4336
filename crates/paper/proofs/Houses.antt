-- Runs in houses keep apart.
use Rattle.std.proofs.Common.{◌≡◌, ℕ, Bool, true, false, cond, eqb, ◌≢◌, List, [], ◌∷◌, ◌++◌, length, None, Err, sym, refl, ap, ◌∙◌, subst, subst₂, true≢false, arith}
use mathlib.Core.List.{head-eq_of_cons-eq, tail-eq_of_cons-eq}
use Rattle.std.proofs.lemmas.Bool.{ne_eqb}
use Rattle.raster.specs.Picture.{Picture, sizes}
use Rattle.raster.specs.declared.refusal.Refusal.TheVariants.{Host}
use Rattle.raster.specs.declared.size.Size.{Size}
use Rattle.paper.specs.Layers.{Desk, pixels_of, pane, screen_of}
use Rattle.paper.specs.Slots.{hidden_count}
use Rattle.paper.specs.Desk.{Call, client_of, repaint, because, Answer, answer, after}
use Rattle.paper.specs.Run.{State, new_state, called, elsewhere, Step, end_of, layer_of}
use Rattle.paper.specs.House as house
use Rattle.paper.specs.House.{refused_for_host, outer_answer, outer_after, House, StandsOn, OuterDoes, HouseCall, for_outer, for_inner, HouseStep, Mixed, HouseRun, outer_view, inner_view, outer_steps, inner_steps, house_end}
use Rattle.paper.specs.Apart.{Settled, InnerScreenStays, HouseRunsKeepApart}
use Rattle.paper.proofs.Layers.{paint_other}
use Rattle.paper.proofs.View.{size_stays}
use Rattle.paper.proofs.Pictures.{Clean}
use Rattle.paper.proofs.Clean.{AllClean, clean_repaint, clean_after}
use Rattle.paper.proofs.Screen.{TrueToPaper, screen_clean, new_true, stays_true}
use Rattle.paper.proofs.Trace.{Trace, done, same_view}
use Rattle.paper.proofs.Runs.{quiet_step, quiet_elsewhere, quiet_then, call_then, run_then, run_size, run_true, run_clean, settled}
use Rattle.paper.proofs.Pane.{names_host, outer_size, pane_stays}

-- ── A house as one client of a desk sees it ──

-- a call to the outer desk, before a trace of a client that is not host
outer_then : (c host : ℕ) → c ≢ host → (d : Desk) (call : Call) (got : Answer) (s : State) (steps : List Step) → got ≡ outer_answer host d call → s.paper ≡ outer_after host d call
    → Trace c d.size.depth (layer_of c s) steps
    → Trace c d.size.depth (pixels_of c d.layers) (record { event = called call got; stands = s } ∷ steps)
unfolding outer_answer outer_after
outer_then c host ne d call got s steps a l t = go (refused_for_host host call) refl a l
  where
    go : (b : Bool) → refused_for_host host call ≡ b → got ≡ cond b (Err (because Host (client_of call))) (answer d call) → s.paper ≡ cond b d (after d call)
        → Trace c d.size.depth (pixels_of c d.layers) (record { event = called call got; stands = s } ∷ steps)
    go true e a l =
        let other : eqb (client_of call) c ≡ false = ne_eqb (client_of call) c (λ same. ne (sym same ∙ names_host host call e)) in
        quiet_then c d.size.depth (pixels_of c d.layers) _ steps (quiet_step c (pixels_of c d.layers) call got s other (ap (λ p. pixels_of c p.layers) l)) t
    go false e a l = call_then c d call got s steps a l t

-- what is drawn on the host's layer, before a trace of a client that is not host
host_then : (c depth host : ℕ) → c ≢ host → (d : Desk) (p : Picture) (s : State) (steps : List Step) → s.paper ≡ repaint host p d
    → Trace c depth (layer_of c s) steps → Trace c depth (pixels_of c d.layers) (record { event = elsewhere; stands = s } ∷ steps)
host_then c depth host ne d p s steps e t =
    quiet_then c depth (pixels_of c d.layers) _ steps
    (quiet_elsewhere c (pixels_of c d.layers) s (ap (λ q. pixels_of c q.layers) e ∙ paint_other host c p d.layers (ne_eqb host c (λ same. ne (sym same))))) t

abbrev depth_of : Desk → ℕ
depth_of d = d.size.depth

outer_trace : (c host : ℕ) → c ≢ host → (depth : ℕ) {t : House} {steps : List HouseStep} → Mixed host t steps → depth_of t.outer.paper ≡ depth → Trace c depth (layer_of c t.outer) (outer_view steps)
outer_trace c host ne depth house.ends e = done
outer_trace c host ne depth (house.outer {t = t} {t' = t'} {call = call} {got = got} {steps = steps} does rest) e =
    let d : depth_of t'.outer.paper ≡ depth_of t.outer.paper = ap depth_of does.leaves.paper ∙ ap (λ z. z.depth) (outer_size host t.outer.paper call) in
    subst (λ n. Trace c n (layer_of c t.outer) (record { event = called call got; stands = t'.outer } ∷ outer_view steps)) e
    (outer_then c host ne t.outer.paper call got t'.outer (outer_view steps) does.answers does.leaves.paper
    (outer_trace c host ne (depth_of t.outer.paper) rest d))
outer_trace c host ne depth (house.inner {t = t} {t' = t'} {steps = steps} does rest) e =
    host_then c depth host ne t.outer.paper t'.inner.screen t'.outer (outer_view steps) does.outer_leaves.paper
    (outer_trace c host ne depth rest (ap depth_of does.outer_leaves.paper ∙ e))

inner_trace : (c host depth : ℕ) {t : House} {steps : List HouseStep} → Mixed host t steps → depth_of t.inner.paper ≡ depth → Trace c depth (layer_of c t.inner) (inner_view steps)
inner_trace c host depth house.ends e = done
inner_trace c host depth (house.outer {t = t} {t' = t'} {steps = steps} does rest) e =
    quiet_then c depth (layer_of c t.inner) _ (inner_view steps)
    (quiet_elsewhere c (layer_of c t.inner) t'.inner (ap (λ p. pixels_of c p.layers) does.inner_paper))
    (inner_trace c host depth rest (ap depth_of does.inner_paper ∙ e))
inner_trace c host depth (house.inner {t = t} {t' = t'} {call = call} {got = got} {steps = steps} does rest) e =
    let d : depth_of t'.inner.paper ≡ depth_of t.inner.paper = ap depth_of does.does.leaves.paper ∙ ap (λ z. z.depth) (size_stays t.inner.paper call) in
    subst (λ n. Trace c n (layer_of c t.inner) (record { event = called call got; stands = t'.inner } ∷ inner_view steps)) e
    (call_then c t.inner.paper call got t'.inner (inner_view steps) does.does.answers does.does.leaves.paper
    (inner_trace c host (depth_of t.inner.paper) rest d))

-- ── The screens ──

-- A call to the outer desk leaves the inner screen.
screen_stays : (host : ℕ) (t t' : House) (call : Call) (got : Answer) → StandsOn host t → OuterDoes host t call got t' → t'.inner.screen ≡ t.inner.screen
screen_stays host t t' call got on does =
    does.stands_on.screen_is_pane ∙ ap (pane host) does.leaves.paper ∙ pane_stays host t.outer.paper call ∙ sym on.screen_is_pane

-- Each desk's screen is what its layers show, and the layers are clean, the host's too.
pub record TrueHouse (host : ℕ) (t : House) : Type 0 where
  pub stands_on : StandsOn host t
  pub outer_true : TrueToPaper t.outer
  pub inner_true : TrueToPaper t.inner
  pub outer_clean : AllClean t.outer.paper.layers
  pub inner_clean : AllClean t.inner.paper.layers

true_clean : (s : State) → TrueToPaper s → Clean s.screen
true_clean s t = subst Clean (sym t.screen) (screen_clean s.paper)

clean_outer_after : (host : ℕ) (d : Desk) (call : Call) → AllClean d.layers → AllClean (outer_after host d call).layers
unfolding outer_after
clean_outer_after host d call a = go (refused_for_host host call)
  where
    go : (b : Bool) → AllClean (cond b d (after d call)).layers
    go true = a
    go false = clean_after d call a

clean_in : {d e : Desk} → d ≡ e → AllClean e.layers → AllClean d.layers
clean_in same = subst (λ p. AllClean p.layers) (sym same)

pub mixed_true : (host : ℕ) {t : House} {steps : List HouseStep} → Mixed host t steps → TrueHouse host t → TrueHouse host (house_end t steps)
mixed_true host house.ends h = h
mixed_true host (house.outer {t = t} {t' = t'} {call = call} {got = got} does rest) h =
    mixed_true host rest (record {
      stands_on = does.stands_on;
      outer_true = stays_true h.outer_true does.leaves (outer_size host t.outer.paper call);
      inner_true = record {
        screen = screen_stays host t t' call got h.stands_on does ∙ h.inner_true.screen ∙ ap screen_of (sym does.inner_paper);
        used = does.inner_used ∙ h.inner_true.used ∙ ap hidden_count (sym does.inner_paper);
      };
      outer_clean = clean_in does.leaves.paper (clean_outer_after host t.outer.paper call h.outer_clean);
      inner_clean = clean_in does.inner_paper h.inner_clean;
    })
mixed_true host (house.inner {t = t} {t' = t'} {call = call} does rest) h =
    let inner_true : TrueToPaper t'.inner = stays_true h.inner_true does.does.leaves (size_stays t.inner.paper call) in
    mixed_true host rest (record {
      stands_on = does.stands_on;
      outer_true = stays_true h.outer_true does.outer_leaves refl;
      inner_true = inner_true;
      outer_clean = clean_in does.outer_leaves.paper (clean_repaint host t'.inner.screen t.outer.paper (true_clean t'.inner inner_true) h.outer_clean);
      inner_clean = clean_in does.does.leaves.paper (clean_after t.inner.paper call h.inner_clean);
    })

-- at the end each desk stands as the house does
outer_end : (t : House) (steps : List HouseStep) → end_of t.outer (outer_view steps) ≡ (house_end t steps).outer
outer_end t [] = refl
outer_end t (m ∷ steps) = outer_end m.stands steps

inner_end : (t : House) (steps : List HouseStep) → end_of t.inner (inner_view steps) ≡ (house_end t steps).inner
inner_end t [] = refl
inner_end t (m ∷ steps) = inner_end m.stands steps

end-++ : (s : State) (xs : List Step) (m : Step) (ys : List Step) → end_of s (xs ++ (m ∷ ys)) ≡ end_of m.stands ys
end-++ s [] m ys = refl
end-++ s (x ∷ xs) m ys = end-++ x.stands xs m ys

-- No call to the outer desk alters the inner screen.

is_outer : HouseCall → Bool
is_outer (for_outer call) = true
is_outer (for_inner call) = false

not_outer : (call call' : Call) → for_inner call ≡ for_outer call' → ⊥
unfolding is_outer
not_outer call call' e = true≢false (sym (ap is_outer e))

pub stays_everywhere : (host : ℕ) {t : House} {steps : List HouseStep} → Mixed host t steps → StandsOn host t → InnerScreenStays t steps
stays_everywhere host house.ends on [] rest call got t' e = let n = ap length e in absurd (omega arith)
stays_everywhere host house.ends on (m ∷ ms) rest call got t' e = let n = ap length e in absurd (omega arith)
stays_everywhere host (house.outer {t = t} {t' = u} {call = k} {got = g} does more) on [] rest call got t' e =
    ap (λ m. m.stands.inner.screen) (sym (head-eq_of_cons-eq e)) ∙ screen_stays host t u k g on does
stays_everywhere host (house.outer does more) on (m ∷ ms) rest call got t' e =
    stays_everywhere host more does.stands_on ms rest call got t' (tail-eq_of_cons-eq e)
    ∙ ap (λ n. (house_end n.stands ms).inner.screen) (head-eq_of_cons-eq e)
stays_everywhere host (house.inner {call = k} does more) on [] rest call got t' e =
    absurd (not_outer k call (ap (λ m. m.call) (head-eq_of_cons-eq e)))
stays_everywhere host (house.inner does more) on (m ∷ ms) rest call got t' e =
    stays_everywhere host more does.stands_on ms rest call got t' (tail-eq_of_cons-eq e)
    ∙ ap (λ n. (house_end n.stands ms).inner.screen) (head-eq_of_cons-eq e)

-- ── Runs in houses ──

module _ {start : State} (r : HouseRun start) where
  outer_run_trace : (c : ℕ) → c ≢ r.host → (depth : ℕ) → depth_of start.paper ≡ depth → Trace c depth (layer_of c start) (outer_steps r)
  outer_run_trace c ne depth e =
      let d : depth_of r.made.outer.paper ≡ depth = ap depth_of r.is_made.outer_leaves.paper ∙ ap (λ z. z.depth) (run_size r.is_run) ∙ e in
      run_then c depth _ r.is_run e
      (host_then c depth r.host ne (end_of start r.alone).paper r.made.inner.screen r.made.outer (outer_view r.mixed) r.is_made.outer_leaves.paper
      (outer_trace c r.host ne depth r.is_mixed d))

  inner_run_trace : (c depth : ℕ) → depth_of r.made.inner.paper ≡ depth → Trace c depth None (inner_steps r)
  inner_run_trace c depth e =
      subst (λ o. Trace c depth o (inner_steps r)) (ap (layer_of c) r.is_made.inner_new) (inner_trace c r.host depth r.is_mixed e)

  -- The making leaves a true house, and so does every call after it.
  pub made_true : TrueToPaper start → AllClean start.paper.layers → TrueHouse r.host r.made
  made_true t a =
      let inner_true : TrueToPaper r.made.inner = subst TrueToPaper (sym r.is_made.inner_new) (new_true (sizes (pane r.host (end_of start r.alone).paper)) r.slots) in
      record {
        stands_on = r.is_made.stands_on;
        outer_true = stays_true (run_true r.is_run t) r.is_made.outer_leaves refl;
        inner_true = inner_true;
        outer_clean = clean_in r.is_made.outer_leaves.paper (clean_repaint r.host r.made.inner.screen (end_of start r.alone).paper (true_clean r.made.inner inner_true) (run_clean r.is_run a));
        inner_clean = clean_in (ap (λ s. s.paper) r.is_made.inner_new) tt;
      }

  pub house_run_true : TrueToPaper start → AllClean start.paper.layers → TrueHouse r.host (house_end r.made r.mixed)
  house_run_true t a = mixed_true r.host r.is_mixed (made_true t a)

  outer_run_end : end_of start (outer_steps r) ≡ (house_end r.made r.mixed).outer
  outer_run_end = end-++ start r.alone _ (outer_view r.mixed) ∙ outer_end r.made r.mixed

module _ (size₁ : Size) (slots₁ : ℕ) (size₂ : Size) (slots₂ : ℕ) (one : HouseRun (new_state size₁ slots₁)) (two : HouseRun (new_state size₂ slots₂)) where
  pub house_runs_keep_apart : HouseRunsKeepApart one two
  house_runs_keep_apart =
      let s₁ = new_state size₁ slots₁ in
      let s₂ = new_state size₂ slots₂ in
      let h₁ = house_run_true one (new_true size₁ slots₁) tt in
      let h₂ = house_run_true two (new_true size₂ slots₂) tt in
      record {
        inner_isolated = λ c e p.
            let d = depth_of one.made.inner.paper in
            same_view c d one.made.inner (inner_steps one) two.made.inner (inner_steps two) None
            (ap (layer_of c) one.is_made.inner_new) (ap (layer_of c) two.is_made.inner_new)
            (inner_run_trace one c d refl) (inner_run_trace two c d (sym e)) p;
        outer_isolated = λ c ne₁ ne₂ e p.
            same_view c size₁.depth s₁ (outer_steps one) s₂ (outer_steps two) None refl refl
            (outer_run_trace one c ne₁ size₁.depth refl) (outer_run_trace two c ne₂ size₁.depth (sym e)) p;
        inner_settled = subst₂ Settled (sym (inner_end one.made one.mixed)) (sym (inner_end two.made two.mixed))
            (settled _ _ h₁.inner_true h₂.inner_true h₁.inner_clean h₂.inner_clean);
        outer_settled = subst₂ Settled (sym (outer_run_end one)) (sym (outer_run_end two))
            (settled _ _ h₁.outer_true h₂.outer_true h₁.outer_clean h₂.outer_clean);
      }
