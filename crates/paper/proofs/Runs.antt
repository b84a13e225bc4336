-- Runs of one desk keep apart.
use Rattle.std.proofs.Common.{◌≡◌, ℕ, Bool, true, false, cond, eqb, List, [], ◌∷◌, ◌++◌, None, Option, sym, refl, ap, ◌∙◌, subst, ap₂, append-nil}
use Rattle.std.proofs.lemmas.Bool.{eqb-true}
use Rattle.raster.specs.Picture.{Picture, sizes}
use Rattle.raster.specs.declared.size.Size.{Size}
use Rattle.paper.specs.Layers.{Desk, pixels_of, screen_of}
use Rattle.paper.specs.Slots.{hidden_in, count_patches, hidden_count}
use Rattle.paper.specs.Desk.{Call, client_of, Answer, answer, after}
use Rattle.paper.specs.Run.{State, new_state, Does, called, elsewhere, Step, end_of, Run, ends, calls, if_open, if_drawing, accepted, layer_of}
use Rattle.paper.specs.Apart.{Shows, Settled, RunsKeepApart}
use Rattle.paper.proofs.View.{own_answers, own_next, answers_are, next_is, other_stays, size_stays}
use Rattle.paper.proofs.Clean.{AllClean, same_layers, clean_after}
use Rattle.paper.proofs.Screen.{TrueToPaper, new_true, stays_true}
use Rattle.paper.proofs.Trace.{Quiet, Trace, done, quiet, own, same_view}

-- ── A run as one client sees it ──

-- A step that is none of the client's: a call of another, or something elsewhere.
pub quiet_step : (c : ℕ) (o : Option Picture) (call : Call) (got : Answer) (s : State) → eqb (client_of call) c ≡ false → layer_of c s ≡ o → Quiet c o (record { event = called call got; stands = s })
quiet_step c o call got s e stays = record {
  no_call = ap (λ b. cond b (call ∷ []) []) e;
  no_open = ap (λ b. cond b (if_open call got) []) e;
  no_answer = ap (λ b. cond b (if_drawing call got) []) e;
  stays = stays;
}

pub quiet_elsewhere : (c : ℕ) (o : Option Picture) (s : State) → layer_of c s ≡ o → Quiet c o (record { event = elsewhere; stands = s })
quiet_elsewhere c o s stays = record { no_call = refl; no_open = refl; no_answer = refl; stays = stays }

-- A quiet step before a trace.
pub quiet_then : (c depth : ℕ) (o : Option Picture) (m : Step) (steps : List Step) → Quiet c o m → Trace c depth (layer_of c m.stands) steps → Trace c depth o (m ∷ steps)
quiet_then c depth o m steps q t = quiet q (subst (λ p. Trace c depth p steps) q.stays t)

-- A call before a trace, which the desk answers and leaves as on paper.
pub call_then : (c : ℕ) (d : Desk) (call : Call) (got : Answer) (s : State) (steps : List Step) → got ≡ answer d call → s.paper ≡ after d call
    → Trace c d.size.depth (layer_of c s) steps
    → Trace c d.size.depth (pixels_of c d.layers) (record { event = called call got; stands = s } ∷ steps)
call_then c d call got s steps a l t = go (eqb (client_of call) c) refl
  where
    go : (b : Bool) → eqb (client_of call) c ≡ b → Trace c d.size.depth (pixels_of c d.layers) (record { event = called call got; stands = s } ∷ steps)
    go true e =
        let same : client_of call ≡ c = eqb-true (client_of call) c e in
        own (record {
          call = call;
          got = got;
          one_call = ap (λ b. cond b (call ∷ []) []) e;
          if_open_is = ap (λ b. cond b (if_open call got) []) e;
          answers = ap (λ b. cond b (if_drawing call got) []) e ∙ ap (if_drawing call) a ∙ answers_are d call ∙ ap (λ k. own_answers d.size.depth (pixels_of k d.layers) call) same;
          next = ap (λ p. pixels_of c p.layers) l ∙ ap (λ k. pixels_of k (after d call).layers) (sym same) ∙ next_is d call ∙ ap₂ (λ k g. own_next d.size.depth (pixels_of k d.layers) call (accepted g)) same (sym a);
        }) t
    go false e =
        quiet_then c d.size.depth (pixels_of c d.layers) _ steps
        (quiet_step c (pixels_of c d.layers) call got s e (ap (λ p. pixels_of c p.layers) l ∙ other_stays c d call e)) t

does_size : {s s' : State} {call : Call} {got : Answer} → Does s call got s' → s'.paper.size ≡ s.paper.size
does_size {s} {call = call} does = ap (λ p. p.size) does.leaves.paper ∙ size_stays s.paper call

-- A run, and what comes after it.
pub run_then : (c depth : ℕ) {s : State} {steps : List Step} (rest : List Step) → Run s steps → s.paper.size.depth ≡ depth
    → Trace c depth (layer_of c (end_of s steps)) rest → Trace c depth (layer_of c s) (steps ++ rest)
run_then c depth rest ends e t = t
run_then c depth rest (calls {s = s} {s' = s'} {call = call} {got = got} {steps = steps} does more) e t =
    let d : s'.paper.size.depth ≡ s.paper.size.depth = ap (λ z. z.depth) (does_size does) in
    subst (λ n. Trace c n (layer_of c s) (record { event = called call got; stands = s' } ∷ (steps ++ rest))) e
    (call_then c s.paper call got s' (steps ++ rest) does.answers does.leaves.paper
    (run_then c s.paper.size.depth rest more d (subst (λ n. Trace c n (layer_of c (end_of s' steps)) rest) (sym e) t)))

-- What every call keeps true of the desk on paper is true at the end of a run.
pub run_keeps : (P : Desk → Type 0) → ((d : Desk) (call : Call) → P d → P (after d call)) → {s : State} {steps : List Step} → Run s steps → P s.paper → P (end_of s steps).paper
run_keeps P step ends p = p
run_keeps P step (calls {s = s} {call = call} does more) p = run_keeps P step more (subst P (sym does.leaves.paper) (step s.paper call p))

pub run_size : {s : State} {steps : List Step} → Run s steps → (end_of s steps).paper.size ≡ s.paper.size
run_size {s} r = run_keeps (λ d. d.size ≡ s.paper.size) (λ d call e. size_stays d call ∙ e) r refl

-- ── The screen at the end of a run ──

pub run_true : {s : State} {steps : List Step} → Run s steps → TrueToPaper s → TrueToPaper (end_of s steps)
run_true ends t = t
run_true (calls {s = s} {call = call} does more) t = run_true more (stays_true t does.leaves (size_stays s.paper call))

pub run_clean : {s : State} {steps : List Step} → Run s steps → AllClean s.paper.layers → AllClean (end_of s steps).paper.layers
run_clean r a = run_keeps (λ d. AllClean d.layers) clean_after r a

-- The screen and the hidden patches do not depend on the number of slots.
screen_same : (d e : Desk) → d.size ≡ e.size → d.layers ≡ e.layers → screen_of d ≡ screen_of e
unfolding screen_of
screen_same d e s l = ap₂ (λ a b. screen_of (record { size = a; slots = 0; layers = b })) s l

hidden_same : (d e : Desk) → d.size ≡ e.size → d.layers ≡ e.layers → hidden_count d ≡ hidden_count e
unfolding hidden_count
hidden_same d e s l = ap₂ (λ a b. count_patches (hidden_in a b) b) s l

pub true_shows : (s : State) → TrueToPaper s → Shows s
unfolding screen_of
true_shows s t = record {
  size = ap sizes t.screen;
  pixels = λ x y. ap (λ p. p.at x y) t.screen;
  used = t.used;
}

pub settled : (s₁ s₂ : State) → TrueToPaper s₁ → TrueToPaper s₂ → AllClean s₁.paper.layers → AllClean s₂.paper.layers → Settled s₁ s₂
settled s₁ s₂ t₁ t₂ a₁ a₂ same =
    let layers = same_layers same.layers a₁ a₂ in
    record {
      screens = t₁.screen ∙ screen_same s₁.paper s₂.paper same.size layers ∙ sym t₂.screen;
      used = t₁.used ∙ hidden_same s₁.paper s₂.paper same.size layers ∙ sym t₂.used;
      first = true_shows s₁ t₁;
      second = true_shows s₂ t₂;
    }

-- From a new desk on, the screen is what the screen rule shows, and as many slots are in use as patches are hidden.
pub run_shows : (size : Size) (slots : ℕ) (steps : List Step) → Run (new_state size slots) steps → Shows (end_of (new_state size slots) steps)
run_shows size slots steps r = true_shows (end_of (new_state size slots) steps) (run_true r (new_true size slots))

pub runs_keep_apart : (size₁ : Size) (slots₁ : ℕ) (size₂ : Size) (slots₂ : ℕ) (one two : List Step) → Run (new_state size₁ slots₁) one → Run (new_state size₂ slots₂) two
    → RunsKeepApart (new_state size₁ slots₁) (new_state size₂ slots₂) one two
runs_keep_apart size₁ slots₁ size₂ slots₂ one two r₁ r₂ = record {
  isolated = λ c e p.
      same_view c size₁.depth (new_state size₁ slots₁) one (new_state size₂ slots₂) two None refl refl
      (run_trace c size₁.depth r₁ refl) (run_trace c size₁.depth r₂ (sym e)) p;
  settled = settled (end_of (new_state size₁ slots₁) one) (end_of (new_state size₂ slots₂) two)
      (run_true r₁ (new_true size₁ slots₁)) (run_true r₂ (new_true size₂ slots₂)) (run_clean r₁ tt) (run_clean r₂ tt);
}
  where
    run_trace : (c depth : ℕ) {s : State} {steps : List Step} → Run s steps → s.paper.size.depth ≡ depth → Trace c depth (layer_of c s) steps
    run_trace c depth {s} {steps} r e = subst (Trace c depth (layer_of c s)) (append-nil steps) (run_then c depth [] r e done)
