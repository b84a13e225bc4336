-- A client's pixels and answers, told from its own calls and how its opens fared alone.
use Rattle.std.proofs.Common.{◌≡◌, ℕ, zero, suc, ◌+◌, Bool, true, false, cond, eqb, List, [], ◌∷◌, ◌++◌, length, take, drop, Ok, Option, sym, refl, ap, ◌∙◌, subst, ap₂, subst₂, append_assoc, add_assoc, zero-add, arith, length-append, take-append-drop}
use Rattle.raster.specs.Picture.{Picture, sizes}
use Rattle.raster.specs.declared.transfer.Transfer.{Transfer}
use Rattle.raster.specs.Calls.{unless, if_refused}
use Rattle.paper.specs.Layers.{blank, or_blank}
use Rattle.paper.specs.Desk.{Call, open_layer, close_layer, raise_layer, lower_layer, move_layer, fill_layer, scroll_layer, stamp_layer, read_layer, client_of, Answer}
use Rattle.paper.specs.Run.{State, Event, called, elsewhere, Step, state_after, end_of, own_call, calls_of, accepted, if_open, own_open, opens_of, own_answer, answers_of, layer_of, Alike, none, more, SamePicture, SameCall, equal, equal_stamp}
use Rattle.paper.specs.Apart.{SamePart, SameView}
use Rattle.paper.proofs.Layers.{repainted}
use Rattle.paper.proofs.View.{own_fault, own_answers, own_next}
use Rattle.paper.proofs.Pictures.{count_same, blt_same}

-- How the next open fares, and how those after it do.
abbrev fared : List Bool → Bool
fared [] = false
fared (b ∷ bs) = b

abbrev later : Call → List Bool → List Bool
later (open_layer c x y w h) [] = []
later (open_layer c x y w h) (b ∷ bs) = bs
later (close_layer c) bs = bs
later (raise_layer c) bs = bs
later (lower_layer c) bs = bs
later (move_layer c x y) bs = bs
later (fill_layer c rule v x y w h) bs = bs
later (scroll_layer c t) bs = bs
later (stamp_layer c t source) bs = bs
later (read_layer c x y) bs = bs

abbrev replay : ℕ → Option Picture → List Call → List Bool → Option Picture
replay depth o [] bs = o
replay depth o (k ∷ ks) bs = replay depth (own_next depth o k (fared bs)) ks (later k bs)

abbrev replay_answers : ℕ → Option Picture → List Call → List Bool → List Answer
replay_answers depth o [] bs = []
replay_answers depth o (k ∷ ks) bs = own_answers depth o k ++ replay_answers depth (own_next depth o k (fared bs)) ks (later k bs)

later_is : (k : Call) (got : Answer) (bs : List Bool) → later k (if_open k got ++ bs) ≡ bs
later_is (open_layer c x y w h) got bs = refl
later_is (close_layer c) got bs = refl
later_is (raise_layer c) got bs = refl
later_is (lower_layer c) got bs = refl
later_is (move_layer c x y) got bs = refl
later_is (fill_layer c rule v x y w h) got bs = refl
later_is (scroll_layer c t) got bs = refl
later_is (stamp_layer c t source) got bs = refl
later_is (read_layer c x y) got bs = refl

next_fared : (depth : ℕ) (o : Option Picture) (k : Call) (got : Answer) (bs : List Bool) → own_next depth o k (fared (if_open k got ++ bs)) ≡ own_next depth o k (accepted got)
next_fared depth o (open_layer c x y w h) got bs = refl
next_fared depth o (close_layer c) got bs = refl
next_fared depth o (raise_layer c) got bs = refl
next_fared depth o (lower_layer c) got bs = refl
next_fared depth o (move_layer c x y) got bs = refl
next_fared depth o (fill_layer c rule v x y w h) got bs = refl
next_fared depth o (scroll_layer c t) got bs = refl
next_fared depth o (stamp_layer c t source) got bs = refl
next_fared depth o (read_layer c x y) got bs = refl

replay_own : (depth : ℕ) (o : Option Picture) (k : Call) (got : Answer) (ks : List Call) (bs : List Bool) → replay depth o (k ∷ ks) (if_open k got ++ bs) ≡ replay depth (own_next depth o k (accepted got)) ks bs
replay_own depth o k got ks bs = ap₂ (λ q r. replay depth q ks r) (next_fared depth o k got bs) (later_is k got bs)

-- A step that is no call of the client leaves its pixels; a call of its own is answered and leaves
-- pixels by the client's pixels before it.
pub record Quiet (c : ℕ) (o : Option Picture) (m : Step) : Type 0 where
  pub no_call : own_call c m.event ≡ []
  pub no_open : own_open c m.event ≡ []
  pub no_answer : own_answer c m.event ≡ []
  pub stays : layer_of c m.stands ≡ o

pub record Own (c depth : ℕ) (o : Option Picture) (m : Step) : Type 0 where
  pub call : Call
  pub got : Answer
  pub one_call : own_call c m.event ≡ call ∷ []
  pub if_open_is : own_open c m.event ≡ if_open call got
  pub answers : own_answer c m.event ≡ own_answers depth o call
  pub next : layer_of c m.stands ≡ own_next depth o call (accepted got)

pub data Trace (c depth : ℕ) : Option Picture → List Step → Type 0 where
  done : {o : Option Picture} → Trace c depth o []
  quiet : {o : Option Picture} {m : Step} {steps : List Step} → Quiet c o m → Trace c depth o steps → Trace c depth o (m ∷ steps)
  own : {o : Option Picture} {m : Step} {steps : List Step} → Own c depth o m → Trace c depth (layer_of c m.stands) steps → Trace c depth o (m ∷ steps)

module _ (c depth : ℕ) where
  end_is : {o : Option Picture} {steps : List Step} → Trace c depth o steps → (s : State) → layer_of c s ≡ o → layer_of c (end_of s steps) ≡ replay depth o (calls_of c steps) (opens_of c steps)
  end_is done s e = e
  end_is (quiet {m = m} q t) s e = rw (q.no_call, q.no_open) (end_is t m.stands q.stays)
  end_is (own {o = o} {m = m} {steps = steps} w t) s e =
      rw (w.one_call, w.if_open_is)
      (end_is t m.stands refl
      ∙ ap (λ q. replay depth q (calls_of c steps) (opens_of c steps)) w.next
      ∙ sym (replay_own depth o w.call w.got (calls_of c steps) (opens_of c steps)))

  answers_told : {o : Option Picture} {steps : List Step} → Trace c depth o steps → answers_of c steps ≡ replay_answers depth o (calls_of c steps) (opens_of c steps)
  answers_told done = refl
  answers_told (quiet {m = m} q t) = rw (q.no_call, q.no_open, q.no_answer) (answers_told t)
  answers_told (own {o = o} {m = m} {steps = steps} w t) =
      rw (w.one_call, w.if_open_is, w.answers, next_fared depth o w.call w.got (opens_of c steps), later_is w.call w.got (opens_of c steps), ← w.next) (ap (λ more. own_answers depth o w.call ++ more) (answers_told t))

  -- the first steps of a trace are a trace
  trace_take : (n : ℕ) {o : Option Picture} {steps : List Step} → Trace c depth o steps → Trace c depth o (take n steps)
  trace_take zero t = done
  trace_take (suc n) done = done
  trace_take (suc n) (quiet q t) = quiet q (trace_take n t)
  trace_take (suc n) (own w t) = own w (trace_take n t)

  calls-++ : (xs ys : List Step) → calls_of c (xs ++ ys) ≡ calls_of c xs ++ calls_of c ys
  calls-++ [] ys = refl
  calls-++ (m ∷ xs) ys = ap (λ more. own_call c m.event ++ more) (calls-++ xs ys) ∙ sym (append_assoc (own_call c m.event) (calls_of c xs) (calls_of c ys))

  opens-++ : (xs ys : List Step) → opens_of c (xs ++ ys) ≡ opens_of c xs ++ opens_of c ys
  opens-++ [] ys = refl
  opens-++ (m ∷ xs) ys = ap (λ more. own_open c m.event ++ more) (opens-++ xs ys) ∙ sym (append_assoc (own_open c m.event) (opens_of c xs) (opens_of c ys))

  calls_split : (n : ℕ) (steps : List Step) → calls_of c steps ≡ calls_of c (take n steps) ++ calls_of c (drop n steps)
  calls_split n steps = ap (calls_of c) (sym (take-append-drop n steps)) ∙ calls-++ (take n steps) (drop n steps)

  opens_split : (n : ℕ) (steps : List Step) → opens_of c steps ≡ opens_of c (take n steps) ++ opens_of c (drop n steps)
  opens_split n steps = ap (opens_of c) (sym (take-append-drop n steps)) ∙ opens-++ (take n steps) (drop n steps)

-- the opens among some calls
abbrev opens_in : List Call → ℕ
opens_in [] = 0
opens_in (k ∷ ks) = length (if_open k (Ok 0)) + opens_in ks

one_each : (k : Call) (got : Answer) → length (if_open k got) ≡ length (if_open k (Ok 0)) + 0
one_each (open_layer c x y w h) got = refl
one_each (close_layer c) got = refl
one_each (raise_layer c) got = refl
one_each (lower_layer c) got = refl
one_each (move_layer c x y) got = refl
one_each (fill_layer c rule v x y w h) got = refl
one_each (scroll_layer c t) got = refl
one_each (stamp_layer c t source) got = refl
one_each (read_layer c x y) got = refl

opens_in_event : (c : ℕ) (e : Event) → length (own_open c e) ≡ opens_in (own_call c e)
opens_in_event c (called k got) = go (eqb (client_of k) c)
  where
    go : (b : Bool) → length (cond b (if_open k got) []) ≡ opens_in (cond b (k ∷ []) [])
    go true = one_each k got
    go false = refl
opens_in_event c elsewhere = refl

opens_in-++ : (ks ls : List Call) → opens_in (ks ++ ls) ≡ opens_in ks + opens_in ls
opens_in-++ [] ls = sym (zero-add (opens_in ls))
opens_in-++ (k ∷ ks) ls = ap (λ n. length (if_open k (Ok 0)) + n) (opens_in-++ ks ls) ∙ sym (add_assoc (length (if_open k (Ok 0))) (opens_in ks) (opens_in ls))

opens_counted : (c : ℕ) (steps : List Step) → length (opens_of c steps) ≡ opens_in (calls_of c steps)
opens_counted c [] = refl
opens_counted c (m ∷ steps) =
    length-append (own_open c m.event) (opens_of c steps)
    ∙ ap₂ (λ a b. a + b) (opens_in_event c m.event) (opens_counted c steps)
    ∙ sym (opens_in-++ (own_call c m.event) (calls_of c steps))

-- equally long beginnings of lists that agree, agree
same_start : {A : Type 0} (R : A → A → Type 0) (a b x y : List A) → Alike R (a ++ b) (x ++ y) → length a ≡ length x → Alike R a x
same_start R [] b [] y e n = none
same_start R [] b (x ∷ xs) y e n = absurd (omega arith)
same_start R (a ∷ as') b [] y e n = absurd (omega arith)
same_start R (a ∷ as') b (x ∷ xs) y (more r e) n = more r (same_start R as' b xs y e (omega arith))

alike_refl : {A : Type 0} (xs : List A) → Alike (λ x y. x ≡ y) xs xs
alike_refl [] = none
alike_refl (x ∷ xs) = more refl (alike_refl xs)

alike_is : {A : Type 0} {xs ys : List A} → Alike (λ x y. x ≡ y) xs ys → xs ≡ ys
alike_is none = refl
alike_is (more e es) = ap₂ (λ a b. a ∷ b) e (alike_is es)

-- ── The same calls ──

-- of a stamp-layer's source only the depth is checked
same_fault : (depth : ℕ) (o : Option Picture) (c : ℕ) (t : Transfer) {p q : Picture} → SamePicture p q → own_fault depth o (stamp_layer c t p) ≡ own_fault depth o (stamp_layer c t q)
same_fault depth o c t s = λ i. own_fault depth o (stamp_layer c t (blank 0 0 (s.depth i)))

same_next : (depth : ℕ) (o : Option Picture) {k k' : Call} → SameCall k k' → (b : Bool) → own_next depth o k b ≡ own_next depth o k' b
same_next depth o equal b = refl
same_next depth o (equal_stamp {c = c} {t = t} s) b =
    ap₂ (λ f p. if_refused f o (repainted o p)) (same_fault depth o c t s) (blt_same s t (or_blank depth o))

same_answers : (depth : ℕ) (o : Option Picture) {k k' : Call} → SameCall k k' → own_answers depth o k ≡ own_answers depth o k'
same_answers depth o equal = refl
same_answers depth o (equal_stamp {c = c} {t = t} s) = ap₂ (λ f n. unless f n ∷ []) (same_fault depth o c t s) (count_same s t (sizes (or_blank depth o)))

same_later : {k k' : Call} → SameCall k k' → (bs : List Bool) → later k bs ≡ later k' bs
same_later equal bs = refl
same_later (equal_stamp s) bs = refl

replay_same : (depth : ℕ) (o : Option Picture) {ks ls : List Call} (bs : List Bool) → Alike SameCall ks ls → replay depth o ks bs ≡ replay depth o ls bs
replay_same depth o bs none = refl
replay_same depth o bs (more {x = k} {y = l} {xs = ks} {ys = ls} s ss) =
    replay_same depth (own_next depth o k (fared bs)) (later k bs) ss
    ∙ ap₂ (λ q r. replay depth q ls r) (same_next depth o s (fared bs)) (same_later s bs)

replay_answers_same : (depth : ℕ) (o : Option Picture) {ks ls : List Call} (bs : List Bool) → Alike SameCall ks ls → replay_answers depth o ks bs ≡ replay_answers depth o ls bs
replay_answers_same depth o bs none = refl
replay_answers_same depth o bs (more {x = k} {y = l} {xs = ks} {ys = ls} s ss) =
    ap₂ (λ a b. a ++ b) (same_answers depth o s)
    (replay_answers_same depth (own_next depth o k (fared bs)) (later k bs) ss
    ∙ ap₂ (λ q r. replay_answers depth q ls r) (same_next depth o s (fared bs)) (same_later s bs))

same_opens : {k k' : Call} → SameCall k k' → length (if_open k (Ok 0)) ≡ length (if_open k' (Ok 0))
same_opens equal = refl
same_opens (equal_stamp s) = refl

opens_in_same : {ks ls : List Call} → Alike SameCall ks ls → opens_in ks ≡ opens_in ls
opens_in_same none = refl
opens_in_same (more s ss) = ap₂ (λ a b. a + b) (same_opens s) (opens_in_same ss)

end_take : (n : ℕ) (s : State) (steps : List Step) → state_after n s steps ≡ end_of s (take n steps)
end_take zero s steps = refl
end_take (suc n) s [] = refl
end_take (suc n) s (m ∷ steps) = end_take n m.stands steps

-- Two traces with the same part of a client give it the same view.
pub same_view : (c depth : ℕ) (s₁ : State) (one : List Step) (s₂ : State) (two : List Step) (o : Option Picture) → layer_of c s₁ ≡ o → layer_of c s₂ ≡ o → Trace c depth o one → Trace c depth o two → SamePart c one two → SameView c s₁ one s₂ two
same_view c depth s₁ one s₂ two o e₁ e₂ t₁ t₂ p = record {
  answers =
      answers_told c depth t₁
      ∙ replay_answers_same depth o (opens_of c one) p.calls
      ∙ ap (replay_answers depth o (calls_of c two)) p.opens
      ∙ sym (answers_told c depth t₂);
  layers = λ n m same.
      let ks : Alike SameCall (calls_of c (take n one)) (calls_of c (take m two)) =
      same_start SameCall (calls_of c (take n one)) (calls_of c (drop n one)) (calls_of c (take m two)) (calls_of c (drop m two))
      (subst₂ (Alike SameCall) (calls_split c depth n one) (calls_split c depth m two) p.calls) same in
      let bs : opens_of c (take n one) ≡ opens_of c (take m two) =
      alike_is (same_start (λ x y. x ≡ y) (opens_of c (take n one)) (opens_of c (drop n one)) (opens_of c (take m two)) (opens_of c (drop m two))
      (subst (Alike (λ x y. x ≡ y) (opens_of c (take n one) ++ opens_of c (drop n one))) (sym (opens_split c depth n one) ∙ p.opens ∙ opens_split c depth m two) (alike_refl _))
      (opens_counted c (take n one) ∙ opens_in_same ks ∙ sym (opens_counted c (take m two)))) in
      ap (layer_of c) (end_take n s₁ one)
      ∙ end_is c depth (trace_take c depth n t₁) s₁ e₁
      ∙ replay_same depth o (opens_of c (take n one)) ks
      ∙ ap (replay depth o (calls_of c (take m two))) bs
      ∙ sym (end_is c depth (trace_take c depth m t₂) s₂ e₂)
      ∙ sym (ap (layer_of c) (end_take m s₂ two));
}
