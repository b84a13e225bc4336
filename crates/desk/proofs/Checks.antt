-- The checks of calls, in their order.
use Rattle.std.proofs.Common.{◌≡◌, ℕ, Bool, true, false, not, ltb, List, [], ◌∷◌, ◌++◌, Some, None, Option, sym, refl, ⊎_elim}
use Rattle.std.proofs.lemmas.Option.{none-some}
use Rattle.std.proofs.lemmas.Bool.{cases_Bool, true≢false}
use Rattle.raster.specs.Calls.{first_fault, refuse_if}
use Rattle.raster.specs.declared.refusal.Refusal.TheVariants.{ClientAboveSeven, NotOpen}
use Rattle.paper.specs.Layers.{Desk, is_open}
use Rattle.paper.specs.Desk.{no_client, not_open, because}

-- some checks before others
pub first_refuse : {F : Type 0} (checks rest : List (Option F)) (f : F) → first_fault checks ≡ Some f → first_fault (checks ++ rest) ≡ Some f
first_refuse [] rest f e = absurd (none-some _ e)
first_refuse (Some x ∷ checks) rest f e = e
first_refuse (None ∷ checks) rest f e = first_refuse checks rest f e

pub first_pass : {F : Type 0} (checks rest : List (Option F)) → first_fault checks ≡ None → first_fault (checks ++ rest) ≡ first_fault rest
first_pass [] rest e = refl
first_pass (Some x ∷ checks) rest e = absurd (none-some _ (sym e))
first_pass (None ∷ checks) rest e = first_pass checks rest e

-- three tests that refuse nothing
pub none_refuses : {F : Type 0} (a b c : Bool) (f g h : F) → first_fault (refuse_if a f ∷ refuse_if b g ∷ refuse_if c h ∷ []) ≡ None → (a ≡ false) × (b ≡ false) × (c ≡ false)
none_refuses true b c f g h e = absurd (none-some _ (sym e))
none_refuses false true c f g h e = absurd (none-some _ (sym e))
none_refuses false false true f g h e = absurd (none-some _ (sym e))
none_refuses false false false f g h e = (refl, refl, refl)

pub one_check : {F : Type 0} (o : Option F) → first_fault (o ∷ []) ≡ o
one_check (Some f) = refl
one_check None = refl

-- what passed the first two checks
module _ (c : ℕ) (d : Desk) (ok : first_fault (no_client c ∷ not_open c d ∷ []) ≡ None) where
  pub passed_open : is_open c d ≡ true
  passed_open = ⊎_elim (λ (t : is_open c d ≡ true). t) (λ (t : is_open c d ≡ false). absurd (by (ltb 7 c) (is_open c d) t ok)) (cases_Bool (is_open c d))
    where
      by : (s t : Bool) → t ≡ false → first_fault (refuse_if s (because ClientAboveSeven c) ∷ refuse_if (not t) (because NotOpen c) ∷ []) ≡ None → ⊥
      by true t e h = none-some _ (sym h)
      by false true e h = true≢false e
      by false false e h = none-some _ (sym h)
