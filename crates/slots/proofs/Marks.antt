-- Patches marked one by one.
use Rattle.std.proofs.Common.{◌≡◌, ℕ, ◌+◌, ◌<◌, Bool, false, length, List, get_or, set, sym, ap, ◌∙◌, ⊎_elim, arith}
use Rattle.std.proofs.lemmas.Bool.{cases_eq}
use Rattle.std.proofs.lemmas.List.{get_or-set_same, get_or-set_other}

-- one more mark, where those before it say what a test says
pub marked_more : (test : ℕ → Bool) (marks : List Bool) (n : ℕ) (mark : Bool) → n < length marks → mark ≡ test n
    → ((k : ℕ) → k < n → get_or marks k false ≡ test k) → (k : ℕ) → k < n + 1 → get_or (set marks n mark) k false ≡ test k
marked_more test marks n mark there here before k h =
    ⊎_elim
    (λ (e : k ≡ n). ap (λ i. get_or (set marks n mark) i false) e ∙ get_or-set_same marks n mark false there ∙ here ∙ ap test (sym e))
    (λ (ne : k ≡ n → ⊥). get_or-set_other marks n k mark false ne ∙ before k (omega arith))
    (cases_eq k n)
