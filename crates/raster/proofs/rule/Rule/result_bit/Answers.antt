use Rattle.std.proofs.Common.{ℕ, List, [], ◌∷◌, refl, arith}
use Rattle.raster.proofs.Digits.{table_rule}
use Rattle.raster.proofs.rule.Rule.result_bit.Goals as goal

abbrev row : ℕ → ℕ → ℕ → ℕ → List ℕ
row a b c d = a ∷ b ∷ c ∷ d ∷ []

-- the table, whose rule `refl` tests at all of its entries
rows : List (List ℕ)
rows =
    row 0 0 0 0 ∷ row 0 0 0 1 ∷ row 0 0 1 0 ∷ row 0 0 1 1 ∷ row 0 1 0 0 ∷ row 0 1 0 1 ∷ row 0 1 1 0 ∷ row 0 1 1 1
    ∷ row 1 0 0 0 ∷ row 1 0 0 1 ∷ row 1 0 1 0 ∷ row 1 0 1 1 ∷ row 1 1 0 0 ∷ row 1 1 0 1 ∷ row 1 1 1 0 ∷ row 1 1 1 1 ∷ []

pub returns : goal.returns
unfolding rows
returns c = table_rule rows refl c.args.self.number _ (omega arith) (omega arith)
