-- What holds of all run rows, and what they keep from call to call.
-- Lemmas: proved, not to be believed. They stand here since the laws in the impl of Bitmap cite them.
use Rattle.std.specs.Prelude.{◌≡◌, ℕ, Bool, false, ◌&&◌, ◌||◌, nat_lt, refl}
use Rattle.std.proofs.Common.{subst, ◌∙◌, arith}
use Rattle.std.proofs.lemmas.Bool.{cond-false}
use Rattle.std.proofs.lemmas.Bool.Decides.{nat_tests}
use Rattle.raster.specs.Picture.{Sound}
use Rattle.raster.specs.declared.size.Size.{Size}
use Rattle.raster.proofs.Paints.{cond_less}
use Rattle.runrows.specs.Runs.{row_entries, Rewritten}
use Rattle.runrows.specs.Means.{entries_of, picture_of, RowsKept, RowsRewritten}
use Rattle.runrows.specs.declared.runrows.RunRows.{RunRows}
use Rattle.runrows.specs.Rows.{rewritten_none, rewritten_joins}
use Rattle.runrows.specs.Spell.{run_below}

pub rows_sound : (a : RunRows) → Sound (picture_of a)
rows_sound a =
    let s = a.size in
    record {
      wide = a.carried.0;
      high = a.carried.1;
      deep = (a.carried.2, a.carried.3);
      values = λ x y. cond_less (nat_lt x s.width && nat_lt y s.height) _ _ (run_below s.depth (row_entries (entries_of a) s.width y) x);
      outside = λ x y o. cond-false (nat_lt x s.width && nat_lt y s.height) _ _ (grind (arith, nat_tests));
    }

pub untouched : (a : RunRows) (t : ℕ → Bool) → ((y : ℕ) → t y ≡ false) → RowsRewritten t a a
untouched a t e = record { size = refl; entries = rewritten_none a.size t (entries_of a) e }

pub rows_same : (a : RunRows) → RowsKept a a
rows_same a = (λ _. false, untouched a (λ _. false) (λ _. refl))

pub rewritten_as : (a b : RunRows) (t u : ℕ → Bool) → ((y : ℕ) → t y ≡ u y) → RowsRewritten t a b → RowsRewritten u a b
rewritten_as a b t u e = subst (λ (s : ℕ → Bool). RowsRewritten s a b) (λ i y. e y i)

pub rewritten_then : (a b c : RunRows) (t u v : ℕ → Bool) → ((y : ℕ) → v y ≡ (u y || t y)) → RowsRewritten t a b → RowsRewritten u b c → RowsRewritten v a c
rewritten_then a b c t u v e p q =
    record {
      size = q.size ∙ p.size;
      entries = rewritten_joins a.size t u v (entries_of a) (entries_of b) (entries_of c) e p.entries
          (subst (λ (s : Size). Rewritten s u (entries_of b) (entries_of c)) p.size q.entries);
    }

pub rows_joins : (a b c : RunRows) → RowsKept a b → RowsKept b c → RowsKept a c
rows_joins a b c (t, p) (u, q) = (λ y. u y || t y, rewritten_then a b c t u (λ y. u y || t y) (λ y. refl) p q)
