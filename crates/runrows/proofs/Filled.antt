-- A list after the m entries from a were filled with one value.
use Rattle.std.proofs.Common.{◌≡◌, ℕ, ◌+◌, ◌-◌, ◌<◌, ◌≤◌, List, length, get_or, take, drop, replicate, ap, ◌∙◌, arith, rules}
use borrow.Rule.Slice.PartMut.{put_mid}
use Rattle.std.proofs.lemmas.List.{length-take, length-drop, get_or-replicate, places}

module _ (xs ys : List ℕ) (a m v : ℕ) (room : a + m ≤ length xs) (is : ys ≡ replicate (length (take m (drop a xs))) v) where
  filled : ys ≡ replicate m v
  filled = is ∙ ap (λ n. replicate n v) (simp (length-take, length-drop) (omega arith))

  pub filled_length : length (put_mid a m xs ys) ≡ length xs
  filled_length = let l : length ys ≡ m = search (rules, filled, places) in search (rules, places)

  pub filled_before : (k : ℕ) → k < a → get_or (put_mid a m xs ys) k 0 ≡ get_or xs k 0
  filled_before k h = search (rules, places)

  pub filled_within : (k : ℕ) → a ≤ k → k < a + m → get_or (put_mid a m xs ys) k 0 ≡ v
  filled_within k h l =
      let e : get_or (put_mid a m xs ys) k 0 ≡ get_or ys (k - a) 0 = search (rules, places) in
      e ∙ ap (λ (zs : List ℕ). get_or zs (k - a) 0) filled ∙ get_or-replicate m (k - a) v 0 (omega arith)
