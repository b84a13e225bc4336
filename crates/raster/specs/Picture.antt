-- What a bitmap means.
use Rattle.std.specs.Prelude.{◌≡◌, ℕ, ◌^◌, ◌<◌, ◌≤◌, Bool, cond, ◌&&◌, ◌⊎◌, ◌==◌}
use Rattle.raster.specs.declared.size.Size.{Size}

-- A width, a height, a depth, and a value for each pixel (x, y), x to the right and y downward.
pub record Picture : Type 0 where
  pub width : ℕ
  pub height : ℕ
  pub depth : ℕ
  pub at : ℕ → ℕ → ℕ

abbrev pub sizes : Picture → Size
sizes p = record { width = p.width; height = p.height; depth = p.depth }

-- What holds of every bitmap's picture. Outside its size it has no pixels, and `at` is 0.
pub record Sound (p : Picture) : Type 0 where
  pub wide : p.width ≤ 1024
  pub high : p.height ≤ 1024
  pub deep : (1 ≤ p.depth) × (p.depth ≤ 4)
  pub values : (x y : ℕ) → p.at x y < 2 ^ p.depth
  pub outside : (x y : ℕ) → (p.width ≤ x) ⊎ (p.height ≤ y) → p.at x y ≡ 0

-- The picture with other values at the pixels that a test picks.
unfoldable pub painted : Picture → (ℕ → ℕ → Bool) → (ℕ → ℕ → ℕ) → Picture
painted p test value =
    record { width = p.width; height = p.height; depth = p.depth; at = λ x y. cond (test x y) (value x y) (p.at x y) }

-- The picture with v at (x, y).
abbrev pub with_pixel : Picture → ℕ → ℕ → ℕ → Picture
with_pixel p x y v = painted p (λ a b. (a == x) && b == y) (λ _ _. v)
