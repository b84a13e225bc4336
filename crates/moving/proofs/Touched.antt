-- Coordinates as calls get them.
use Rattle.std.proofs.Common.{◌≡◌, ℕ, ◌<◌, min, ℤ, pos, arith, w16, SFits, to_z, of_z}
use Rattle.std.proofs.lemmas.Int.{ints}

-- one below 32,768, by `coordinate`
pub as_given : (z : ℤ) (x : ℕ) → z ≡ pos (min x 32767) → x < 32768 → to_z w16 (of_z w16 z) ≡ pos x
as_given z x e h = omega (arith, ints)

pub as_was : (z : ℤ) → SFits w16 z → to_z w16 (of_z w16 z) ≡ z
as_was z f = omega (arith, ints)
