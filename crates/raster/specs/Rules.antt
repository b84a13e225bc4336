-- The sixteen rules, and what a rule makes of two pixels.
use Rattle.std.specs.Prelude.{ℕ, zero, suc, ◌+◌, ◌-◌, ◌*◌, ◌/◌, ◌%◌, ◌^◌}

-- f 0 + f 1 + .. + f (n - 1)
abbrev pub total : (ℕ → ℕ) → ℕ → ℕ
total f zero = 0
total f (suc n) = total f n + f n

-- bit j of v, 0 or 1
abbrev pub bit : ℕ → ℕ → ℕ
bit v j = v / 2 ^ j % 2

-- The result bit of a rule at a source bit and a destination bit:
-- the rule is the sum of 8, 4, 2 and 1, taken where the result is 1 for (source, destination) = (0,0), (0,1), (1,0) and (1,1).
abbrev pub result : (rule source destination : ℕ) → ℕ
result rule s d = bit rule (3 - (2 * s + d))

-- Two pixels combined bit by bit over a depth; the bits above it are 0.
unfoldable pub combined : (depth rule source destination : ℕ) → ℕ
combined depth rule s d = total (λ j. result rule (bit s j) (bit d j) * 2 ^ j) depth
