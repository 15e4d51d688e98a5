-- Powers of two. Assumes nothing.
use mathlib.Core.Path.{◌≡◌, ap, ◌∙◌}
use Prim.Native.Nat.{ℕ, ◌+◌, ◌-◌, ◌*◌, ◌^◌, ◌≤◌, ◌<◌}
use native.Mathlib.Omega.{arith}
use lib.Pow.{pow-add}

-- 2 ^ j as a multiple of 2 ^ i
pub factor : (j i : ℕ) → i ≤ j → 2 ^ j ≡ 2 ^ (j - i) * 2 ^ i
factor j i h = ap (λ (z : ℕ). 2 ^ z) (split j i h) ∙ pow-add 2 (j - i) i
  where
    split : (j i : ℕ) → i ≤ j → j ≡ j - i + i
    split j i h = omega arith

-- below the exponent k a number of 24 digits has none of k's place
pub rise : (j k : ℕ) → j < k → 24 + j ≤ 23 + k
rise j k h = omega arith
