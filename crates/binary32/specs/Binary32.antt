-- What a Float is. It is `nan`, an infinity `inf s`, or `fin s m e`, the number m * 2 ^ e; each is negative where s is true.
-- There is one NaN. Assumes nothing.
use Rattle.std.specs.Prelude.{◌≡◌, Bool, ℕ, zero, suc, ◌*◌, ◌%◌, ◌^◌, ◌≤◌, ◌<◌, ℤ, pos, negsuc, Float}
use Rattle.std.specs.Float.{nan, inf, fin}

-- m * 2 ^ e is the fraction numerator m e / denominator e
abbrev pub numerator : ℕ → ℤ → ℕ
numerator m (pos k) = m * 2 ^ k
numerator m (negsuc k) = m

abbrev pub denominator : ℤ → ℕ
denominator (pos k) = 1
denominator (negsuc k) = 2 ^ suc k

-- x is finite, has the sign s, and its magnitude is exactly a / c
abbrev pub Is : Float → Bool → ℕ → ℕ → Type 0
Is nan s a c = ⊥
Is (inf t) s a c = ⊥
Is (fin t m e) s a c = (t ≡ s) × (numerator m e * c ≡ a * denominator e)

-- The binary32 values, each written in one way: zero, which keeps its sign, with the exponent 0; any other with an odd m of
-- at most 24 binary digits, an exponent from -149 on, and a magnitude below 2 ^ 128.
unfoldable pub Binary32 : Float → Type 0
Binary32 nan = Unit {0}
Binary32 (inf s) = Unit {0}
Binary32 (fin s zero e) = e ≡ pos 0
Binary32 (fin s (suc m) e) =
    (suc m % 2 ≡ 1) × (suc m < 2 ^ 24) × (denominator e ≤ 2 ^ 149) × (numerator (suc m) e < 2 ^ 128 * denominator e)

-- the property holds of v, and of no other binary32 value
pub record Exactly (P : Float → Type 0) (v : Float) : Type 0 where
  pub value : Binary32 v
  pub holds : P v
  pub only : (r : Float) → Binary32 r → P r → r ≡ v

-- the property holds of n, and of no other number
pub record Only (P : ℕ → Type 0) (n : ℕ) : Type 0 where
  pub holds : P n
  pub only : (k : ℕ) → P k → k ≡ n
