-- IEEE 754's rounding to binary32, to the nearest and at a tie to the even significand, as a relation: what the result is, and
-- not how it is found. A finite binary32 number is ± m * 2 ^ (j - 149), with a significand m below 2 ^ 24 and j at most 253. So
-- counted in units of 2 ^ -149, the smallest positive one, its magnitude is the whole number m * 2 ^ j. The exact result is
-- ± num / den, and a quotient is compared by multiplying across. Assumes nothing.
use Rattle.std.specs.Prelude.{◌≡◌, ◌⊎◌, Bool, ℕ, ◌+◌, ◌-◌, ◌*◌, ◌%◌, ◌^◌, ◌≤◌, ◌<◌, Float}
use Rattle.std.specs.Float.{nan, inf, fin}
use Rattle.binary32.specs.Binary32.{Is}

-- v units are a finite magnitude
pub record Finite (v : ℕ) : Type 0 where
  pub significand : ℕ
  pub exponent : ℕ
  pub short : significand < 2 ^ 24
  pub low : exponent ≤ 253
  pub is : v ≡ significand * 2 ^ exponent

-- with the least exponent it is written with, v's significand is even
pub record Even (v : ℕ) : Type 0 where
  pub significand : ℕ
  pub exponent : ℕ
  pub short : significand < 2 ^ 24
  pub least : (exponent ≡ 0) ⊎ (2 ^ 23 ≤ significand)
  pub even : significand % 2 ≡ 0
  pub is : v ≡ significand * 2 ^ exponent

-- the difference of two numbers
abbrev pub gap : ℕ → ℕ → ℕ
gap a b = (a - b) + (b - a)

-- how far num / den is from v units, multiplied across by den * 2 ^ 149
abbrev pub distance : ℕ → ℕ → ℕ → ℕ
distance num den v = gap (num * 2 ^ 149) (v * den)

-- of all finite magnitudes v is nearest to num / den, and where another is as near v's significand is even
pub record Closest (num den v : ℕ) : Type 0 where
  pub finite : Finite v
  pub nearest : (w : ℕ) → Finite w → distance num den v ≤ distance num den w
  pub tie : (w : ℕ) → Finite w → distance num den w ≡ distance num den v → (w ≡ v) ⊎ Even v

-- from 2 ^ 127 * (2 - 2 ^ -24) on the result is an infinity
abbrev pub limit : ℕ
limit = 2 ^ 128 - 2 ^ 103

-- x is ± num / den rounded, with the sign s
unfoldable pub Rounded : Bool → ℕ → ℕ → Float → Type 0
Rounded s num den nan = ⊥
Rounded s num den (inf t) = (t ≡ s) × (limit * den ≤ num)
Rounded s num den (fin t m e) =
    (num < limit * den) × ((v : ℕ) × Is (fin t m e) s v (2 ^ 149) × Closest num den v)
