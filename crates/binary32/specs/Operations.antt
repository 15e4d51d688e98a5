-- What each Float operation is, for every operand, over whole numbers. Where a result is rounded or built it is said by a
-- relation of the operands and the result r, elsewhere by a definition. proofs/Meets.antt has the theorem for each that
-- lib.Ieee's operation is exactly this. Assumes nothing.
use Rattle.std.specs.Prelude.{◌≡◌, Bool, true, false, not, ◌&&◌, ◌||◌, cond, ℕ, zero, suc, ◌+◌, ◌-◌, ◌*◌, ◌/◌, ◌%◌, ◌^◌, ◌<◌, leb, eqb, ℤ, pos, negsuc, nat_abs, ◌+ℤ◌, ◌*ℤ◌, Float}
use Rattle.std.specs.Int.Signed.{lt_z, le_z}
use Rattle.std.specs.Float.{nan, inf, fin}
use Rattle.ink_number.specs.Int.{lowest, greatest, with_sign, negative, unlike, eq_z}
use Rattle.binary32.specs.Binary32.{numerator, denominator, Is}
use Rattle.binary32.specs.Nearest.{Rounded}

-- ---- "Each operation rounds once, in binary32, to the nearest, ties to the even significand"

-- fin s m e over the denominator that it shares with a number of exponent d, denominator e * denominator d
abbrev pub shared : Bool → ℕ → ℤ → ℤ → ℤ
shared s m e d = with_sign s (numerator m e * denominator d)

-- the sign of an exact sum z of numbers of the signs s and t; a sum that is 0 is negative only where both are
abbrev pub sum_sign : Bool → Bool → ℤ → Bool
sum_sign s t (pos zero) = s && t
sum_sign s t (pos (suc n)) = false
sum_sign s t (negsuc n) = true

-- the exact sum, rounded; infinities of unlike signs have none
unfoldable pub Sum : Float → Float → Float → Type 0
Sum nan y r = r ≡ nan
Sum (inf s) nan r = r ≡ nan
Sum (inf s) (inf t) r = r ≡ cond (unlike s t) nan (inf s)
Sum (inf s) (fin t n d) r = r ≡ inf s
Sum (fin s m e) nan r = r ≡ nan
Sum (fin s m e) (inf t) r = r ≡ inf t
Sum (fin s m e) (fin t n d) r =
    let z = shared s m e d +ℤ shared t n d e in
    Rounded (sum_sign s t z) (nat_abs z) (denominator e * denominator d) r

-- the other sign
unfoldable pub opposite : Float → Float
opposite nan = nan
opposite (inf s) = inf (not s)
opposite (fin s m e) = fin (not s) m e

unfoldable pub Difference : Float → Float → Float → Type 0
Difference x y r = Sum x (opposite y) r

-- the exact product, rounded; an infinity and a zero have none
unfoldable pub Product : Float → Float → Float → Type 0
Product nan y r = r ≡ nan
Product (inf s) nan r = r ≡ nan
Product (inf s) (inf t) r = r ≡ inf (unlike s t)
Product (inf s) (fin t zero d) r = r ≡ nan
Product (inf s) (fin t (suc n) d) r = r ≡ inf (unlike s t)
Product (fin s m e) nan r = r ≡ nan
Product (fin s zero e) (inf t) r = r ≡ nan
Product (fin s (suc m) e) (inf t) r = r ≡ inf (unlike s t)
Product (fin s m e) (fin t n d) r =
    Rounded (unlike s t) (numerator m e * numerator n d) (denominator e * denominator d) r

-- the exact quotient, rounded; two infinities or two zeros have none, and any other number by a zero is infinite
unfoldable pub Quotient : Float → Float → Float → Type 0
Quotient nan y r = r ≡ nan
Quotient (inf s) nan r = r ≡ nan
Quotient (inf s) (inf t) r = r ≡ nan
Quotient (inf s) (fin t n d) r = r ≡ inf (unlike s t)
Quotient (fin s m e) nan r = r ≡ nan
Quotient (fin s m e) (inf t) r = r ≡ fin (unlike s t) 0 (pos 0)
Quotient (fin s m e) (fin t (suc n) d) r =
    Rounded (unlike s t) (numerator m e * denominator d) (numerator (suc n) d * denominator e) r
Quotient (fin s zero e) (fin t zero d) r = r ≡ nan
Quotient (fin s (suc m) e) (fin t zero d) r = r ≡ inf (unlike s t)

-- "The remainder is the dividend less the divisor taken as often as the truncated quotient says, exact, with the dividend's
-- sign ..; a NaN operand, an infinite dividend or a zero divisor gives NaN, an infinite divisor the finite dividend."
unfoldable pub Remainder : Float → Float → Float → Type 0
Remainder nan y r = r ≡ nan
Remainder (inf s) y r = r ≡ nan
Remainder (fin s m e) nan r = r ≡ nan
Remainder (fin s m e) (inf t) r = r ≡ fin s m e
Remainder (fin s m e) (fin t zero d) r = r ≡ nan
Remainder (fin s m e) (fin t (suc n) d) r =
    let a = numerator m e * denominator d in
    let b = numerator (suc n) d * denominator e in
    Is r s (a - a / b * b) (denominator e * denominator d)

-- ---- Floor and Ceiling: "IEEE 754 rounding to an integral value, toward negative and toward positive infinity. Negative zero
-- and infinities are kept."

-- from below, and from above
abbrev pub at_most : ℤ → ℤ → Bool
at_most a b = le_z a b

abbrev pub at_least : ℤ → ℤ → Bool
at_least a b = le_z b a

-- of all integers that lie on that side of fin s m e, or on it, z is the last; a fraction is compared by multiplying across
pub record Last (side : ℤ → ℤ → Bool) (s : Bool) (m : ℕ) (e : ℤ) (z : ℤ) : Type 0 where
  pub lies : side (z *ℤ pos (denominator e)) (with_sign s (numerator m e)) ≡ true
  pub last : (w : ℤ) → side (w *ℤ pos (denominator e)) (with_sign s (numerator m e)) ≡ true → side w z ≡ true

-- the integral value that is nearest from that side, with the operand's sign, also where it is a zero
unfoldable pub Integral : (ℤ → ℤ → Bool) → Float → Float → Type 0
Integral side nan r = r ≡ nan
Integral side (inf s) r = r ≡ inf s
Integral side (fin s m e) r = (n : ℕ) × Is r s n 1 × Last side s m e (with_sign s n)

-- roundToIntegralTowardNegative
abbrev pub Floor : Float → Float → Type 0
Floor x r = Integral at_most x r

-- roundToIntegralTowardPositive
abbrev pub Ceiling : Float → Float → Type 0
Ceiling x r = Integral at_least x r

-- ---- comparisons: a NaN is not less than, greater than or equal to anything, and the two zeros are equal

unfoldable pub less : Float → Float → Bool
less nan y = false
less (inf s) nan = false
less (inf s) (inf t) = s && not t
less (inf s) (fin t n d) = s
less (fin s m e) nan = false
less (fin s m e) (inf t) = not t
less (fin s m e) (fin t n d) = lt_z (shared s m e d) (shared t n d e)

unfoldable pub equal : Float → Float → Bool
equal nan y = false
equal (inf s) nan = false
equal (inf s) (inf t) = not (unlike s t)
equal (inf s) (fin t n d) = false
equal (fin s m e) nan = false
equal (fin s m e) (inf t) = false
equal (fin s m e) (fin t n d) = eq_z (shared s m e d) (shared t n d e)

unfoldable pub less_or_equal : Float → Float → Bool
less_or_equal x y = less x y || equal x y

unfoldable pub not_equal : Float → Float → Bool
not_equal x y = not (equal x y)

-- ---- "Min and Max give the other operand beside a NaN, the left one when equal"

abbrev pub is_nan : Float → Bool
is_nan nan = true
is_nan (inf s) = false
is_nan (fin s m e) = false

unfoldable pub smaller : Float → Float → Float
smaller x y = cond (is_nan x) y (cond (less y x) y x)

unfoldable pub greater : Float → Float → Float
greater x y = cond (is_nan x) y (cond (less x y) y x)

-- ---- "Truthy: a number not 0 (NaN too)"

unfoldable pub truthy : Float → Bool
truthy nan = true
truthy (inf s) = true
truthy (fin s m e) = not (eqb m 0)

-- ---- "Int to Float goes to the nearest, ties to the even significand."

unfoldable pub OfInt : ℤ → Float → Type 0
OfInt n r = Rounded (negative n) (nat_abs n) 1 r

-- ---- "Float to Int truncates, saturates, and gives 0 for NaN."

abbrev pub saturated : ℤ → ℤ
saturated z = cond (lt_z z lowest) lowest (cond (lt_z greatest z) greatest z)

unfoldable pub truncated : Float → ℤ
truncated nan = pos 0
truncated (inf s) = cond s lowest greatest
truncated (fin s m e) = saturated (with_sign s (numerator m e / denominator e))

-- ---- bit patterns: one bit for the sign, eight for the exponent x, 23 for the fraction f

-- an exponent of 0: f units of 2 ^ -149; up to 254: the significand 2 ^ 23 + f; 255: an infinity or NaN
abbrev pub Stands : Bool → ℕ → ℕ → Float → Type 0
Stands s zero f r = Is r s f (2 ^ 149)
Stands s (suc k) f r =
    cond (eqb (suc k) 255) (r ≡ cond (eqb f 0) (inf s) nan) (Is r s ((2 ^ 23 + f) * 2 ^ k) (2 ^ 149))

-- r has the pattern b, which is below 2 ^ 32
unfoldable pub OfBits : ℕ → Float → Type 0
OfBits b r = Stands (leb (2 ^ 31) b) (b % 2 ^ 31 / 2 ^ 23) (b % 2 ^ 23) r

-- "NaN .. is stored as 7fc00000 (hexadecimal)"; any other Float as the pattern that it has
unfoldable pub ToBits : Float → ℕ → Type 0
ToBits nan b = b ≡ 0x7fc0_0000
ToBits (inf s) b = (b < 2 ^ 32) × OfBits b (inf s)
ToBits (fin s m e) b = (b < 2 ^ 32) × OfBits b (fin s m e)
