-- The library's test for a NaN, and what tests by hand say: of a Float that differs from itself, and of a bit pattern by its magnitude. Assumes nothing.
use Rattle.std.proofs.Common.{◌≡◌, ℕ, ◌%◌, ◌<◌, ◌≤◌, Bool, true, false, not, T, refl, sym, ◌∙◌, subst, true≢false, le-ltb, lt-ltb}
use mathlib.Core.Bool.{false≢true}
use lib.Ieee.{Float, nan, inf, fin, binary32, ne, div, is_nan, nan_bits, of_bits}
use lib.Ieee.Compare.{differs_from_itself}
use lib.Ieee.Bits.{nan_bits_is, nan_bits_above}

pub nan_of : (x : Float) → is_nan x ≡ true → x ≡ nan
unfolding is_nan
nan_of nan e = refl
nan_of (inf s) e = absurd (false≢true e)
nan_of (fin s m d) e = absurd (false≢true e)

pub nan_is : is_nan nan ≡ false → ⊥
unfolding is_nan
nan_is e = true≢false e

pub is_nan_lem : (x : Float) → ne x x ≡ true → x ≡ nan
is_nan_lem x e = differs_from_itself x (subst T (sym e) tt)

-- ---- bit patterns

pub no_nan_bits : (b : ℕ) → b % 2147483648 ≤ 2139095040 → T (not (nan_bits binary32 b))
no_nan_bits b h = subst (λ (t : Bool). T (not t)) (sym (nan_bits_above binary32 b ∙ le-ltb 2139095040 (b % 2147483648) h)) tt

quotient_nan : div binary32 (of_bits binary32 0) (of_bits binary32 0) ≡ nan
unfolding div of_bits
quotient_nan = refl

pub nan_bits_lem : (b : ℕ) → 2139095040 < b % 2147483648 → div binary32 (of_bits binary32 0) (of_bits binary32 0) ≡ of_bits binary32 b
nan_bits_lem b h = quotient_nan ∙ sym (nan_of (of_bits binary32 b) (sym (nan_bits_is binary32 b) ∙ nan_bits_above binary32 b ∙ lt-ltb 2139095040 (b % 2147483648) h))
