-- The remainder of whole numbers: of multiples, of powers of two, and by parts. Assumes nothing.
use mathlib.Core.Path.{◌≡◌, sym, ap, ◌∙◌}
use Prim.Native.Nat.{ℕ, ◌+◌, ◌-◌, ◌*◌, ◌/◌, ◌%◌, ◌^◌, ◌≤◌, ◌<◌}
use native.Mathlib.Nat.{le_trans, le_of_eq, lt_of_lt_of_le, mod-eq_of_lt, mul_comm, mul_assoc, mul-le-mul_right, mul-lt-mul_of_pos_right, mod-lt, div-add-mod', add-mul}
use native.Mathlib.Omega.{arith}
use lib.Pow.{pow-add, pow_pos, pow_mono, shl_lt}
use lib.Arith.{digits_mod}
use Rattle.std.proofs.lemmas.Nat.{mul-mod_first}
use Rattle.binary32.proofs.Powers.{factor, rise}

-- a remainder of multiples
pub mod_scale : (a b c : ℕ) → 0 < b → 0 < c → a * c % (b * c) ≡ a % b * c
mod_scale a b c B C =
    ap (λ (z : ℕ). z % (b * c))
    (ap (λ (z : ℕ). z * c) (sym (div-add-mod' a b)) ∙ add-mul (a / b * b) (a % b) c ∙ ap (λ (z : ℕ). z + a % b * c) (mul_assoc (a / b) b c))
    ∙ digits_mod (a / b) (mul-lt-mul_of_pos_right (mod-lt a B) C)

-- the divisor's exponent is common to both
pub common : (m n i j : ℕ) → 0 < n → j ≤ i → m * 2 ^ (i - j) % n * 2 ^ j ≡ m * 2 ^ i % (n * 2 ^ j)
common m n i j N h =
    sym (mod_scale (m * 2 ^ (i - j)) n (2 ^ j) N (pow_pos j))
    ∙ ap (λ (z : ℕ). z % (n * 2 ^ j)) (mul_assoc m (2 ^ (i - j)) (2 ^ j) ∙ ap (λ (z : ℕ). m * z) (sym (factor i j h)))

-- a lower exponent than a divisor of 24 digits has
pub lower : (m n i j : ℕ) → m < 2 ^ 24 → 2 ^ 23 ≤ n → i < j → m * 2 ^ i % (n * 2 ^ j) ≡ m * 2 ^ i
lower m n i j M N h =
    mod-eq_of_lt
    (lt_of_lt_of_le (shl_lt 24 i M)
    (le_trans (pow_mono (rise i j h)) (le_trans (le_of_eq (pow-add 2 23 j)) (mul-le-mul_right (2 ^ j) N))))

-- ---- one step: 40 digits more of r * 2 ^ d

pub step : (r n d : ℕ) → 40 ≤ d → r * 2 ^ 40 % n * 2 ^ (d - 40) % n ≡ r * 2 ^ d % n
step r n d h =
    mul-mod_first (r * 2 ^ 40) (2 ^ (d - 40)) n
    ∙ ap (λ (z : ℕ). z % n)
    (mul_assoc r (2 ^ 40) (2 ^ (d - 40)) ∙ ap (λ (z : ℕ). r * z) (mul_comm (2 ^ 40) (2 ^ (d - 40)) ∙ sym (factor d 40 h)))

-- a shift of a number of 24 digits by up to 40 keeps within 64
pub room : (r d : ℕ) → r < 2 ^ 24 → d ≤ 40 → r * 2 ^ d % 2 ^ 64 ≡ r * 2 ^ d
room r d h k = mod-eq_of_lt (lt_of_lt_of_le (shl_lt 24 d h) (pow_mono {i = 24 + d} {j = 64} (omega arith)))
