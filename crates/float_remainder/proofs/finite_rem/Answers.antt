-- `float_remainder::finite_rem` meets its contract. The divisor's exponent is common to both, or the dividend is below the divisor.
use mathlib.Core.Path.{◌≡◌, sym, ap, ◌∙◌, subst}
use Prim.Native.Nat.{ℕ, ◌-◌, ◌*◌, ◌%◌, ◌^◌, ◌≤◌, ◌<◌}
use native.Mathlib.Nat.{le_trans, le_of_lt, lt_of_lt_of_le, lt_of_le_of_lt, le_of_eq, mod-lt}
use native.Mathlib.Omega.{arith}
use lib.Dec.{leb}
use lib.Ieee.{binary32, mul, of_bits, of_int}
use lib.IntN.{pos}
use Rattle.std.proofs.lemmas.Float.{not_nan_f32_bits}
use Rattle.binary32.specs.Binary32.{Is}
use Rattle.binary32.proofs.Fields.{reads}
use Rattle.float_remainder.specs.Units.{exponent, significand, units}
use Rattle.float_remainder.proofs.Units.{short, some, tall, exponent_le, stands}
use Rattle.float_remainder.proofs.Scaling.{lower, common}
use Rattle.float_remainder.proofs.Product.{scaled}
use Rattle.float_remainder.proofs.finite_rem.Goals as goal

pub float_from_bits-result : goal.float_from_bits-result
float_from_bits-result c = not_nan_f32_bits c.args.dividend (le_of_lt c.requires.dividend_finite)

pub returns-then-from-to : goal.returns-then-from-to
returns-then-from-to c =
    let x = c.args.dividend in
    let y = c.args.divisor in
    let l : exponent x < exponent y = omega (arith, c.exponent-from.ensures, c.exponent-to.ensures, c.if-from-to.true) in
    subst (λ (z : ℕ). Is (of_bits binary32 x) (leb (2 ^ 31) x) z (2 ^ 149))
    (sym (lower (significand x) (significand y) (exponent x) (exponent y) (short x) (tall y (omega (arith, l))) l))
    (stands x (of_bits binary32 x) c.requires.dividend_finite (reads x))

-- with the rest of the shift as the callees tell it
told : (x y r i j m n : ℕ) → i ≡ exponent x → j ≡ exponent y → m ≡ significand x → n ≡ significand y → j ≤ i → 0 < y % 2 ^ 31
    → r ≡ m * 2 ^ (i - j) % n → (r < 2 ^ 24) × (r * 2 ^ j ≡ units x % units y)
told x y r i j m n p q u v l h e =
    let N : 0 < n = lt_of_lt_of_le (some y h) (le_of_eq (sym v)) in
    let S : n < 2 ^ 24 = lt_of_le_of_lt (le_of_eq v) (short y) in (
      lt_of_le_of_lt (le_of_eq e) (lt_of_lt_of_le (mod-lt (m * 2 ^ (i - j)) N) (le_of_lt S)),
      ap (λ (z : ℕ). z * 2 ^ j) e
          ∙ common m n i j N l
          ∙ ap (λ (z : ℕ). z % (n * 2 ^ j)) (ap (λ (z : ℕ). z * 2 ^ i) u ∙ ap (λ (z : ℕ). significand x * 2 ^ z) p)
          ∙ ap (λ (z : ℕ). units x % z) (ap (λ (z : ℕ). z * 2 ^ j) v ∙ ap (λ (z : ℕ). significand y * 2 ^ z) q),
    )

pub returns : goal.returns
returns c =
    let x = c.args.dividend in
    let y = c.args.divisor in
    let r = c.shifted_rem-rest.result in
    let k = c.exponent-to.result in
    let t = told x y r c.exponent-from.result k c.significand.result c.significand-2.result c.exponent-from.ensures c.exponent-to.ensures
    c.significand.ensures c.significand-2.ensures c.if-from-to.false c.requires.divisor_nonzero c.shifted_rem-rest.ensures in
    subst (λ (z : ℕ). Is (mul binary32 (of_int binary32 (pos r)) c.power.result) (leb (2 ^ 31) x) z (2 ^ 149)) t.1
    (scaled c.power.result (leb (2 ^ 31) x) r k c.power.ensures t.0 (le_trans (le_of_eq c.exponent-to.ensures) (exponent_le y c.requires.divisor_finite)))
