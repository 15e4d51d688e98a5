-- The tests that a program makes of one Float: for NaN by `x != x`, for zero by `x != 0.0`. Assumes nothing.
use mathlib.Core.Path.{◌≡◌, refl, sym, ap, ◌∙◌}
use mathlib.Core.Bool.{Bool, true, false, not, ◌&&◌}
use Prim.Native.Nat.{ℕ, zero, suc, ◌*◌, ◌<◌}
use native.Mathlib.Nat.{mul-one, mul-pos, zero-mul, zero-lt-suc}
use native.Mathlib.Omega.{arith}
use borrow.Author.Tests.{eq-eqb, ne_eqb}
use lib.Dec.{eqb, eqb-suc-zero}
use lib.Ieee.{Float, nan, inf, fin, binary32, up, down, eq, ne, of_bits}
use lib.Ieee.Fits.{up_pos}
use Rattle.binary32.specs.Operations.{is_nan, truthy}
use Rattle.binary32.proofs.Orders.{and_true, and_same}

level_with : (a : ℕ) → not (eqb a a && true) ≡ false
level_with a = ap (λ (t : Bool). not (t && true)) (eq-eqb a a refl)

-- a NaN alone differs from itself
pub self_differs : (x : Float) → ne x x ≡ is_nan x
unfolding ne eq
self_differs nan = refl
self_differs (inf true) = refl
self_differs (inf false) = refl
self_differs (fin true m e) = level_with (m * up e * down e)
self_differs (fin false m e) = level_with (m * up e * down e)

-- ---- zero

zero_test : (m u d : ℕ) → 0 < u → eqb (m * u * 1) (0 * 1 * d) ≡ eqb m 0
zero_test zero u d h = eq-eqb (0 * u * 1) (0 * 1 * d) (mul-one (0 * u) ∙ zero-mul u ∙ sym (zero-mul d))
zero_test (suc m) u d h =
    ne_eqb (suc m * u * 1) (0 * 1 * d) (λ e. no_zero (suc m * u * 1) (mul-pos (mul-pos (zero-lt-suc m) h) (zero-lt-suc 0)) (e ∙ zero-mul d))
    ∙ sym (eqb-suc-zero m)
  where
    no_zero : (n : ℕ) → 0 < n → n ≡ 0 → ⊥
    no_zero n p q = omega arith

pub not_zero : (x : Float) → ne x (of_bits binary32 0) ≡ truthy x
unfolding ne eq of_bits truthy
not_zero nan = refl
not_zero (inf s) = refl
not_zero (fin true m e) =
    ap not (ap (λ (t : Bool). t && eqb (m * up e * 1) 0) (ap (eqb (m * up e * 1)) (zero-mul (down e))) ∙ and_same (eqb (m * up e * 1) 0)
    ∙ ap (eqb (m * up e * 1)) (sym (zero-mul (down e))) ∙ zero_test m (up e) (down e) (up_pos e))
not_zero (fin false m e) = ap not (and_true (eqb (m * up e * 1) (0 * 1 * down e)) ∙ zero_test m (up e) (down e) (up_pos e))
