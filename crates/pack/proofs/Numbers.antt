-- A little-endian number in two parts: the low bytes, and the high ones after them. Assumes nothing.
use Prim.Native.Nat.{ℕ, zero, suc, ◌+◌, ◌*◌}
use mathlib.Core.List.{List}
use mathlib.Core.Path.{◌≡◌, ap, ◌∙◌}
use native.Mathlib.Nat.{zero-add, add-zero, suc-add, mul_assoc}
use native.Mathlib.Omega.{arith}
use Rattle.pack.specs.Bytes.{byte, number}

-- what n bytes can tell apart
abbrev pub scale : ℕ → ℕ
scale zero = 1
scale (suc n) = 256 * scale n

module _ (p : List ℕ) where
  pub number_join : (m n at : ℕ) → number (m + n) p at ≡ number m p at + scale m * number n p (at + m)
  unfolding number
  number_join zero n at = rw (zero-add n, add-zero at) (omega arith)
  number_join (suc m) n at =
      let e : at + 1 + m ≡ at + suc m = omega arith in
      let h : number (m + n) p (at + 1) ≡ number m p (at + 1) + scale m * number n p (at + suc m) =
      number_join m n (at + 1) ∙ ap (λ (k : ℕ). number m p (at + 1) + scale m * number n p k) e in
      rw (suc-add m n, number) (omega (arith, h, mul_assoc 256 (scale m) (number n p (at + suc m))))

  pub number_one : (at : ℕ) → number 1 p at ≡ byte p at
  unfolding number
  number_one at = omega arith
