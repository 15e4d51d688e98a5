-- A number's k low digits rounded off, as `shift_to_even` does it. Assumes nothing.
use mathlib.Core.Path.{◌≡◌, refl, sym, ap, ◌∙◌}
use mathlib.Core.Bool.{Bool, cond}
use Prim.Native.Nat.{ℕ, zero, suc, ◌+◌, ◌-◌, ◌*◌, ◌/◌, ◌%◌, ◌^◌, ◌≤◌, ◌<◌, compare, Ordering}
use native.Mathlib.Nat.{le_of_eq, le_of_lt, lt_of_lt_of_le, add-zero, one-mul, suc-mul, div-add-mod', div-eq_of_lt-le, mod-lt, mod-eq_of_lt, pow-suc}
use native.Mathlib.Numerals.{add-one}
use native.Mathlib.Omega.{arith}
use borrow.Author.Tests.{lt-ltb, le-ltb}
use lib.Dec.{ltb}
use lib.Pow.{pow-lt, pow_pos}
use lib.Bits.{bit_and, and_mask}
use lib.Ieee.{nearest}
use lib.Ieee.Nearest.{closest}
use Rattle.nearest_float.specs.Rounding.{to_even}
use Rattle.binary32.proofs.Compare.{Cmp, cmp}

-- ---- the three ways to round

module _ (m p : ℕ) where
  abbrev q : ℕ
  q = m / p

  abbrev twice : ℕ
  twice = m % p * 2

  to_even_down : twice < p → q ≡ to_even m p
  to_even_down h = sym (ap (λ (b : Bool). cond b q (cond (ltb p twice) (suc q) (q + q % 2))) (lt-ltb twice p h))

  to_even_up : p < twice → suc q ≡ to_even m p
  to_even_up h =
      sym (ap (λ (b : Bool). cond b q (cond (ltb p twice) (suc q) (q + q % 2))) (le-ltb twice p (le_of_lt h))
      ∙ ap (λ (b : Bool). cond b (suc q) (q + q % 2)) (lt-ltb p twice h))

  to_even_tie : twice ≡ p → q + q % 2 ≡ to_even m p
  to_even_tie h =
      sym (ap (λ (b : Bool). cond b q (cond (ltb p twice) (suc q) (q + q % 2))) (le-ltb twice p (le_of_eq (sym h)))
      ∙ ap (λ (b : Bool). cond b (suc q) (q + q % 2)) (le-ltb p twice (le_of_eq h)))

  -- it is how lib.Ieee rounds
  pub closest_is : closest m p ≡ to_even m p
  closest_is = go (compare twice p) (cmp twice p)
    where
      go : (o : Ordering) → Cmp o twice p → nearest q o ≡ to_even m p
      go Ordering.lt h = to_even_down h
      go Ordering.eq h = to_even_tie h
      go Ordering.gt h = to_even_up h

-- ---- by one sum: half of p less one, and the quotient's last digit, carry into the quotient just where it is rounded up

quotient_is : (n p k : ℕ) → k * p ≤ n → n < k * p + p → n / p ≡ k
quotient_is n p k l h = div-eq_of_lt-le {k = k} p l (lt_of_lt_of_le h (le_of_eq (sym (ap (λ (x : ℕ). x * p) (add-one k) ∙ suc-mul k p))))

module _ (m p h : ℕ) (e : h * 2 ≡ p) (some : 0 < h) where
  abbrev carried : ℕ
  carried = m + (h - 1) + q m p % 2

  parts : q m p * p + m % p ≡ m
  parts = div-add-mod' m p

  next : suc (q m p) * p ≡ q m p * p + p
  next = suc-mul (q m p) p

  down : twice m p < p → carried / p ≡ q m p
  down t = quotient_is carried p (q m p) (omega (arith, parts)) (omega (arith, parts))

  up : p < twice m p → carried / p ≡ suc (q m p)
  up t = let l : m % p < p = mod-lt m (omega arith) in quotient_is carried p (suc (q m p)) (omega (arith, parts, next)) (omega (arith, parts, next))

  tie : twice m p ≡ p → carried / p ≡ q m p + q m p % 2
  tie t = go (q m p % 2) refl
    where
      go : (b : ℕ) → q m p % 2 ≡ b → (m + (h - 1) + b) / p ≡ q m p + b
      go zero f = quotient_is (m + (h - 1) + 0) p (q m p) (omega (arith, parts)) (omega (arith, parts)) ∙ sym (add-zero (q m p))
      go (suc zero) f = quotient_is (m + (h - 1) + 1) p (suc (q m p)) (omega (arith, parts, next)) (omega (arith, parts, next)) ∙ sym (add-one (q m p))
      go (suc (suc b)) f = absurd (omega arith)

  carried_is : carried / p ≡ to_even m p
  carried_is = go (compare (twice m p) p) (cmp (twice m p) p)
    where
      go : (o : Ordering) → Cmp o (twice m p) p → carried / p ≡ to_even m p
      go Ordering.lt t = down t ∙ to_even_down m p t
      go Ordering.eq t = tie t ∙ to_even_tie m p t
      go Ordering.gt t = up t ∙ to_even_up m p t

-- ---- the code's own terms

pub unit_is : (k : ℕ) → k < 32 → 1 * 2 ^ k % 2 ^ 32 ≡ 2 ^ k
unit_is k h = ap (λ (x : ℕ). x % 2 ^ 32) (one-mul (2 ^ k)) ∙ mod-eq_of_lt (pow-lt h)

abbrev half : ℕ → ℕ
half k = 1 * 2 ^ (k - 1) % 2 ^ 64

half_power : (k : ℕ) → k < 32 → half k ≡ 2 ^ (k - 1)
half_power k h = ap (λ (x : ℕ). x % 2 ^ 64) (one-mul (2 ^ (k - 1))) ∙ mod-eq_of_lt (pow-lt {j = 64} (omega arith))

half_twice : (k : ℕ) → 0 < k → k < 32 → half k * 2 ≡ 2 ^ k
half_twice k p h =
    let s : suc (k - 1) ≡ k = omega arith in
    ap (λ (x : ℕ). x * 2) (half_power k h) ∙ sym (pow-suc 2 (k - 1)) ∙ ap (λ (x : ℕ). 2 ^ x) s

half_some : (k : ℕ) → k < 32 → 0 < half k
half_some k h = lt_of_lt_of_le (pow_pos (k - 1)) (le_of_eq (sym (half_power k h)))

last_digit : (q : ℕ) → bit_and q 1 ≡ q % 2
last_digit q = and_mask q 1

pub rounded : (m k : ℕ) → 0 < k → k < 32 → (m + (half k - 1) + bit_and (m / 2 ^ k) 1) / 2 ^ k ≡ to_even m (2 ^ k)
rounded m k p h =
    ap (λ (b : ℕ). (m + (half k - 1) + b) / 2 ^ k) (last_digit (m / 2 ^ k)) ∙ carried_is m (2 ^ k) (half k) (half_twice k p h) (half_some k h)
