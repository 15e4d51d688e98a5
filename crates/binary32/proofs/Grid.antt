-- The multiple of u that is nearest to n, and that no finite magnitude off that grid is nearer. Assumes nothing.
use mathlib.Core.Path.{◌≡◌, refl, sym, ap, ◌∙◌, subst}
use mathlib.Core.Bool.{Bool, true, false}
use mathlib.Core.Logic.{◌⊎◌, inl, inr, ⊎_elim}
use Prim.Native.Nat.{ℕ, zero, suc, ◌+◌, ◌-◌, ◌*◌, ◌/◌, ◌%◌, ◌^◌, ◌≤◌, ◌<◌, compare, Ordering}
use native.Mathlib.Nat.{le_trans, le_of_lt, le_of_eq, lt_of_lt_of_le, lt_irrefl, mul_comm, mul_assoc, suc-mul, mul-le-mul_right, mul-lt-mul_of_pos_right, div-add-mod', mod-lt}
use native.Mathlib.Omega.{arith}
use borrow.Author.Tests.{ltb-true, ltb-false, leb-true, leb-false}
use lib.Dec.{ltb, leb}
use lib.Pow.{pow-add, pow_pos, pow_mono, shl_lt}
use lib.Ieee.{nearest}
use lib.Ieee.Nearest.{closest}
use Rattle.binary32.specs.Nearest.{Finite, gap}
use Rattle.binary32.proofs.Compare.{Cmp, cmp}
use Rattle.binary32.proofs.Powers.{factor, rise}

-- ---- q * u is within half of u of n; where it is half of u away, q is even

pub record Near (n u q : ℕ) : Type 0 where
  pub high : n * 2 ≤ q * u * 2 + u
  pub low : q * u * 2 ≤ n * 2 + u
  pub tie_high : n * 2 ≡ q * u * 2 + u → q % 2 ≡ 0
  pub tie_low : q * u * 2 ≡ n * 2 + u → q % 2 ≡ 0

stay : (n u w r : ℕ) → w * u + r ≡ n → r * 2 < u → Near n u w
stay n u w r e h = record {
  high = omega arith;
  low = omega arith;
  tie_high = λ t. omega arith;
  tie_low = λ t. omega arith;
}

up : (n u w r : ℕ) → w * u + r ≡ n → r < u → u < r * 2 → Near n u (suc w)
up n u w r e k h =
    let x : suc w * u ≡ w * u + u = suc-mul w u in
    record { high = omega arith; low = omega arith; tie_high = λ t. omega arith; tie_low = λ t. omega arith }

even_tie : (n u w r : ℕ) → w * u + r ≡ n → r * 2 ≡ u → w % 2 ≡ 0 → Near n u w
even_tie n u w r e h p = record { high = omega arith; low = omega arith; tie_high = λ t. p; tie_low = λ t. p }

odd_tie : (n u w r : ℕ) → w * u + r ≡ n → r * 2 ≡ u → w % 2 ≡ 1 → Near n u (suc w)
odd_tie n u w r e h p =
    let x : suc w * u ≡ w * u + u = suc-mul w u in
    let q : suc w % 2 ≡ 0 = omega arith in
    record { high = omega arith; low = omega arith; tie_high = λ t. q; tie_low = λ t. q }

tied : (n u w r : ℕ) → w * u + r ≡ n → r * 2 ≡ u → Near n u (w + w % 2)
tied n u w r e h = go (w % 2) refl (mod-lt w (pow_pos 1))
  where
    go : (d : ℕ) → w % 2 ≡ d → d < 2 → Near n u (w + d)
    go zero p l = subst (Near n u) (zero_sum w) (even_tie n u w r e h p)
      where
        zero_sum : (a : ℕ) → a ≡ a + 0
        zero_sum a = omega arith
    go (suc zero) p l = subst (Near n u) (one_sum w) (odd_tie n u w r e h p)
      where
        one_sum : (a : ℕ) → suc a ≡ a + 1
        one_sum a = omega arith
    go (suc (suc d)) p l = absurd (big d l)
      where
        big : (a : ℕ) → suc (suc a) < 2 → ⊥
        big a k = omega arith

pub near : (n u : ℕ) → 0 < u → Near n u (closest n u)
near n u U = go (compare (n % u * 2) u) (cmp (n % u * 2) u)
  where
    go : (o : Ordering) → Cmp o (n % u * 2) u → Near n u (nearest (n / u) o)
    go Ordering.lt h = stay n u (n / u) (n % u) (div-add-mod' n u) h
    go Ordering.eq h = tied n u (n / u) (n % u) (div-add-mod' n u) h
    go Ordering.gt h = up n u (n / u) (n % u) (div-add-mod' n u) (mod-lt n U) h

-- ---- against another multiple of u

below_far : (n u x y : ℕ) → n * 2 ≤ x * 2 + u → x * 2 ≤ n * 2 + u → y + u ≤ x → (gap n x ≤ gap n y) × (gap n y ≡ gap n x → x * 2 ≡ n * 2 + u)
below_far n u x y h k l = (omega arith, λ t. omega arith)

above_far : (n u x y : ℕ) → n * 2 ≤ x * 2 + u → x * 2 ≤ n * 2 + u → x + u ≤ y → (gap n x ≤ gap n y) × (gap n y ≡ gap n x → n * 2 ≡ x * 2 + u)
above_far n u x y h k l = (omega arith, λ t. omega arith)

-- x is nearest, and at a tie q is even
abbrev Best : ℕ → ℕ → ℕ → ℕ → ℕ → Type 0
Best n x q y w = (gap n x ≤ gap n y) × (gap n y ≡ gap n x → (w ≡ q) ⊎ (q % 2 ≡ 0))

next_le : (a b u : ℕ) → a < b → a * u + u ≤ b * u
next_le a b u h = le_trans (le_of_eq (sym (suc-mul a u))) (mul-le-mul_right u h)

on_grid : (n u q w : ℕ) → Near n u q → Best n (q * u) q (w * u) w
on_grid n u q w N = go (ltb w q) (ltb q w) refl refl
  where
    go : (a b : Bool) → ltb w q ≡ a → ltb q w ≡ b → Best n (q * u) q (w * u) w
    go true b e f =
        let s = below_far n u (q * u) (w * u) N.high N.low (next_le w q u (ltb-true w q e)) in
        (s.0, λ t. inr (N.tie_low (s.1 t)))
    go false true e f =
        let s = above_far n u (q * u) (w * u) N.high N.low (next_le q w u (ltb-true q w f)) in
        (s.0, λ t. inr (N.tie_high (s.1 t)))
    go false false e f =
        let h = ltb-false w q e in
        let k = ltb-false q w f in
        let s : w ≡ q = omega arith in
        (le_of_eq (ap (λ (z : ℕ). gap n (z * u)) (sym s)), λ t. inl s)

-- ---- against any finite magnitude. `Full` says that n / den has all 24 digits, unless no digit is dropped

abbrev pub Full : ℕ → ℕ → ℕ → Type 0
Full n den k = (k ≡ 0) ⊎ (2 ^ (23 + k) * den ≤ n)

abbrev Over : ℕ → ℕ → ℕ → ℕ → ℕ → Type 0
Over n den k q w = (gap n (q * 2 ^ k * den) ≤ gap n (w * den)) × (gap n (w * den) ≡ gap n (q * 2 ^ k * den) → (w ≡ q * 2 ^ k) ⊎ (q % 2 ≡ 0))

turn : (a k den : ℕ) → a * 2 ^ k * den ≡ a * (den * 2 ^ k)
turn a k den = mul_assoc a (2 ^ k) den ∙ ap (λ (z : ℕ). a * z) (mul_comm (2 ^ k) den)

multiple : (n den k q a : ℕ) → Near n (den * 2 ^ k) q → Over n den k q (a * 2 ^ k)
multiple n den k q a N =
    let s = on_grid n (den * 2 ^ k) q a N in
    let f : gap n (q * (den * 2 ^ k)) ≡ gap n (q * 2 ^ k * den) = ap (gap n) (sym (turn q k den)) in
    let g : gap n (a * (den * 2 ^ k)) ≡ gap n (a * 2 ^ k * den) = ap (gap n) (sym (turn a k den)) in (
      le_trans (le_of_eq (sym f)) (le_trans s.0 (le_of_eq g)),
      λ t. ⊎_elim (λ e. inl (ap (λ (z : ℕ). z * 2 ^ k) e)) (λ e. inr e) (s.1 (g ∙ t ∙ sym f)),
    )

-- a smaller magnitude than the least with 24 digits on the grid
closer : (n x g w : ℕ) → gap n x ≤ gap n g → g ≤ n → w < g → gap n x < gap n w
closer n x g w h k l = omega arith

low_one : (n den k q m j : ℕ) → 0 < den → Near n (den * 2 ^ k) q → 2 ^ (23 + k) * den ≤ n → m < 2 ^ 24 → j < k
    → gap n (q * 2 ^ k * den) < gap n (m * 2 ^ j * den)
low_one n den k q m j D N F s l =
    let G = 2 ^ 23 * 2 ^ k in
    let e : 2 ^ (23 + k) ≡ G = pow-add 2 23 k in
    let under : m * 2 ^ j < G = lt_of_lt_of_le (shl_lt 24 j s) (le_trans (pow_mono (rise j k l)) (le_of_eq e)) in
    closer n (q * 2 ^ k * den) (G * den) (m * 2 ^ j * den) (multiple n den k q (2 ^ 23) N).0 (subst (λ (z : ℕ). z * den ≤ n) e F) (mul-lt-mul_of_pos_right under D)

pub best : (n den k q w : ℕ) → 0 < den → Full n den k → Near n (den * 2 ^ k) q → Finite w → Over n den k q w
best n den k q w D F N f = go (leb k f.exponent) refl
  where
    go : (b : Bool) → leb k f.exponent ≡ b → Over n den k q w
    go true e =
        let j = f.exponent in
        let m = f.significand in
        let l : k ≤ j = leb-true k j e in
        let p : w ≡ m * 2 ^ (j - k) * 2 ^ k = f.is ∙ ap (λ (z : ℕ). m * z) (factor j k l) ∙ sym (mul_assoc m (2 ^ (j - k)) (2 ^ k)) in
        subst (Over n den k q) (sym p) (multiple n den k q (m * 2 ^ (j - k)) N)
    go false e =
        let j = f.exponent in
        let m = f.significand in
        let l : j < k = leb-false k j e in
        let s : gap n (q * 2 ^ k * den) < gap n (m * 2 ^ j * den) = ⊎_elim (λ z. absurd (none j k l z)) (λ h. low_one n den k q m j D N h f.short l) F in
        subst (Over n den k q) (sym f.is) (le_of_lt s, λ t. absurd (lt_irrefl (gap n (q * 2 ^ k * den)) (subst (λ (z : ℕ). gap n (q * 2 ^ k * den) < z) t s)))
      where
        none : (j k : ℕ) → j < k → k ≡ 0 → ⊥
        none j k l z = omega arith
