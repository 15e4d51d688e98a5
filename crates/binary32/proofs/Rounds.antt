-- lib.Ieee's `round` gives what IEEE 754 says: `Rounded`. Assumes nothing.
use mathlib.Core.Path.{◌≡◌, refl, sym, ap, ◌∙◌, subst}
use mathlib.Core.Bool.{Bool, true, false, cond}
use mathlib.Core.Logic.{◌⊎◌, inl, inr, ⊎_elim}
use Prim.Native.Nat.{ℕ, suc, ◌+◌, ◌-◌, ◌*◌, ◌/◌, ◌%◌, ◌^◌, ◌≤◌, ◌<◌, compare}
use native.Mathlib.Nat.{le_trans, le_of_eq, lt_of_lt_of_le, lt_of_le_of_lt, le_antisymm, lt_of_not-le, not-le_of_lt, eq-or-lt_of_le, mul_comm, mul_assoc, mul_right_comm, mul-pos, suc-mul, mul-le-mul_right, mul-le-mul_left, lt_of_mul-lt-mul_right, le_of_mul-le-mul_right, div-div-eq-div-mul, le-div_iff_mul-le}
use native.Mathlib.Omega.{arith}
use borrow.Author.Tests.{ltb-true, ltb-false}
use lib.Dec.{ltb, lit<, lit≤}
use lib.Pow.{pow-add, pow_pos, pow_mono, pow-lt}
use lib.Ieee.{Float, nan, inf, fin, binary32, size, nearest, odd, units, round}
use lib.Ieee.Digits.{size_reaches}
use lib.Ieee.Fits.{round_is, kept-lt, nearest-le}
use lib.Ieee.Exact.{HasValue, odd_sign}
use lib.Ieee.Nearest.{closest, nearest-ge}
use Rattle.binary32.specs.Nearest.{Finite, Even, Closest, Rounded, limit}
use Rattle.binary32.proofs.Binary32.{is_of}
use Rattle.binary32.proofs.Grid.{Near, near, Full, best}

-- q has all 24 digits, unless no digit is dropped
abbrev pub Tall : ℕ → ℕ → Type 0
Tall k q = (k ≡ 0) ⊎ (2 ^ 23 ≤ q)

pub pow_inv : (i j : ℕ) → 2 ^ i < 2 ^ j → i < j
pow_inv i j h = lt_of_not-le (λ (g : j ≤ i). not-le_of_lt h (pow_mono g))

tall_pow : (k q : ℕ) → 2 ^ 23 ≤ q → 2 ^ (23 + k) ≤ q * 2 ^ k
tall_pow k q h = le_trans (le_of_eq (pow-add 2 23 k)) (mul-le-mul_right (2 ^ k) h)

-- ---- q * 2 ^ k is a finite magnitude, and even where q is

pub exp_low : (k q : ℕ) → Tall k q → q * 2 ^ k < 2 ^ 277 → k ≤ 253
exp_low k q t h = ⊎_elim (λ (e : k ≡ 0). omega arith) (λ (g : 2 ^ 23 ≤ q). let l = pow_inv (23 + k) 277 (lt_of_le_of_lt (tall_pow k q g) h) in omega arith) t

up_one : (k q : ℕ) → q ≡ 2 ^ 24 → q * 2 ^ k ≡ 2 ^ 23 * 2 ^ suc k
up_one k q e = ap (λ (z : ℕ). z * 2 ^ k) e ∙ sym (pow-add 2 24 k) ∙ ap (λ (z : ℕ). 2 ^ z) (shift k) ∙ pow-add 2 23 (suc k)
  where
    shift : (k : ℕ) → 24 + k ≡ 23 + suc k
    shift k = omega arith

full_low : (k q : ℕ) → q ≡ 2 ^ 24 → q * 2 ^ k < 2 ^ 277 → suc k ≤ 253
full_low k q e h =
    let l = pow_inv (24 + k) 277 (lt_of_le_of_lt (le_of_eq (pow-add 2 24 k ∙ ap (λ (z : ℕ). z * 2 ^ k) (sym e))) h) in
    omega arith

finite_of : (k q : ℕ) → q ≤ 2 ^ 24 → Tall k q → q * 2 ^ k < 2 ^ 277 → Finite (q * 2 ^ k)
finite_of k q l t h = go (eq-or-lt_of_le l)
  where
    go : (q ≡ 2 ^ 24) ⊎ (q < 2 ^ 24) → Finite (q * 2 ^ k)
    go (inl e) = record { significand = 2 ^ 23; exponent = suc k; short = lit< tt; low = full_low k q e h; is = up_one k q e }
    go (inr s) = record { significand = q; exponent = k; short = s; low = exp_low k q t h; is = refl }

even_of : (k q : ℕ) → q ≤ 2 ^ 24 → Tall k q → q % 2 ≡ 0 → Even (q * 2 ^ k)
even_of k q l t p = go (eq-or-lt_of_le l)
  where
    go : (q ≡ 2 ^ 24) ⊎ (q < 2 ^ 24) → Even (q * 2 ^ k)
    go (inl e) = record { significand = 2 ^ 23; exponent = suc k; short = lit< tt; least = inr (lit≤ tt); even = refl; is = up_one k q e }
    go (inr s) = record { significand = q; exponent = k; short = s; least = t; even = p; is = refl }

closest_of : (num den k q : ℕ) → 0 < den → Full (num * 2 ^ 149) den k → Near (num * 2 ^ 149) (den * 2 ^ k) q → q ≤ 2 ^ 24 → Tall k q
    → q * 2 ^ k < 2 ^ 277 → Closest num den (q * 2 ^ k)
closest_of num den k q D F N l t h = record {
  finite = finite_of k q l t h;
  nearest = λ w f. (best (num * 2 ^ 149) den k q w D F N f).0;
  tie = λ w f e. ⊎_elim (λ s. inl s) (λ p. inr (even_of k q l t p)) ((best (num * 2 ^ 149) den k q w D F N f).1 e);
}

-- ---- the limit, in units: 2 ^ 25 - 1 times `part den`, which is 2 ^ 252 units times den. `omega` reads numbers of up to 38 digits, so that stays one term

abbrev part : ℕ → ℕ
part den = 2 ^ 252 * den

limit_is : (den : ℕ) → limit * den * 2 ^ 149 ≡ (2 ^ 25 - 1) * part den
limit_is den = mul_right_comm limit den (2 ^ 149) ∙ mul_assoc (2 ^ 25 - 1) (2 ^ 252) den

in_units : (num den : ℕ) → (2 ^ 25 - 1) * part den ≤ num * 2 ^ 149 → limit * den ≤ num
in_units num den h = le_of_mul-le-mul_right (le_trans (le_of_eq (limit_is den)) h) (pow_pos 149)

in_units_lt : (num den : ℕ) → num * 2 ^ 149 < (2 ^ 25 - 1) * part den → num < limit * den
in_units_lt num den h = lt_of_mul-lt-mul_right (2 ^ 149) (lt_of_lt_of_le h (le_of_eq (sym (limit_is den))))

unit_is : (den : ℕ) → den * 2 ^ 253 ≡ part den * 2
unit_is den = mul_comm den (2 ^ 253) ∙ sym (mul_right_comm (2 ^ 252) den 2)

over_edge : (n p : ℕ) → 2 ^ 24 * (p * 2) * 2 ≤ n * 2 + p * 2 → (2 ^ 25 - 1) * p ≤ n
over_edge n p h = omega arith

over_full : (n p : ℕ) → 2 ^ 25 * p ≤ n → (2 ^ 25 - 1) * p ≤ n
over_full n p h = omega arith

over : (n den k q : ℕ) → Full n den k → Near n (den * 2 ^ k) q → q ≤ 2 ^ 24 → 2 ^ 277 ≤ q * 2 ^ k → (2 ^ 25 - 1) * part den ≤ n
over n den k q F N l h =
    let reach : 2 ^ 277 ≤ 2 ^ (24 + k) = le_trans h (le_trans (mul-le-mul_right (2 ^ k) l) (le_of_eq (sym (pow-add 2 24 k)))) in
    let big : 253 ≤ k = large k reach in
    ⊎_elim (λ (e : 253 ≡ k). at_edge e) (λ (g : 253 < k). past g) (eq-or-lt_of_le big)
  where
    large : (k : ℕ) → 2 ^ 277 ≤ 2 ^ (24 + k) → 253 ≤ k
    large k r = let z = lt_of_not-le (λ (g : suc (24 + k) ≤ 277). not-le_of_lt (pow-lt {i = 24 + k} {j = 277} g) r) in omega arith

    at_edge : 253 ≡ k → (2 ^ 25 - 1) * part den ≤ n
    at_edge e =
        let h' : 2 ^ 24 * 2 ^ 253 ≤ q * 2 ^ 253 = subst (λ (j : ℕ). 2 ^ 277 ≤ q * 2 ^ j) (sym e) h in
        let top : q ≡ 2 ^ 24 = le_antisymm l (le_of_mul-le-mul_right h' (pow_pos 253)) in
        let N' : Near n (part den * 2) q = subst (λ (u : ℕ). Near n u q) (ap (λ (j : ℕ). den * 2 ^ j) (sym e) ∙ unit_is den) N in
        over_edge n (part den) (subst (λ (x : ℕ). x * (part den * 2) * 2 ≤ n * 2 + part den * 2) top N'.low)

    past : 253 < k → (2 ^ 25 - 1) * part den ≤ n
    past g =
        ⊎_elim (λ (e : k ≡ 0). absurd (none k g e))
        (λ (f : 2 ^ (23 + k) * den ≤ n).
        over_full n (part den)
        (le_trans (le_of_eq (sym (mul_assoc (2 ^ 25) (2 ^ 252) den)))
        (le_trans (mul-le-mul_right den (pow_mono {i = 277} {j = 23 + k} (deep k g))) f)))
        F
      where
        none : (k : ℕ) → 253 < k → k ≡ 0 → ⊥
        none k g e = omega arith

        deep : (k : ℕ) → 253 < k → 277 ≤ 23 + k
        deep k g = omega arith

under_small : (n p x u : ℕ) → 0 < p → n * 2 ≤ x * 2 + u → x ≤ 2 ^ 24 * u → u ≤ p → n < (2 ^ 25 - 1) * p
under_small n p x u D h k l = omega arith

under_edge : (n p x : ℕ) → 0 < p → n * 2 ≤ x * 2 + p * 2 → x + p * 2 ≤ (2 ^ 24 - 1) * (p * 2) → n < (2 ^ 25 - 1) * p
under_edge n p x D h k = omega arith

under_odd : (n p : ℕ) → n * 2 ≤ (2 ^ 24 - 1) * (p * 2) * 2 + p * 2 → (n * 2 ≡ (2 ^ 24 - 1) * (p * 2) * 2 + p * 2 → ⊥) → n < (2 ^ 25 - 1) * p
under_odd n p h k = omega arith

under : (n den k q : ℕ) → 0 < den → Near n (den * 2 ^ k) q → q ≤ 2 ^ 24 → Tall k q → q * 2 ^ k < 2 ^ 277 → n < (2 ^ 25 - 1) * part den
under n den k q D N l t h = ⊎_elim (λ (e : k ≡ 253). at_edge e) (λ (g : k < 253). short g) (eq-or-lt_of_le (exp_low k q t h))
  where
    P : 0 < part den
    P = mul-pos (pow_pos 252) D

    short : k < 253 → n < (2 ^ 25 - 1) * part den
    short g =
        let u-le : den * 2 ^ k ≤ part den = le_trans (mul-le-mul_left den (pow_mono {j = 252} (step k g))) (le_of_eq (mul_comm den (2 ^ 252))) in
        under_small n (part den) (q * (den * 2 ^ k)) (den * 2 ^ k) P N.high (mul-le-mul_right (den * 2 ^ k) l) u-le
      where
        step : (k : ℕ) → k < 253 → k ≤ 252
        step k g = omega arith

    at_edge : k ≡ 253 → n < (2 ^ 25 - 1) * part den
    at_edge e =
        let h' : q * 2 ^ 253 < 2 ^ 24 * 2 ^ 253 = subst (λ (j : ℕ). q * 2 ^ j < 2 ^ 277) e h in
        let N' : Near n (part den * 2) q = subst (λ (u : ℕ). Near n u q) (ap (λ (j : ℕ). den * 2 ^ j) e ∙ unit_is den) N in
        let below : q < 2 ^ 24 = lt_of_mul-lt-mul_right (2 ^ 253) h' in
        let s : q ≤ 2 ^ 24 - 1 = less q below in
        ⊎_elim (λ (f : q ≡ 2 ^ 24 - 1). last (subst (Near n (part den * 2)) f N'))
        (λ (f : q < 2 ^ 24 - 1).
        under_edge n (part den) (q * (part den * 2)) P N'.high
        (le_trans (le_of_eq (sym (suc-mul q (part den * 2)))) (mul-le-mul_right (part den * 2) f)))
        (eq-or-lt_of_le s)
      where
        less : (q : ℕ) → q < 2 ^ 24 → q ≤ 2 ^ 24 - 1
        less q b = omega arith

        last : Near n (part den * 2) (2 ^ 24 - 1) → n < (2 ^ 25 - 1) * part den
        last M = under_odd n (part den) M.high (λ x. odd_one (M.tie_high x))
          where
            odd_one : (2 ^ 24 - 1) % 2 ≡ 0 → ⊥
            odd_one y = omega arith

-- ---- what `round` keeps and drops

module _ (n den : ℕ) (D : 0 < den) where
  full : Full n den (size (n / den) - 24)
  full = go (ltb 24 (size (n / den))) refl
    where
      go : (b : Bool) → ltb 24 (size (n / den)) ≡ b → Full n den (size (n / den) - 24)
      go true e = let h = ltb-true 24 (size (n / den)) e in inr ((le-div_iff_mul-le D).0 (size_reaches (n / den) (23 + (size (n / den) - 24)) (omega arith)))
      go false e = let h = ltb-false 24 (size (n / den)) e in inl (omega arith)

  kept_le : closest n (den * 2 ^ (size (n / den) - 24)) ≤ 2 ^ 24
  kept_le =
      let k = size (n / den) - 24 in
      le_trans (nearest-le (n / (den * 2 ^ k)) (compare (n % (den * 2 ^ k) * 2) (den * 2 ^ k)))
      (subst (λ (x : ℕ). x < 2 ^ 24) (div-div-eq-div-mul n den (2 ^ k)) (kept-lt 24 (n / den)))

tall : (n den k : ℕ) → 0 < den → Full n den k → Tall k (closest n (den * 2 ^ k))
tall n den k D F =
    ⊎_elim (λ e. inl e)
    (λ (h : 2 ^ (23 + k) * den ≤ n).
    let u = den * 2 ^ k in
    let e : 2 ^ 23 * u ≡ 2 ^ (23 + k) * den =
    ap (λ (z : ℕ). 2 ^ 23 * z) (mul_comm den (2 ^ k)) ∙ sym (mul_assoc (2 ^ 23) (2 ^ k) den) ∙ ap (λ (z : ℕ). z * den) (sym (pow-add 2 23 k)) in
    inr (le_trans ((le-div_iff_mul-le (mul-pos D (pow_pos k))).1 (le_trans (le_of_eq e) h)) (nearest-ge (n / u) (compare (n % u * 2) u))))
    F

-- ---- the theorem

of_value : (s : Bool) (num den v : ℕ) (x : Float) → HasValue x s v (2 ^ 149) → num < limit * den → Closest num den v → Rounded s num den x
unfolding Rounded
of_value s num den v nan h l c = absurd h
of_value s num den v (inf t) h l c = absurd h
of_value s num den v (fin t m e) h l c = (l, (v, is_of (fin t m e) s v (2 ^ 149) h, c))

of_units : (s : Bool) (num den k q : ℕ) → 0 < den → Full (num * 2 ^ 149) den k → Near (num * 2 ^ 149) (den * 2 ^ k) q → q ≤ 2 ^ 24
    → Tall k q → Rounded s num den (units binary32 s q k)
unfolding units Rounded
of_units s num den k q D F N l t = go (ltb (q * 2 ^ k) (2 ^ 277)) refl
  where
    go : (b : Bool) → ltb (q * 2 ^ k) (2 ^ 277) ≡ b → Rounded s num den (cond b (odd 25 s q k 149) (inf s))
    go true e =
        let h = ltb-true (q * 2 ^ k) (2 ^ 277) e in
        of_value s num den (q * 2 ^ k) (odd 25 s q k 149) (odd_sign 25 s q k 149)
        (in_units_lt num den (under (num * 2 ^ 149) den k q D N l t h)) (closest_of num den k q D F N l t h)
    go false e = (refl, in_units num den (over (num * 2 ^ 149) den k q F N l (ltb-false (q * 2 ^ k) (2 ^ 277) e)))

pub rounded : (s : Bool) (num den : ℕ) → 0 < den → Rounded s num den (round binary32 s num den)
rounded s num den D =
    let n = num * 2 ^ 149 in
    let k = size (n / den) - 24 in
    let F = full n den D in
    subst (Rounded s num den) (sym (round_is binary32 s num den))
    (of_units s num den k (closest n (den * 2 ^ k)) D F (near n (den * 2 ^ k) (mul-pos D (pow_pos k))) (kept_le n den D) (tall n den k D F))
