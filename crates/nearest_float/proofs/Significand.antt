-- A whole number of 24 + k digits, rounded to 24 and scaled back by 2 ^ k, is that number rounded to binary32; and a negative
-- number's Float is that of its magnitude, negated. Assumes nothing.
use mathlib.Core.Path.{◌≡◌, refl, sym, ap, ◌∙◌, subst}
use mathlib.Core.Bool.{Bool, true, false, cond, true≢false}
use mathlib.Core.Logic.{◌⊎◌, inl, inr}
use Prim.Native.Nat.{ℕ, zero, suc, ◌+◌, ◌-◌, ◌*◌, ◌/◌, ◌%◌, ◌^◌, ◌≤◌, ◌<◌, compare}
use native.Mathlib.Nat.{le_trans, le_of_lt, le_of_eq, lt_of_lt_of_le, lt_of_le_of_lt, lt_of_not-le, not-le_of_lt, eq-or-lt_of_le, zero-lt-suc, mul-one, one-mul, mul_comm, mul_assoc, mul_left_comm, mul_right_comm, mul-pos, div-one, mul-le-mul_right, eq_of_mul-eq-mul_right, pow-suc}
use native.Mathlib.Omega.{arith}
use lib.IntN.{pos, negsuc}
use lib.Dec.{T, ltb, le→leb, lit<}
use lib.Pow.{pow-add, pow_pos, pow_mono, pow-lt, shl_lt, shr_lt}
use lib.Count.{count_leading_zeros, leading_length}
use lib.Ieee.{Float, nan, inf, fin, Format, binary32, prec, emax, low, up, down, size, odd, units, round, neg, mul, of_int, in_float}
use lib.Ieee.Digits.{size-lt, size-le}
use lib.Ieee.Fits.{down_pos, round_is, round-fits, nearest-le}
use lib.Ieee.Exact.{HasValue, round_exact, units_val}
use lib.Ieee.Nearest.{closest, closest_same}
use lib.Ieee.Scale.{round_same}
use lib.Ieee.Back.{round_whole, whole_unique}
use Rattle.nearest_float.specs.Rounding.{to_even}
use Rattle.nearest_float.proofs.ToEven.{unit_is, closest_is}

-- ---- a product of two whole numbers is rounded once

products : (x y a b d e : ℕ) → x * 1 ≡ a * d → y * 1 ≡ b * e → x * y * 1 ≡ a * b * (d * e)
products x y a b d e p q =
    mul-one (x * y)
    ∙ ap (λ (z : ℕ). z * y) (sym (mul-one x) ∙ p)
    ∙ ap (λ (z : ℕ). a * d * z) (sym (mul-one y) ∙ q)
    ∙ simp (mul_assoc, mul_left_comm)

mul_whole : (f : Format) (x y : Float) (a b : ℕ) → HasValue x false a 1 → HasValue y false b 1 → mul f x y ≡ round f false (a * b) 1
unfolding mul
mul_whole f nan y a b h k = absurd h
mul_whole f (inf s) y a b h k = absurd h
mul_whole f (fin s m e) nan a b h k = absurd k
mul_whole f (fin s m e) (inf t) a b h k = absurd k
mul_whole f (fin true m e) (fin t n d) a b h k = absurd (true≢false h.0)
mul_whole f (fin false m e) (fin true n d) a b h k = absurd (true≢false k.0)
mul_whole f (fin false m e) (fin false n d) a b h k =
    round_same f false (m * up e * (n * up d)) (down e * down d) (a * b) 1 (mul-pos (down_pos e) (down_pos d)) (zero-lt-suc 0)
    (products (m * up e) (n * up d) a b (down e) (down d) h.1 k.1)

-- ---- from units of 2 ^ -l to whole numbers

unscale : (x : Float) (s : Bool) (a l : ℕ) → HasValue x s (a * 2 ^ l) (2 ^ l) → HasValue x s a 1
unscale nan s a l v = v
unscale (inf t) s a l v = v
unscale (fin t m e) s a l v = (
  v.0,
  mul-one (m * up e) ∙ eq_of_mul-eq-mul_right (2 ^ l) (pow_pos l) (m * up e) (a * down e) (v.1 ∙ mul_right_comm a (2 ^ l) (down e)),
)

size_gt : (n j : ℕ) → 2 ^ j ≤ n → j < size n
size_gt n j h = lt_of_not-le (λ (g : size n ≤ j). not-le_of_lt (lt_of_lt_of_le (size-lt n) (pow_mono g)) h)

exactly : (a b : ℕ) → a ≤ 24 + b → 23 + b < a → a - 24 ≡ b
exactly a b h k = omega arith

-- ---- m has 24 + k digits

module _ (m k : ℕ) (lo : 2 ^ (23 + k) ≤ m) (hi : m < 2 ^ (24 + k)) (K : k ≤ 8) where
  digits : ℕ
  digits = to_even m (2 ^ k)

  kept_small : digits ≤ 2 ^ 24
  unfolding digits
  kept_small =
      le_trans (le_of_eq (sym (closest_is m (2 ^ k))))
      (le_trans (nearest-le (m / 2 ^ k) (compare (m % 2 ^ k * 2) (2 ^ k))) (shr_lt 24 k hi))

  drops : size (m * 2 ^ 149 / 1) - 24 ≡ k + 149
  drops =
      let a : m * 2 ^ 149 < 2 ^ (24 + (k + 149)) = subst (λ (j : ℕ). m * 2 ^ 149 < 2 ^ j) (assoc 24) (shl_lt (24 + k) 149 hi) in
      let b : 2 ^ (23 + (k + 149)) ≤ m * 2 ^ 149 =
      subst (λ (j : ℕ). 2 ^ j ≤ m * 2 ^ 149) (assoc 23) (le_trans (le_of_eq (pow-add 2 (23 + k) 149)) (mul-le-mul_right (2 ^ 149) lo)) in
      ap (λ (n : ℕ). size n - 24) (div-one (m * 2 ^ 149))
      ∙ exactly (size (m * 2 ^ 149)) (k + 149) (size-le (m * 2 ^ 149) (24 + (k + 149)) a) (size_gt (m * 2 ^ 149) (23 + (k + 149)) b)
    where
      assoc : (i : ℕ) → i + k + 149 ≡ i + (k + 149)
      assoc i = omega arith

  same_part : closest (m * 2 ^ 149) (1 * 2 ^ (k + 149)) ≡ digits
  unfolding digits
  same_part =
      closest_same (m * 2 ^ 149) (1 * 2 ^ (k + 149)) m (2 ^ k) (mul-pos (zero-lt-suc 0) (pow_pos (k + 149))) (pow_pos k)
      (mul_assoc m (2 ^ 149) (2 ^ k)
      ∙ ap (λ (z : ℕ). m * z) (mul_comm (2 ^ 149) (2 ^ k) ∙ sym (pow-add 2 k 149) ∙ sym (one-mul (2 ^ (k + 149)))))
      ∙ closest_is m (2 ^ k)

  rounds : round binary32 false m 1 ≡ units binary32 false digits (k + 149)
  rounds =
      round_is binary32 false m 1
      ∙ ap (λ (j : ℕ). units binary32 false (closest (m * 2 ^ 149) (1 * 2 ^ j)) j) drops
      ∙ ap (λ (q : ℕ). units binary32 false q (k + 149)) same_part

  below : digits * 2 ^ (k + 149) < 2 ^ (149 + 128)
  below =
      lt_of_le_of_lt (mul-le-mul_right (2 ^ (k + 149)) kept_small)
      (lt_of_le_of_lt (le_of_eq (sym (pow-add 2 24 (k + 149)))) (pow-lt {i = 24 + (k + 149)} {j = 149 + 128} (omega arith)))

  split : digits * 2 ^ k * 2 ^ 149 ≡ digits * 2 ^ (k + 149)
  split = mul_assoc digits (2 ^ k) (2 ^ 149) ∙ ap (λ (z : ℕ). digits * z) (sym (pow-add 2 k 149))

  value : HasValue (round binary32 false m 1) false (digits * 2 ^ k) 1
  value =
      unscale (round binary32 false m 1) false (digits * 2 ^ k) 149
      (subst (λ (a : ℕ). HasValue (round binary32 false m 1) false a (2 ^ 149)) (sym split)
      (subst (λ (x : Float). HasValue x false (digits * 2 ^ (k + 149)) (2 ^ 149)) (sym rounds) (units_val binary32 false digits (k + 149) below)))

  exact : HasValue (round binary32 false (digits * 2 ^ k) 1) false (digits * 2 ^ k) 1
  exact = go (eq-or-lt_of_le kept_small)
    where
      go : (digits ≡ 2 ^ 24) ⊎ (digits < 2 ^ 24) → HasValue (round binary32 false (digits * 2 ^ k) 1) false (digits * 2 ^ k) 1
      go (inr h) = round_exact binary32 false (digits * 2 ^ k) 1 digits (k + 149) (zero-lt-suc 0) h below (split ∙ sym (mul-one (digits * 2 ^ (k + 149))))
      go (inl e) =
          let t : digits * 2 ^ (k + 149) ≡ 1 * 2 ^ (24 + (k + 149)) =
          ap (λ (z : ℕ). z * 2 ^ (k + 149)) e ∙ sym (pow-add 2 24 (k + 149)) ∙ sym (one-mul (2 ^ (24 + (k + 149)))) in
          round_exact binary32 false (digits * 2 ^ k) 1 1 (24 + (k + 149)) (zero-lt-suc 0) (lit< tt) (subst (λ (z : ℕ). z < 2 ^ (149 + 128)) t below)
          (split ∙ t ∙ sym (mul-one (1 * 2 ^ (24 + (k + 149)))))

  pub cut_same : round binary32 false (to_even m (2 ^ k) * 2 ^ k) 1 ≡ round binary32 false m 1
  unfolding digits
  cut_same =
      whole_unique binary32 (round binary32 false (to_even m (2 ^ k) * 2 ^ k) 1) (round binary32 false m 1) false (to_even m (2 ^ k) * 2 ^ k)
      (round-fits binary32 false (to_even m (2 ^ k) * 2 ^ k) 1) (round-fits binary32 false m 1) exact value

  pub digits_le : to_even m (2 ^ k) ≤ 2 ^ 24
  unfolding digits
  digits_le = kept_small

-- ---- how many digits m has, by its leading zeros

abbrev pub Long : ℕ → ℕ → Type 0
Long m z = (z ≤ 8) × (0 < 8 - z) × (8 - z < 32) × (8 - z ≤ 8) × (2 ^ (23 + (8 - z)) ≤ m) × (m < 2 ^ (24 + (8 - z)))

doubled : (m p q : ℕ) → q * 2 ≡ p → p ≤ 2 * m + 1 → q ≤ m
doubled m p q e h = omega arith

pub long : (m : ℕ) → 2 ^ 24 < m → m < 2 ^ 32 → Long m (count_leading_zeros 32 m)
long m h k = go (leading_length 32 m k)
  where
    go : (j : ℕ) × (count_leading_zeros 32 m + j ≡ 32) × (m < 2 ^ j) × (2 ^ j ≤ 2 * m + 1) → Long m (count_leading_zeros 32 m)
    go (j, e, u, v) =
        let z = count_leading_zeros 32 m in
        let big : 24 < j = lt_of_not-le (λ (g : j ≤ 24). not-le_of_lt (lt_of_lt_of_le u (pow_mono g)) (le_of_lt h)) in
        let i : 24 + (8 - z) ≡ j = omega arith in
        let i' : suc (23 + (8 - z)) ≡ j = omega arith in (
          omega arith,
          omega arith,
          omega arith,
          omega arith,
          doubled m (2 ^ j) (2 ^ (23 + (8 - z))) (sym (pow-suc 2 (23 + (8 - z))) ∙ ap (λ (x : ℕ). 2 ^ x) i') v,
          subst (λ (x : ℕ). m < 2 ^ x) (sym i) u,
        )

-- ---- what the code gives

as_round : (n : ℕ) → of_int binary32 (pos n) ≡ round binary32 false n 1
unfolding of_int
as_round n = refl

whole_value : (n : ℕ) → n ≤ 2 ^ 24 → HasValue (of_int binary32 (pos n)) false n 1
whole_value n h = subst (λ (x : Float). HasValue x false n 1) (sym (as_round n)) (round_whole binary32 false n h)

pub small_in : (n : ℕ) → n ≤ 2 ^ 24 → T (in_float binary32 (pos n))
unfolding in_float
small_in n h = le→leb n (2 ^ 24) h

pub unit_le : (k : ℕ) → k ≤ 8 → 1 * 2 ^ k % 2 ^ 32 ≤ 2 ^ 24
unit_le k h = le_trans (le_of_eq (unit_is k (omega arith))) (pow_mono {j = 24} (omega arith))

pub scaled : (m k r : ℕ) → 2 ^ (23 + k) ≤ m → m < 2 ^ (24 + k) → k ≤ 8 → r ≡ to_even m (2 ^ k)
    → mul binary32 (of_int binary32 (pos r)) (of_int binary32 (pos (1 * 2 ^ k % 2 ^ 32))) ≡ of_int binary32 (pos m)
scaled m k r lo hi K e =
    let u = 1 * 2 ^ k % 2 ^ 32 in
    mul_whole binary32 (of_int binary32 (pos r)) (of_int binary32 (pos u)) r u
    (whole_value r (le_trans (le_of_eq e) (digits_le m k lo hi K))) (whole_value u (unit_le k K))
    ∙ ap (λ (x : ℕ). round binary32 false (x * u) 1) e
    ∙ ap (λ (x : ℕ). round binary32 false (to_even m (2 ^ k) * x) 1) (unit_is k (omega arith))
    ∙ cut_same m k lo hi K
    ∙ sym (as_round m)

-- ---- a negative number's float is that of its magnitude, negated

neg_odd : (d q k l : ℕ) → neg (odd d false q k l) ≡ odd d true q k l
unfolding neg odd
neg_odd d zero k l = refl
neg_odd d (suc q) k l = refl

neg_units : (f : Format) (q k : ℕ) → neg (units f false q k) ≡ units f true q k
unfolding units neg
neg_units f q k = go (ltb (q * 2 ^ k) (2 ^ (low f + suc (emax f))))
  where
    go : (b : Bool) → neg (cond b (odd (suc (prec f)) false q k (low f)) (inf false)) ≡ cond b (odd (suc (prec f)) true q k (low f)) (inf true)
    go true = neg_odd (suc (prec f)) q k (low f)
    go false = refl

pub neg_round : (f : Format) (num den : ℕ) → neg (round f false num den) ≡ round f true num den
neg_round f num den = ap neg (round_is f false num den) ∙ neg_units f _ _ ∙ sym (round_is f true num den)

pub negated : (n : ℕ) → neg (of_int binary32 (pos (suc n))) ≡ of_int binary32 (negsuc n)
unfolding of_int
negated n = neg_round binary32 (suc n) 1
