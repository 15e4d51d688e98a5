-- Sums of Floats that are whole numbers, and of a Float and 2^23: from 2^23 up to 2^24 a Float has no fraction, so that such a sum is
-- rounded to a whole number, less than 1 away. Assumes nothing.
use mathlib.Core.Path.{◌≡◌, refl, sym, ap, ◌∙◌, subst}
use mathlib.Core.Bool.{true, false, true≢false}
use Prim.Native.Nat.{ℕ, suc, ◌+◌, ◌-◌, ◌*◌, ◌/◌, ◌^◌, ◌≤◌, ◌<◌}
use native.Mathlib.Nat.{le_refl, le_trans, le_of_suc-le-suc, le_of_mul-le-mul_right, suc-mul, mul-sub, le_of_eq, lt_of_le_of_lt, lt_of_not-le, not-le_of_lt, mul-one, mul_comm, mul_assoc, mul_right_comm, mul-pos, add-mul, mul-le-mul_right, mul-lt-mul_of_pos_right, eq_of_mul-eq-mul_right, div-lt_iff_lt-mul, le-div_iff_mul-le}
use native.Mathlib.Omega.{arith}
use borrow.Author.Tests.{le-ltb}
use lib.Dec.{lit<, lit≤}
use lib.IntN.{ℤ, pos}
use lib.Pow.{pow_pos, shl_lt}
use lib.Ieee.{Float, nan, inf, fin, binary32, up, down, round, neg, add, sub, sum, of_int}
use lib.Ieee.Fits.{down_pos}
use lib.Ieee.Exact.{HasValue}
use lib.Ieee.Scale.{round_same}
use Rattle.binary32.specs.Binary32.{Is, numerator, denominator}
use Rattle.binary32.specs.Nearest.{Finite, Closest, Rounded, gap, limit}
use Rattle.binary32.proofs.Powers.{factor}
use Rattle.binary32.proofs.Rounds.{pow_inv, rounded}

pub minus_mul : (a b k : ℕ) → (a - b) * k ≡ a * k - b * k
minus_mul a b k = mul_comm (a - b) k ∙ mul-sub k a b ∙ ap (λ (z : ℕ). z - k * b) (mul_comm k a) ∙ ap (λ (z : ℕ). a * k - z) (mul_comm k b)

scaled : (a b k : ℕ) → gap (a * k) (b * k) ≡ gap a b * k
scaled a b k =
    ap (λ (z : ℕ). z + (b * k - a * k)) (sym (minus_mul a b k)) ∙ ap (λ (z : ℕ). (a - b) * k + z) (sym (minus_mul b a k)) ∙ sym (add-mul (a - b) (b - a) k)

-- ---- a number from 2^23 up to 2^24, rounded

module _ (num den : ℕ) (D : 0 < den) (low : 2 ^ 23 * den ≤ num) (high : num < 2 ^ 24 * den) where
  -- rounded it is whole
  abbrev Whole : Float → Type 0
  Whole r = (w : ℕ) × Is r false w 1 × (gap num (w * den) < den)

  whole_finite : (n : ℕ) → n < 2 ^ 24 → Finite (n * 2 ^ 149)
  whole_finite n h = record { significand = n; exponent = 149; short = h; low = lit≤ tt; is = refl }

  -- not below 2^23, which would be nearer
  tall : (v : ℕ) → Closest num den v → 2 ^ 172 ≤ v
  tall v c = le_of_suc-le-suc (lt_of_not-le {n = suc v} {m = 2 ^ 172} (λ (h : v < 2 ^ 172).
      farther (num * 2 ^ 149) (2 ^ 23 * 2 ^ 149 * den) (v * den) (c.nearest (2 ^ 23 * 2 ^ 149) (whole_finite (2 ^ 23) (lit< tt)))
      (le_trans (le_of_eq (mul_right_comm (2 ^ 23) (2 ^ 149) den)) (mul-le-mul_right (2 ^ 149) low)) (mul-lt-mul_of_pos_right h D)))
    where
      farther : (p q r : ℕ) → gap p r ≤ gap p q → q ≤ p → r < q → ⊥
      farther p q r h k l = omega arith

  -- so its exponent leaves no fraction
  whole_of : (v : ℕ) → Closest num den v → (w : ℕ) × (v ≡ w * 2 ^ 149)
  whole_of v c =
      let m = c.finite.significand in
      let e = c.finite.exponent in
      let l = pow_inv 172 (24 + e) (lt_of_le_of_lt (tall v c) (subst (λ (z : ℕ). z < 2 ^ (24 + e)) (sym c.finite.is) (shl_lt 24 e c.finite.short))) in
      (m * 2 ^ (e - 149), c.finite.is ∙ ap (λ (z : ℕ). m * z) (factor e 149 (omega arith)) ∙ sym (mul_assoc m (2 ^ (e - 149)) (2 ^ 149)))

  -- and it is no farther away than the whole part is, which is less than 1
  close : (w : ℕ) → Closest num den (w * 2 ^ 149) → gap num (w * den) < den
  close w c =
      let q = num / den in
      let below : q * den ≤ num = (le-div_iff_mul-le D).0 (le_refl q) in
      let above : num < suc q * den = (div-lt_iff_lt-mul D).0 (le_refl (suc q)) in
      let next : suc q * den ≡ q * den + den = suc-mul q den in
      let near : gap num (w * den) ≤ gap num (q * den) =
      le_of_mul-le-mul_right (le_trans (le_of_eq (moved w)) (le_trans (c.nearest (q * 2 ^ 149) (whole_finite q ((div-lt_iff_lt-mul D).1 high))) (le_of_eq (sym (moved q))))) (pow_pos 149) in
      omega arith
    where
      moved : (n : ℕ) → gap num (n * den) * 2 ^ 149 ≡ gap (num * 2 ^ 149) (n * 2 ^ 149 * den)
      moved n = sym (scaled num (n * den) (2 ^ 149)) ∙ ap (gap (num * 2 ^ 149)) (mul_right_comm n den (2 ^ 149))

  pub rounded_whole : Whole (round binary32 false num den)
  unfolding Rounded
  rounded_whole = go (round binary32 false num den) (rounded false num den D)
    where
      over : limit * den ≤ num → ⊥
      over h = not-le_of_lt high (le_trans (mul-le-mul_right den (lit≤ tt)) h)

      go : (r : Float) → Rounded false num den r → Whole r
      go nan h = absurd h
      go (inf t) h = absurd (over h.1)
      go (fin t m e) (l, (v, i, c)) =
          let w = whole_of v c in
          (w.0, (i.0, cancel m e w.0 (i.1 ∙ ap (λ (z : ℕ). z * denominator e) w.1)), close w.0 (subst (Closest num den) w.1 c))
        where
          cancel : (m : ℕ) (e : ℤ) (w : ℕ) → numerator m e * 2 ^ 149 ≡ w * 2 ^ 149 * denominator e → numerator m e * 1 ≡ w * denominator e
          cancel m e w h = mul-one (numerator m e) ∙ eq_of_mul-eq-mul_right (2 ^ 149) (pow_pos 149) (numerator m e) (w * denominator e) (h ∙ mul_right_comm w (2 ^ 149) (denominator e))

-- ---- sums and differences of whole numbers are exact

-- the Float with the whole number p for its value
pub record Fin (x : Float) (p : ℕ) : Type 0 where
  pub digits : ℕ
  pub exponent : ℤ
  pub is : x ≡ fin false digits exponent
  pub value : digits * up exponent ≡ p * down exponent

pub fin_of : (x : Float) (p : ℕ) → HasValue x false p 1 → Fin x p
fin_of nan p v = absurd v
fin_of (inf t) p v = absurd v
fin_of (fin true m e) p v = absurd (true≢false v.0)
fin_of (fin false m e) p v = record { digits = m; exponent = e; is = refl; value = sym (mul-one (m * up e)) ∙ v.1 }

module _ (x y : Float) (p q : ℕ) (X : Fin x p) (Y : Fin y q) where
  abbrev e : ℤ
  e = X.exponent

  abbrev d : ℤ
  d = Y.exponent

  -- both over the denominator that they share
  abbrev C : ℕ
  C = down e * down d

  left : X.digits * up e * down d ≡ p * C
  left = ap (λ (z : ℕ). z * down d) X.value ∙ mul_assoc p (down e) (down d)

  right : Y.digits * up d * down e ≡ q * C
  right = ap (λ (z : ℕ). z * down e) Y.value ∙ mul_assoc q (down d) (down e) ∙ ap (λ (z : ℕ). q * z) (mul_comm (down d) (down e))

  is_whole : (n : ℕ) → round binary32 false (n * C) C ≡ round binary32 false n 1
  is_whole n = round_same binary32 false (n * C) C n 1 (mul-pos (down_pos e) (down_pos d)) (lit< tt) (mul-one (n * C))

  pub add_whole : add binary32 x y ≡ of_int binary32 (pos (p + q))
  unfolding add sum of_int
  add_whole = rw (X.is, Y.is, left, right, sym (add-mul p q C)) (is_whole (p + q))

  pub sub_whole : q ≤ p → sub binary32 x y ≡ of_int binary32 (pos (p - q))
  unfolding sub add neg sum of_int
  sub_whole h = rw (X.is, Y.is, left, right, le-ltb (p * C) (q * C) (mul-le-mul_right C h), sym (minus_mul p q C)) (is_whole (p - q))
