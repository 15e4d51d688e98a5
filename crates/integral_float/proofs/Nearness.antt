-- Below 2^23: a Float and 2^23, added and taken away again, is a whole number less than 1 away from it; and from such a number the integral
-- values below and above are at most one step. Assumes nothing.
use mathlib.Core.Path.{◌≡◌, refl, sym, ap, ◌∙◌, subst}
use mathlib.Core.Bool.{Bool, true, false, false≢true}
use Prim.Native.Nat.{ℕ, zero, suc, ◌+◌, ◌-◌, ◌*◌, ◌/◌, ◌^◌, ◌≤◌, ◌<◌}
use native.Mathlib.Nat.{le_of_eq, le_of_lt, le_antisymm, le_of_suc-le-suc, lt_of_lt_of_le, zero-mul, suc-mul, mul-one, mul_right_comm, mul-le-mul_right, add-mul, mul-lt-mul_of_pos_right, lt_of_mul-lt-mul_right, div-lt_iff_lt-mul, le-div_iff_mul-le}
use native.Mathlib.Omega.{arith}
use borrow.Author.Tests.{ltb-true, ltb-false, lt-ltb, le-ltb}
use lib.Dec.{ltb, lit≤}
use lib.IntN.{ℤ, pos}
use lib.Ieee.{Float, nan, inf, fin, binary32, up, down, round, add, sub, sum, lt, of_int}
use lib.Ieee.Fits.{down_pos}
use lib.Ieee.Back.{round_whole}
use Rattle.ink_number.specs.Int.{bit_of}
use Rattle.binary32.specs.Binary32.{numerator, denominator}
use Rattle.binary32.specs.Nearest.{gap}
use Rattle.binary32.specs.Operations.{opposite}
use Rattle.binary32.specs.Real.{upward, floor_f, ceiling_f}
use Rattle.binary32.proofs.Binary32.{num_is, den_is, value_of}
use Rattle.binary32.proofs.Integral.{up_ge, up_least, twice}
use Rattle.integral_float.specs.Near.{Near}
use Rattle.integral_float.proofs.Sums.{minus_mul, rounded_whole, Fin, fin_of, add_whole, sub_whole}
use Rattle.integral_float.proofs.Tests.{Zero, Limit, Positive, below?, above_zero, under_limit}

-- ---- a whole number less than 1 away

in_words : (m : ℕ) (e : ℤ) (n : ℕ) → gap (m * up e) (n * down e) < down e → gap (numerator m e) (n * denominator e) < denominator e
in_words m e n h = rw (num_is m e, den_is e) h

-- the sum with 2^23, less 2^23
pub near_of : (x : Float) → lt Zero x ≡ true → lt x Limit ≡ true → Near x (sub binary32 (add binary32 x Limit) Limit)
unfolding lt add sum Near
near_of nan p q = absurd (false≢true p)
near_of (inf true) p q = absurd (false≢true p)
near_of (inf false) p q = absurd (false≢true q)
near_of (fin true m e) p q = absurd (false≢true p)
near_of (fin false m e) p q =
    let a = m * up e in
    let d = down e in
    let D = down_pos e in
    let h : a * 1 < 8388608 * d = ltb-true (a * 1) (8388608 * d) q in
    let r = round binary32 false (a * 1 + 8388608 * d) (d * 1) in
    let whole = rounded_whole (a * 1 + 8388608 * d) (d * 1) (omega arith) (omega arith) (omega arith) in
    let w = whole.0 in
    let low = enough a d w D whole.2 in
    let far : (w - 8388608) * d ≡ w * d - 8388608 * d = minus_mul w 8388608 d in (
      w - 8388608,
      sub_whole r Limit w 8388608 (fin_of r w (value_of r false w 1 whole.1)) (record { digits = 1; exponent = pos 23; is = refl; value = refl }) low,
      in_words m e (w - 8388608) (away a d (w * d) ((w - 8388608) * d) far (mul-le-mul_right d low)
          (subst (λ (z : ℕ). gap (a * 1 + 8388608 * d) z < d * 1) (ap (λ (z : ℕ). w * z) (mul-one d)) whole.2)),
    )
  where
    enough : (a d w : ℕ) → 0 < d → gap (a * 1 + 8388608 * d) (w * (d * 1)) < d * 1 → 8388608 ≤ w
    enough a d w D h = le_of_suc-le-suc (lt_of_mul-lt-mul_right d (lt_of_lt_of_le (over (w * d) (subst (λ (z : ℕ). gap (a * 1 + 8388608 * d) z < d * 1) (ap (λ (z : ℕ). w * z) (mul-one d)) h)) (le_of_eq (sym (suc-mul w d)))))
      where
        over : (v : ℕ) → gap (a * 1 + 8388608 * d) v < d * 1 → 8388608 * d < v + d
        over v k = omega arith

    away : (a d v n : ℕ) → n ≡ v - 8388608 * d → 8388608 * d ≤ v → gap (a * 1 + 8388608 * d) v < d * 1 → gap a n < d
    away a d v n e l h = omega arith

-- ---- from it to the integral values

-- x and a whole number compared, by multiplying across
across : (a b c : ℕ) → 0 < c → ltb (a * c) (b * c) ≡ ltb a b
across a b c C = go (ltb a b) refl
  where
    go : (t : Bool) → ltb a b ≡ t → ltb (a * c) (b * c) ≡ t
    go true e = lt-ltb (a * c) (b * c) (mul-lt-mul_of_pos_right (ltb-true a b e) C)
    go false e = le-ltb (a * c) (b * c) (mul-le-mul_right c (ltb-false a b e))

module _ (y : Float) (n m : ℕ) (e : ℤ) (Y : Fin y n) where
  over : n * down Y.exponent * down e ≡ n * down e * down Y.exponent
  over = mul_right_comm n (down Y.exponent) (down e)

  whole_less : lt y (fin false m e) ≡ ltb (n * down e) (m * up e)
  unfolding lt
  whole_less = rw (Y.is, Y.value, over) (across (n * down e) (m * up e) (down Y.exponent) (down_pos Y.exponent))

  less_whole : lt (fin false m e) y ≡ ltb (m * up e) (n * down e)
  unfolding lt
  less_whole = rw (Y.is, Y.value, over) (across (m * up e) (n * down e) (down Y.exponent) (down_pos Y.exponent))

-- a quotient rounded down and up
module _ (a b n : ℕ) (B : 0 < b) where
  next : suc n * b ≡ n * b + b
  next = suc-mul n b

  pub part_is : n * b ≤ a → a < n * b + b → n ≡ a / b
  part_is h k = le_antisymm ((le-div_iff_mul-le B).1 h) (le_of_suc-le-suc ((div-lt_iff_lt-mul B).1 (lt_of_lt_of_le k (le_of_eq (sym next)))))

  pub upward_is : a ≤ n * b → n * b < a + b → n ≡ upward a b
  upward_is h k =
      le_antisymm (le_of_suc-le-suc (lt_of_mul-lt-mul_right b (lt_of_lt_of_le (lt_of_lt_of_le k (add_le (up_ge a b B))) (le_of_eq (sym (suc-mul (upward a b) b))))))
      (up_least a b B n h)
    where
      add_le : {c : ℕ} → a ≤ c → a + b ≤ c + b
      add_le h = omega arith

-- 1 where a test says yes
bit : (t : Bool) → Fin (of_int binary32 (pos (bit_of t))) (bit_of t)
unfolding of_int
bit t = fin_of (round binary32 false (bit_of t) 1) (bit_of t) (round_whole binary32 false (bit_of t) (few t))
  where
    few : (t : Bool) → bit_of t ≤ 2 ^ 24
    few true = lit≤ tt
    few false = lit≤ tt

-- what the two functions return, by their test
pub record Told (x r : Float) : Type 0 where
  pub down_is : sub binary32 r (of_int binary32 (pos (bit_of (lt x r)))) ≡ floor_f x
  pub up_is : add binary32 r (of_int binary32 (pos (bit_of (lt r x)))) ≡ ceiling_f x

module _ (m : ℕ) (e : ℤ) (n : ℕ) (small : m * up e < 8388608 * down e) (close : gap (m * up e) (n * down e) < down e) where
  abbrev a : ℕ
  a = m * up e

  abbrev d : ℕ
  d = down e

  abbrev x : Float
  x = fin false m e

  abbrev r : Float
  r = of_int binary32 (pos n)

  floor_is : (k : ℕ) → k ≡ a / d → of_int binary32 (pos k) ≡ floor_f x
  unfolding floor_f
  floor_is k h = rw (num_is m e, den_is e) (ap (λ (z : ℕ). of_int binary32 (pos z)) h)

  ceiling_is : (k : ℕ) → k ≡ upward a d → of_int binary32 (pos k) ≡ ceiling_f x
  unfolding floor_f opposite
  ceiling_is k h = ap (λ (z : ℕ). of_int binary32 (pos z)) h ∙ rw (num_is m e, den_is e) (sym (twice (of_int binary32 (pos (upward a d)))))

  few : n ≤ 2 ^ 24
  few = le_of_lt (lt_of_mul-lt-mul_right d (within (n * d) close))
    where
      within : (v : ℕ) → gap a v < d → v < 16777216 * d
      within v h = omega arith

  R : Fin r n
  unfolding of_int
  R = fin_of (round binary32 false n 1) n (round_whole binary32 false n few)

  -- a number less than 1 above, and one less than 1 below
  one_less : (t : Bool) → ltb a (n * d) ≡ t → (bit_of t ≤ n) × (n - bit_of t ≡ a / d)
  one_less false h =
      let l = ltb-false a (n * d) h in
      (omega arith, none n ∙ part_is a d n (down_pos e) l (omega arith))
    where
      none : (n : ℕ) → n - 0 ≡ n
      none n = omega arith
  one_less true h =
      let l = ltb-true a (n * d) h in
      let s = some_of n l in
      let k : 1 * d ≤ n * d = mul-le-mul_right d s in
      let b : (n - 1) * d ≡ n * d - 1 * d = minus_mul n 1 d in
      (s, part_is a d (n - 1) (down_pos e) (omega arith) (omega arith))
    where
      some_of : (n : ℕ) → a < n * d → 1 ≤ n
      some_of zero h = absurd (none (0 * d) (zero-mul d) h)
        where
          none : (z : ℕ) → z ≡ 0 → a < z → ⊥
          none z e l = omega arith
      some_of (suc n) h = omega arith

  one_more : (t : Bool) → ltb (n * d) a ≡ t → n + bit_of t ≡ upward a d
  one_more false h =
      let l = ltb-false (n * d) a h in
      none n ∙ upward_is a d n (down_pos e) l (omega arith)
    where
      none : (n : ℕ) → n + 0 ≡ n
      none n = omega arith
  one_more true h =
      let l = ltb-true (n * d) a h in
      let b : (n + 1) * d ≡ n * d + 1 * d = add-mul n 1 d in
      upward_is a d (n + 1) (down_pos e) (omega arith) (omega arith)

  told_fin : Told x r
  told_fin =
      let t = lt x r in
      let u = lt r x in
      let k = one_less t (sym (less_whole r n m e R)) in
      record {
        down_is = sub_whole r (of_int binary32 (pos (bit_of t))) n (bit_of t) R (bit t) k.0 ∙ floor_is (n - bit_of t) k.1;
        up_is = add_whole r (of_int binary32 (pos (bit_of u))) n (bit_of u) R (bit u) ∙ ceiling_is (n + bit_of u) (one_more u (sym (whole_less r n m e R)));
      }

told_of : (x r : Float) → lt Zero x ≡ true → lt x Limit ≡ true → Near x r → Told x r
unfolding lt Near
told_of nan r p q h = absurd h
told_of (inf s) r p q h = absurd h
told_of (fin true m e) r p q h = absurd (false≢true p)
told_of (fin false m e) r p q (n, i, c) =
    let h = ltb-true (m * up e * 1) (8388608 * down e) q in
    subst (Told (fin false m e)) (sym i) (told_fin m e n (omega arith) (rw (num_is m e, den_is e) at c))

pub told : (x r : Float) → Positive x → below? x ≡ true → Near x r → Told x r
told x r p q n = told_of x r (above_zero x p) (under_limit x true q) n
