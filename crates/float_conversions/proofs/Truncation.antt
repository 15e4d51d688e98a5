-- A Float cut toward zero and held within the range of an Int, as `float_to_int` does it: from -2^31 up to 2^31 the whole part
-- as an i64 is that as an i32, elsewhere it is an end of the range. Assumes nothing.
use Rattle.std.proofs.Common.{◌≡◌, ℕ, ◌+◌, ◌-◌, ◌*◌, ◌/◌, ◌^◌, ◌<◌, ◌≤◌, min, Bool, true, false, ◌&&◌, ◌||◌, T, eqb, ltb, pos, negsuc, neg_ℤ, sym, refl, ap, subst, true≢false, le_of_eq, le_of_lt, div-lt_iff_lt-mul, le-div_iff_mul-le, mul-one, arith, lt→ltb, ltb-false, ltb-true, eqb-true}
use mathlib.Core.Bool.{false≢true}
use lib.Ieee.{Float, nan, inf, fin, up, down, lt, le, eq, is_nan, to_signed}
use lib.Ieee.Fits.{down_pos}
use Rattle.float_conversions.proofs.Nans.{nan_of, nan_is}

-- ---- the whole part against a bound

part_lt : (a d c : ℕ) → 0 < d → a * 1 < c * d → a / d < c
part_lt a d c p h = (div-lt_iff_lt-mul p).1 (subst (λ (x : ℕ). x < c * d) (mul-one a) h)

part_ge : (a d c : ℕ) → 0 < d → c * d ≤ a * 1 → c ≤ a / d
part_ge a d c p h = (le-div_iff_mul-le p).1 (subst (λ (x : ℕ). c * d ≤ x) (mul-one a) h)

-- a ≤ b, from the tests of `le`
or_le : (a b : ℕ) → ltb a b || eqb b a && true ≡ true → a ≤ b
or_le a b e = go (ltb a b) (eqb b a) (ltb-true a b) (eqb-true b a) e
  where
    go : (p q : Bool) → (p ≡ true → a < b) → (q ≡ true → b ≡ a) → p || q && true ≡ true → a ≤ b
    go true q h k x = le_of_lt (h refl)
    go false true h k x = le_of_eq (sym (k refl))
    go false false h k x = absurd (false≢true x)

or_gt : (a b : ℕ) (q : Bool) → ltb a b || q ≡ false → b ≤ a
or_gt a b q e = ltb-false a b (go (ltb a b) q e)
  where
    go : (p r : Bool) → p || r ≡ false → p ≡ false
    go true r x = absurd (true≢false x)
    go false r x = refl

or_yes : (a b : ℕ) (q : Bool) → a < b → T (ltb a b || q)
or_yes a b q h = go (ltb a b) (lt→ltb a b h)
  where
    go : (p : Bool) → T p → T (p || q)
    go true t = tt
    go false t = absurd t

-- ---- the part of an f32 from -2^31 up to 2^31, both as values

abbrev Whole : Float → Type 0
Whole x = (T (le (fin true 1 (pos 63)) x) × T (lt x (fin false 1 (pos 63)))) × (to_signed 63 x ≡ to_signed 31 x)

wide : (a d : ℕ) → 0 < d → a < 2147483648 * d → a < 9223372036854775808 * d
wide a d p h = omega arith

wide_le : (a d : ℕ) → 0 < d → a ≤ 2147483648 * d → a < 9223372036854775808 * d
wide_le a d p h = omega arith

min_same : (v : ℕ) → v < 2 ^ 31 → min v (2 ^ 63 - 1) ≡ min v (2 ^ 31 - 1)
min_same v h = omega arith

min_same_le : (v : ℕ) → v ≤ 2 ^ 31 → min v (2 ^ 63) ≡ min v (2 ^ 31)
min_same_le v h = omega arith

le_part : (a d : ℕ) → 0 < d → a * 1 ≤ 2147483648 * d → a / d ≤ 2147483648
le_part a d p h = let k = part_lt a d 2147483649 p (omega arith) in omega arith

pub inside : (x : Float) → le (fin true 1 (pos 31)) x ≡ true → lt x (fin false 1 (pos 31)) ≡ true → Whole x
unfolding le lt eq to_signed
inside nan p q = absurd (false≢true p)
inside (inf true) p q = absurd (false≢true p)
inside (inf false) p q = absurd (false≢true q)
inside (fin false m e) p q =
    let d = down e in
    let D = down_pos e in
    let h : m * up e * 1 < 2147483648 * d = ltb-true (m * up e * 1) (2147483648 * d) q in (
      (or_yes 0 (9223372036854775808 * d + m * up e * 1) _ (omega arith), lt→ltb (m * up e * 1) (9223372036854775808 * d) (wide (m * up e * 1) d D h)),
      ap pos (min_same (m * up e / d) (part_lt (m * up e) d (2 ^ 31) D h)),
    )
inside (fin true m e) p q =
    let d = down e in
    let D = down_pos e in
    let h : m * up e * 1 ≤ 2147483648 * d = or_le (m * up e * 1) (2147483648 * d) p in (
      (or_yes (m * up e * 1) (9223372036854775808 * d) _ (wide_le (m * up e * 1) d D h), lt→ltb 0 (m * up e * 1 + 9223372036854775808 * d) (omega arith)),
      ap (λ (v : ℕ). neg_ℤ (pos v)) (min_same_le (m * up e / d) (le_part (m * up e) d D h)),
    )

-- ---- outside

cap : (v : ℕ) → 2 ^ 31 ≤ v → min v (2 ^ 31 - 1) ≡ 2147483647
cap v h = omega arith

cap_le : (v : ℕ) → 2 ^ 31 ≤ v → min v (2 ^ 31) ≡ 2147483648
cap_le v h = omega arith

not_below : (a b : ℕ) → 0 < b → ltb 0 (a + b) ≡ false → ⊥
not_below a b h e = let k = ltb-false 0 (a + b) e in omega arith

not_below_l : (a b : ℕ) (q : Bool) → 0 < a → ltb 0 (a + b) || q ≡ false → ⊥
not_below_l a b q h e = let k = or_gt 0 (a + b) q e in omega arith

pub above : (x : Float) → le (fin true 1 (pos 31)) x ≡ true → lt x (fin false 1 (pos 31)) ≡ false → pos 2147483647 ≡ to_signed 31 x
unfolding le lt eq to_signed
above nan p q = absurd (false≢true p)
above (inf true) p q = absurd (false≢true p)
above (inf false) p q = refl
above (fin false m e) p q =
    ap pos (sym (cap (m * up e / down e) (part_ge (m * up e) (down e) (2 ^ 31) (down_pos e) (ltb-false (m * up e * 1) (2147483648 * down e) q))))
above (fin true m e) p q = let D = down_pos e in absurd (not_below (m * up e * 1) (2147483648 * down e) (omega arith) q)

pub under : (x : Float) → le (fin true 1 (pos 31)) x ≡ false → is_nan x ≡ false → negsuc 2147483647 ≡ to_signed 31 x
unfolding le lt eq to_signed
under nan p q = absurd (nan_is q)
under (inf true) p q = refl
under (inf false) p q = absurd (true≢false p)
under (fin false m e) p q = let D = down_pos e in absurd (not_below_l (2147483648 * down e) (m * up e * 1) _ (omega arith) p)
under (fin true m e) p q =
    ap (λ (v : ℕ). neg_ℤ (pos v))
    (sym (cap_le (m * up e / down e) (part_ge (m * up e) (down e) (2 ^ 31) (down_pos e) (or_gt (m * up e * 1) (2147483648 * down e) _ p))))

pub none : (x : Float) → is_nan x ≡ true → pos 0 ≡ to_signed 31 x
unfolding to_signed
none x e = sym (ap (to_signed 31) (nan_of x e))
