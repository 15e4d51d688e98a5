-- lib.Ieee's `sum`, ± a / c + ± b / c: the exact sum rounded once, with its sign. Assumes nothing.
use mathlib.Core.Path.{◌≡◌, refl, sym, ap, ◌∙◌, subst}
use mathlib.Core.Bool.{Bool, true, false, ◌&&◌, cond}
use mathlib.Core.Logic.{◌⊎◌, inl, inr}
use Prim.Native.Nat.{ℕ, zero, suc, ◌+◌, ◌-◌, ◌≤◌, ◌<◌}
use native.Mathlib.Nat.{le_of_lt, le_of_eq, eq-or-lt_of_le}
use native.Mathlib.Omega.{arith}
use borrow.Author.Tests.{ltb-true, ltb-false}
use lib.Dec.{ltb}
use lib.IntN.{ℤ, pos, neg_ℤ, nat_abs, sub_ℕ, ◌+ℤ◌, neg_ℤ-+ℤ}
use lib.Ieee.{Float, binary32, round, sum}
use Rattle.ink_number.specs.Int.{with_sign}
use Rattle.binary32.specs.Nearest.{Rounded}
use Rattle.binary32.specs.Operations.{sum_sign}
use Rattle.ink_number.proofs.Signed.{sub_lt, sub_ge}
use Rattle.binary32.proofs.Rounds.{rounded}

abbrev SumAt : Bool → ℕ → Bool → ℕ → ℕ → Float → Type 0
SumAt s a t b c r = let z = with_sign s a +ℤ with_sign t b in Rounded (sum_sign s t z) (nat_abs z) c r

-- `round` of the sum's sign p and magnitude k
at : (s t : Bool) (c : ℕ) (z : ℤ) (p : Bool) (k : ℕ) → 0 < c → sum_sign s t z ≡ p → nat_abs z ≡ k
    → Rounded (sum_sign s t z) (nat_abs z) c (round binary32 p k c)
at s t c z p k C e f =
    subst (Rounded (sum_sign s t z) (nat_abs z) c)
    (ap (λ (q : Bool). round binary32 q (nat_abs z) c) e ∙ ap (λ (x : ℕ). round binary32 p x c) f)
    (rounded (sum_sign s t z) (nat_abs z) c C)

-- the sum of two of a sign
both_plus : (a b c : ℕ) → 0 < c → SumAt false a false b c (round binary32 false (a + b) c)
both_plus a b c C = at false false c (pos (a + b)) false (a + b) C (plus_sign (a + b)) refl
  where
    plus_sign : (k : ℕ) → sum_sign false false (pos k) ≡ false
    plus_sign zero = refl
    plus_sign (suc k) = refl

both_minus : (a b c : ℕ) → 0 < c → SumAt true a true b c (round binary32 true (a + b) c)
both_minus a b c C =
    let z = neg_ℤ (pos a) +ℤ neg_ℤ (pos b) in
    let e : z ≡ neg_ℤ (pos (a + b)) = sym (neg_ℤ-+ℤ (pos a) (pos b)) in
    at true true c z true (a + b) C (ap (sum_sign true true) e ∙ minus_sign (a + b)) (ap nat_abs e ∙ size (a + b))
  where
    minus_sign : (k : ℕ) → sum_sign true true (neg_ℤ (pos k)) ≡ true
    minus_sign zero = refl
    minus_sign (suc k) = refl

    size : (k : ℕ) → nat_abs (neg_ℤ (pos k)) ≡ k
    size zero = refl
    size (suc k) = refl

-- a + -b and -a + b are differences of natural numbers
plus_minus : (a b : ℕ) → pos a +ℤ neg_ℤ (pos b) ≡ sub_ℕ a b
plus_minus a zero = ap pos (more a) ∙ sym (sub_ge a 0 (from a))
  where
    more : (a : ℕ) → a + 0 ≡ a - 0
    more a = omega arith

    from : (a : ℕ) → 0 ≤ a
    from a = omega arith
plus_minus a (suc b) = refl

minus_plus : (a b : ℕ) → neg_ℤ (pos a) +ℤ pos b ≡ sub_ℕ b a
minus_plus zero b = ap pos (more b) ∙ sym (sub_ge b 0 (from b))
  where
    more : (a : ℕ) → 0 + a ≡ a - 0
    more a = omega arith

    from : (a : ℕ) → 0 ≤ a
    from a = omega arith
minus_plus (suc a) b = refl

-- of unlike signs: the difference has the sign of the larger, and +0 where there is none. s is the sign of a
unlike_meets : (s t : Bool) (a b c : ℕ) (z : ℤ) → 0 < c → (b ≤ a → (sum_sign s t z ≡ s && ltb b a) × (nat_abs z ≡ a - b))
    → (a < b → (sum_sign s t z ≡ t) × (nat_abs z ≡ b - a))
    → Rounded (sum_sign s t z) (nat_abs z) c (cond (ltb a b) (round binary32 t (b - a) c) (round binary32 (s && ltb b a) (a - b) c))
unlike_meets s t a b c z C g l = go (ltb a b) refl
  where
    go : (x : Bool) → ltb a b ≡ x → Rounded (sum_sign s t z) (nat_abs z) c (cond x (round binary32 t (b - a) c) (round binary32 (s && ltb b a) (a - b) c))
    go true e = let h = l (ltb-true a b e) in at s t c z t (b - a) C h.0 h.1
    go false e = let h = g (ltb-false a b e) in at s t c z (s && ltb b a) (a - b) C h.0 h.1

sub_abs_ge : (a b : ℕ) → b ≤ a → nat_abs (sub_ℕ a b) ≡ a - b
sub_abs_ge a b h = ap nat_abs (sub_ge a b h)

sub_abs_lt : (a b : ℕ) → a < b → nat_abs (sub_ℕ a b) ≡ b - a
sub_abs_lt a b h = ap nat_abs (sub_lt a b h) ∙ num a b h
  where
    num : (a b : ℕ) → a < b → suc (b - suc a) ≡ b - a
    num a b h = omega arith

-- the sign of a number that is not negative
sign_pos : (s t : Bool) (k : ℕ) → s && t ≡ false → sum_sign s t (pos k) ≡ false
sign_pos s t zero e = e
sign_pos s t (suc k) e = refl

-- the sign of -(a - b), for b up to a: the negative one's, unless the two are the same
sign_neg : (a b : ℕ) → b ≤ a → sum_sign true false (sub_ℕ b a) ≡ ltb b a
sign_neg a b h = go (ltb b a) refl
  where
    go : (x : Bool) → ltb b a ≡ x → sum_sign true false (sub_ℕ b a) ≡ x
    go true e = ap (sum_sign true false) (sub_lt b a (ltb-true b a e))
    go false e = ap (sum_sign true false) (sub_ge b a (ltb-false b a e)) ∙ sign_pos true false (b - a) refl

plus_meets : (a b c : ℕ) → 0 < c → SumAt false a true b c (cond (ltb a b) (round binary32 true (b - a) c) (round binary32 false (a - b) c))
plus_meets a b c C =
    let z = pos a +ℤ neg_ℤ (pos b) in
    let e = plus_minus a b in
    unlike_meets false true a b c z C
    (λ h. (ap (sum_sign false true) (e ∙ sub_ge a b h) ∙ sign_pos false true (a - b) refl, ap nat_abs e ∙ sub_abs_ge a b h))
    (λ h. (ap (sum_sign false true) (e ∙ sub_lt a b h), ap nat_abs e ∙ sub_abs_lt a b h))

minus_meets : (a b c : ℕ) → 0 < c → SumAt true a false b c (cond (ltb a b) (round binary32 false (b - a) c) (round binary32 (ltb b a) (a - b) c))
minus_meets a b c C =
    let z = neg_ℤ (pos a) +ℤ pos b in
    let e = minus_plus a b in
    unlike_meets true false a b c z C
    (λ h. (ap (sum_sign true false) e ∙ sign_neg a b h, ap nat_abs e ∙ back a b h))
    (λ h. (ap (sum_sign true false) (e ∙ sub_ge b a (le_of_lt h)) ∙ sign_pos true false (b - a) refl, ap nat_abs e ∙ sub_abs_ge b a (le_of_lt h)))
  where
    back : (a b : ℕ) → b ≤ a → nat_abs (sub_ℕ b a) ≡ a - b
    back a b h = go (eq-or-lt_of_le h)
      where
        none : (a b : ℕ) → b ≡ a → b - a ≡ a - b
        none a b e = omega arith

        go : (b ≡ a) ⊎ (b < a) → nat_abs (sub_ℕ b a) ≡ a - b
        go (inl e) = sub_abs_ge b a (le_of_eq (sym e)) ∙ none a b e
        go (inr l) = sub_abs_lt b a l

pub sum_meets : (s : Bool) (a : ℕ) (t : Bool) (b c : ℕ) → 0 < c → SumAt s a t b c (sum binary32 s a t b c)
unfolding sum
sum_meets false a false b c C = both_plus a b c C
sum_meets true a true b c C = both_minus a b c C
sum_meets false a true b c C = plus_meets a b c C
sum_meets true a false b c C = minus_meets a b c C
