-- lib.Ieee compares ± a with ± b by cases of the signs: that is the order of the whole numbers ± a and ± b, in which -0 is 0.
-- Assumes nothing.
use mathlib.Core.Path.{◌≡◌, refl, sym, ap, ◌∙◌}
use mathlib.Core.Bool.{Bool, true, false, ◌&&◌}
use Prim.Native.Nat.{ℕ, zero, suc, ◌+◌}
use native.Mathlib.Nat.{zero-add, zero-lt-suc}
use native.Mathlib.Omega.{arith}
use borrow.Author.Tests.{lt-ltb}
use lib.Dec.{eqb, ltb, leb-suc-zero, leb-suc-suc, eqb-zero-suc, eqb-suc-zero, eqb-suc-suc}
use lib.Signed.{lt_z}
use lib.Ieee.{below, level}
use Rattle.ink_number.specs.Int.{with_sign, eq_z}

pub below_is : (s : Bool) (a : ℕ) (t : Bool) (b : ℕ) → below s a t b ≡ lt_z (with_sign s a) (with_sign t b)
below_is false a false b = refl
below_is false a true zero = sym (leb-suc-zero a)
below_is false a true (suc b) = refl
below_is true zero false b = ap (ltb 0) (zero-add b)
below_is true (suc a) false b = lt-ltb 0 (suc a + b) (omega arith)
below_is true zero true zero = refl
below_is true zero true (suc b) = leb-suc-zero (suc b)
below_is true (suc a) true zero = lt-ltb 0 (suc a) (zero-lt-suc a)
below_is true (suc a) true (suc b) = leb-suc-suc (suc b) a

pub and_true : (x : Bool) → x && true ≡ x
and_true true = refl
and_true false = refl

and_false : (x : Bool) → x && false ≡ false
and_false true = refl
and_false false = refl

pub and_same : (x : Bool) → x && x ≡ x
and_same true = refl
and_same false = refl

pub level_is : (s : Bool) (a : ℕ) (t : Bool) (b : ℕ) → level s a t b ≡ eq_z (with_sign s a) (with_sign t b)
level_is false a false b = and_true (eqb a b)
level_is false a true zero = and_same (eqb a 0)
level_is false zero true (suc b) = and_true (eqb 0 (suc b)) ∙ eqb-zero-suc b
level_is false (suc a) true (suc b) = ap (λ (x : Bool). eqb (suc a) (suc b) && x) (eqb-suc-zero a) ∙ and_false (eqb (suc a) (suc b))
level_is true zero false b = and_true (eqb 0 b)
level_is true (suc a) false b = ap (λ (x : Bool). eqb (suc a) b && x) (eqb-suc-zero a) ∙ and_false (eqb (suc a) b)
level_is true zero true zero = refl
level_is true zero true (suc b) = and_true (eqb 0 (suc b)) ∙ eqb-zero-suc b
level_is true (suc a) true zero = and_true (eqb (suc a) 0) ∙ eqb-suc-zero a
level_is true (suc a) true (suc b) = and_true (eqb (suc a) (suc b)) ∙ eqb-suc-suc a b
