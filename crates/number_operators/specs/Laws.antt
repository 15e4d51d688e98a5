-- What holds of the operators on numbers of either kind: And and Or go by truth, and an operator that is none of those listed gives 0 or no.
-- Assumes nothing.
use Rattle.std.specs.Prelude.{◌≡◌, ◌≢◌, ⊤, refl, List, [], ◌∷◌, false, ◌&&◌, ◌||◌, ℕ, ℤ, pos, Float}
use Rattle.std.proofs.Common.{ne_eqb}
use Rattle.op.specs.Op.{op_add, op_subtract, op_divide, op_multiply, op_mod, op_equal, op_greater, op_less, op_greater_than_or_equals, op_less_than_or_equals, op_not_equals, op_and, op_or, op_min, op_max}
use Rattle.ink_number.specs.Answer.{gives}
use Rattle.ink_number.specs.Int.{truthy_z}
use Rattle.binary32.specs.Real.{truthy_f, of_int32}
use Rattle.number_operators.specs.Numbers.{arith_z, arith_f, test_z, test_f}

-- o is none of these operators
abbrev pub NoneOf : List ℕ → ℕ → Type 0
NoneOf [] o = ⊤
NoneOf (k ∷ ks) o = (o ≢ k) × NoneOf ks o

abbrev pub arithmetic : List ℕ
arithmetic = op_add ∷ op_subtract ∷ op_divide ∷ op_multiply ∷ op_mod ∷ op_min ∷ op_max ∷ []

abbrev pub tests : List ℕ
tests = op_equal ∷ op_greater ∷ op_less ∷ op_greater_than_or_equals ∷ op_less_than_or_equals ∷ op_not_equals ∷ op_and ∷ op_or ∷ []

pub both_z : (x y : ℤ) → test_z op_and x y ≡ truthy_z x && truthy_z y
unfolding test_z
both_z x y = refl

pub both_f : (x y : Float) → test_f op_and x y ≡ truthy_f x && truthy_f y
unfolding test_f
both_f x y = refl

pub either_z : (x y : ℤ) → test_z op_or x y ≡ truthy_z x || truthy_z y
unfolding test_z
either_z x y = refl

pub either_f : (x y : Float) → test_f op_or x y ≡ truthy_f x || truthy_f y
unfolding test_f
either_f x y = refl

pub no_arith_z : (o : ℕ) (x y : ℤ) → NoneOf arithmetic o → arith_z o x y ≡ gives (pos 0)
unfolding arith_z
no_arith_z o x y (a, (b, (c, (d, (e, (f, (g, _))))))) = rw (ne_eqb _ _ a, ne_eqb _ _ b, ne_eqb _ _ c, ne_eqb _ _ d, ne_eqb _ _ e, ne_eqb _ _ f, ne_eqb _ _ g)

pub no_arith_f : (o : ℕ) (x y : Float) → NoneOf arithmetic o → gives (arith_f o x y) ≡ gives (of_int32 (pos 0))
unfolding arith_f
no_arith_f o x y (a, (b, (c, (d, (e, (f, (g, _))))))) = rw (ne_eqb _ _ a, ne_eqb _ _ b, ne_eqb _ _ c, ne_eqb _ _ d, ne_eqb _ _ e, ne_eqb _ _ f, ne_eqb _ _ g)

pub no_test_z : (o : ℕ) (x y : ℤ) → NoneOf tests o → test_z o x y ≡ false
unfolding test_z
no_test_z o x y (a, (b, (c, (d, (e, (f, (g, (h, _)))))))) = rw (ne_eqb _ _ a, ne_eqb _ _ b, ne_eqb _ _ c, ne_eqb _ _ d, ne_eqb _ _ e, ne_eqb _ _ f, ne_eqb _ _ g, ne_eqb _ _ h)

pub no_test_f : (o : ℕ) (x y : Float) → NoneOf tests o → test_f o x y ≡ false
unfolding test_f
no_test_f o x y (a, (b, (c, (d, (e, (f, (g, (h, _)))))))) = rw (ne_eqb _ _ a, ne_eqb _ _ b, ne_eqb _ _ c, ne_eqb _ _ d, ne_eqb _ _ e, ne_eqb _ _ f, ne_eqb _ _ g, ne_eqb _ _ h)
