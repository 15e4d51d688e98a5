-- The operators agree with their answers on kinds. Assumes nothing.
use mathlib.Core.Path.{◌≡◌, refl}
use mathlib.Core.Bool.{Bool, true, false, cond}
use mathlib.Core.List.{List, [], ◌∷◌, map}
use Prim.Native.Nat.{ℕ}
use lib.Dec.{eqb}
use lib.IntN.{ℤ}
use Rattle.ink_value.specs.Val.{Val, kind_of}
use Rattle.ink_value.specs.declared.Kind.{Kind}
use Rattle.ink_value.specs.declared.Kind.TheVariants as K
use Rattle.ink_number.specs.Answer.{Answer, gives, refuses}
use Rattle.operator_kinds.specs.Kinds.{kind_apply}
use Rattle.ink_value.specs.Convert.{as_int}
use Rattle.number_operators.specs.Numbers.{arith_z}
use Rattle.ink_number.specs.Int.{divisor_question, can_divide, quotient, remainder}
use Rattle.op.specs.Op.{op_add, op_subtract, op_divide, op_multiply, op_mod, op_min, op_max}
use Rattle.list_definitions.specs.Defs.{ListDefinitions}
use Rattle.native_function_call.specs.Apply.{of_int, whole, compute, guarded, apply_op, Agree}

-- question 15 is the one refusal of Int arithmetic
abbrev Fifteen : Answer ℤ → Type 0
Fifteen (gives z) = Unit {0}
Fifteen (refuses r) = r ≡ divisor_question

both_ways : (t : Bool) (a b : Answer ℤ) → Fifteen a → Fifteen b → Fifteen (cond t a b)
both_ways true a b p q = p
both_ways false a b p q = q

arith_fifteen : (o : ℕ) (x y : ℤ) → Fifteen (arith_z o x y)
unfolding arith_z quotient remainder
arith_fifteen o x y =
    both_ways (eqb o op_add) _ _ tt
    (both_ways (eqb o op_subtract) _ _ tt
    (both_ways (eqb o op_divide) _ _ (both_ways (can_divide x y) _ _ tt refl)
    (both_ways (eqb o op_multiply) _ _ tt
    (both_ways (eqb o op_mod) _ _ (both_ways (can_divide x y) _ _ tt refl) (both_ways (eqb o op_min) _ _ tt (both_ways (eqb o op_max) _ _ tt tt))))))

int_agrees : (a : Answer ℤ) → Fifteen a → Agree (gives K.Int) (of_int a)
int_agrees (gives z) h = refl
int_agrees (refuses r) h = h

whole_agrees : (o : ℕ) (vs : List Val) → Agree (gives K.Int) (whole o vs)
whole_agrees o [] = refl
whole_agrees o (a ∷ []) = refl
whole_agrees o (a ∷ b ∷ []) = int_agrees (arith_z o (as_int a) (as_int b)) (arith_fifteen o (as_int a) (as_int b))
whole_agrees o (a ∷ b ∷ c ∷ vs) = refl

pub compute_agrees : (u : ListDefinitions) (o : ℕ) (vs : List Val) (k : Kind) → Agree (gives k) (compute u o vs k)
unfolding compute
compute_agrees u o vs K.Bool = refl
compute_agrees u o vs K.Int = whole_agrees o vs
compute_agrees u o vs K.Float = refl
compute_agrees u o vs K.List = refl
compute_agrees u o vs K.Void = refl

guarded_agrees : (u : ListDefinitions) (o : ℕ) (vs : List Val) (q : Answer Kind) → Agree q (guarded q (compute u o vs))
guarded_agrees u o vs (gives k) = compute_agrees u o vs k
guarded_agrees u o vs (refuses r) = refl

pub agree : (u : ListDefinitions) (o : ℕ) (vs : List Val) → Agree (kind_apply o (map kind_of vs)) (apply_op u o vs)
unfolding apply_op
agree u o vs = guarded_agrees u o vs (kind_apply o (map kind_of vs))
