-- The operators on values: what document 01 has under "Down the call".
use Rattle.std.specs.Prelude.{◌≡◌, Bool, false, cond, not, ◌&&◌, ◌||◌, List, [], ◌∷◌, map, ℕ, ℤ, pos, Float, eqb}
use Rattle.op.specs.Op.{op_and, op_or}
use Rattle.operator_kinds.specs.Kinds.{known, arity, kind_apply, common}
use Rattle.ink_number.specs.Answer.{Answer, gives, refuses, ask}
use Rattle.ink_number.specs.Int.{divisor_question}
use Rattle.binary32.specs.Real.{of_int32}
use Rattle.ink_value.specs.Val.{Val, bool, int, float, void, kind_of, is_list}
use Rattle.ink_value.specs.declared.Kind.{Kind}
use Rattle.ink_value.specs.declared.Kind.TheVariants as K
use Rattle.ink_value.specs.Convert.{as_int, as_float, truthy, entries_of}
use Rattle.list_definitions.specs.Defs.{ListDefinitions}
use Rattle.number_operators.specs.Numbers.{arith_z, arith_f, test_numbers, whole_unary, real_unary}
use Rattle.list_pairs.specs.Pairs.{test_l}
use Rattle.list_operators.specs.Lists.{list_result}

-- ---- results that are Bools

-- with a List among the operands, And and Or go by truthiness
unfoldable pub test_lists : ℕ → Val → Val → Bool
test_lists o a b =
    cond (eqb o op_and) (truthy a && truthy b)
    (cond (eqb o op_or) (truthy a || truthy b)
    (test_l o (entries_of a) (entries_of b)))

-- two operands, coerced to their common kind
abbrev pub test_as : Kind → ℕ → Val → Val → Bool
test_as k o a b = cond (is_list k) (test_lists o a b) (test_numbers k o a b)

-- of one operand: Not
abbrev pub test : ℕ → List Val → Bool
test o [] = false
test o (a ∷ []) = not (truthy a)
test o (a ∷ b ∷ []) = test_as (common (kind_of a) (kind_of b)) o a b
test o (a ∷ b ∷ c ∷ vs) = false

-- ---- results that are Ints

-- an Int as a value, or the refusal (question 15)
abbrev pub of_int : Answer ℤ → Answer Val
of_int (gives z) = gives (int z)
of_int (refuses r) = refuses r

abbrev pub whole : ℕ → List Val → Answer Val
whole o [] = gives (int (pos 0))
whole o (a ∷ []) = gives (int (whole_unary o a))
whole o (a ∷ b ∷ []) = of_int (arith_z o (as_int a) (as_int b))
whole o (a ∷ b ∷ c ∷ vs) = gives (int (pos 0))

-- ---- results that are Floats

abbrev pub real : ℕ → List Val → Float
real o [] = of_int32 (pos 0)
real o (a ∷ []) = real_unary o a
real o (a ∷ b ∷ []) = arith_f o (as_float a) (as_float b)
real o (a ∷ b ∷ c ∷ vs) = of_int32 (pos 0)

-- ---- an operator

-- the result, by its kind, where questions 8 to 13 say yes (no operator gives Void)
unfoldable pub compute : ListDefinitions → ℕ → List Val → Kind → Answer Val
compute u o vs K.Bool = gives (bool (test o vs))
compute u o vs K.Int = whole o vs
compute u o vs K.Float = gives (float (real o vs))
compute u o vs K.List = gives (list_result u o vs)
compute u o vs K.Void = gives void

abbrev pub guarded : Answer Kind → (Kind → Answer Val) → Answer Val
guarded (gives k) f = f k
guarded (refuses r) f = refuses r

-- the questions that ask for kinds first; then 15 and the result
unfoldable pub apply_op : ListDefinitions → ℕ → List Val → Answer Val
apply_op u o vs = guarded (kind_apply o (map kind_of vs)) (compute u o vs)

-- a direct call: question 8, then 10 ("exactly as many"), then the operator
unfoldable pub call : ListDefinitions → ℕ → ℕ → List Val → Answer Val
call u o n vs = ask 8 (known o) (ask 10 (eqb n (arity o)) (apply_op u o vs))

-- how an operator's answer on values goes with its answer on kinds: the same refusal; or a result of that kind, or 15
abbrev pub Agree : Answer Kind → Answer Val → Type 0
Agree (gives k) (gives v) = kind_of v ≡ k
Agree (gives k) (refuses r) = r ≡ divisor_question
Agree (refuses r) (gives v) = ⊥
Agree (refuses r) (refuses q) = q ≡ r
