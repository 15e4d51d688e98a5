-- The operators on numbers, by operator number, where the result is no List. A number that is none of the operators listed gives 0 or no.
-- Assumes nothing.
use Rattle.std.specs.Prelude.{Bool, false, cond, not, ◌&&◌, ◌||◌, ℕ, eqb, ℤ, pos, neg_ℤ, ◌+ℤ◌, ◌-ℤ◌, ◌*ℤ◌, length, Float}
use Rattle.std.specs.Int.Signed.{lt_z, le_z}
use Rattle.op.specs.Op.{op_add, op_subtract, op_divide, op_multiply, op_mod, op_negate, op_equal, op_greater, op_less, op_greater_than_or_equals, op_less_than_or_equals, op_not_equals, op_not, op_and, op_or, op_min, op_max, op_floor, op_ceiling, op_int, op_float, op_count, op_value_of_list}
use Rattle.operator_kinds.specs.Kinds.{common}
use Rattle.ink_number.specs.Answer.{Answer, gives}
use Rattle.ink_number.specs.Int.{wrap, quotient, remainder, min_z, max_z, eq_z, truthy_z}
use Rattle.binary32.specs.Real.{add_f, sub_f, mul_f, div_f, rem_f, neg_f, floor_f, ceiling_f, min_f, max_f, eq_f, ne_f, lt_f, le_f, truthy_f, of_int32}
use Rattle.ink_value.specs.Val.{Val, kind_of}
use Rattle.ink_value.specs.declared.Kind.{Kind}
use Rattle.ink_value.specs.declared.Kind.TheVariants as K
use Rattle.ink_value.specs.Convert.{bit_z, as_int, as_float, truthy, entries_of}

-- ---- two operands, of one kind

-- the arithmetic of two Ints
unfoldable pub arith_z : ℕ → ℤ → ℤ → Answer ℤ
arith_z o x y =
    cond (eqb o op_add) (gives (wrap (x +ℤ y)))
    (cond (eqb o op_subtract) (gives (wrap (x -ℤ y)))
    (cond (eqb o op_divide) (quotient x y)
    (cond (eqb o op_multiply) (gives (wrap (x *ℤ y)))
    (cond (eqb o op_mod) (remainder x y)
    (cond (eqb o op_min) (gives (min_z x y))
    (cond (eqb o op_max) (gives (max_z x y))
    (gives (pos 0))))))))

-- the same of two Floats
unfoldable pub arith_f : ℕ → Float → Float → Float
arith_f o x y =
    cond (eqb o op_add) (add_f x y)
    (cond (eqb o op_subtract) (sub_f x y)
    (cond (eqb o op_divide) (div_f x y)
    (cond (eqb o op_multiply) (mul_f x y)
    (cond (eqb o op_mod) (rem_f x y)
    (cond (eqb o op_min) (min_f x y)
    (cond (eqb o op_max) (max_f x y)
    (of_int32 (pos 0))))))))

-- the tests on two Ints
unfoldable pub test_z : ℕ → ℤ → ℤ → Bool
test_z o x y =
    cond (eqb o op_equal) (eq_z x y)
    (cond (eqb o op_greater) (lt_z y x)
    (cond (eqb o op_less) (lt_z x y)
    (cond (eqb o op_greater_than_or_equals) (le_z y x)
    (cond (eqb o op_less_than_or_equals) (le_z x y)
    (cond (eqb o op_not_equals) (not (eq_z x y))
    (cond (eqb o op_and) (truthy_z x && truthy_z y)
    (cond (eqb o op_or) (truthy_z x || truthy_z y)
    false)))))))

-- the same on two Floats
unfoldable pub test_f : ℕ → Float → Float → Bool
test_f o x y =
    cond (eqb o op_equal) (eq_f x y)
    (cond (eqb o op_greater) (lt_f y x)
    (cond (eqb o op_less) (lt_f x y)
    (cond (eqb o op_greater_than_or_equals) (le_f y x)
    (cond (eqb o op_less_than_or_equals) (le_f x y)
    (cond (eqb o op_not_equals) (ne_f x y)
    (cond (eqb o op_and) (truthy_f x && truthy_f y)
    (cond (eqb o op_or) (truthy_f x || truthy_f y)
    false)))))))

-- two numbers, coerced to their common kind
abbrev pub test_numbers : Kind → ℕ → Val → Val → Bool
test_numbers K.Bool o a b = false
test_numbers K.Int o a b = test_z o (as_int a) (as_int b)
test_numbers K.Float o a b = test_f o (as_float a) (as_float b)
test_numbers K.List o a b = false
test_numbers K.Void o a b = false

-- two numbers, by their kinds
abbrev pub test_two : ℕ → Val → Val → Bool
test_two o a b = test_numbers (common (kind_of a) (kind_of b)) o a b

-- ---- one operand

-- an Int: of a number or, with Not, Count and ValueOfList, of a List. "An Int stays an Int" under Floor and Ceiling
unfoldable pub whole_unary : ℕ → Val → ℤ
whole_unary o a =
    cond (eqb o op_negate) (wrap (neg_ℤ (as_int a)))
    (cond (eqb o op_not) (bit_z (not (truthy a)))
    (cond (eqb o op_floor) (as_int a)
    (cond (eqb o op_ceiling) (as_int a)
    (cond (eqb o op_int) (as_int a)
    (cond (eqb o op_count) (pos (length (entries_of a)))
    (cond (eqb o op_value_of_list) (as_int a)
    (pos 0)))))))

-- a Float, of a Float
unfoldable pub unary_f : ℕ → Float → Float
unary_f o x =
    cond (eqb o op_negate) (neg_f x)
    (cond (eqb o op_floor) (floor_f x)
    (cond (eqb o op_ceiling) (ceiling_f x)
    (cond (eqb o op_float) x
    (of_int32 (pos 0)))))

-- of any operand, as a Float
unfoldable pub real_unary : ℕ → Val → Float
real_unary o a = unary_f o (as_float a)
