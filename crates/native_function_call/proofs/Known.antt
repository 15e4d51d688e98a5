-- Each row of the tables of points holds, by one computation over each table. Assumes nothing.
use mathlib.Core.Path.{◌≡◌, refl}
use mathlib.Core.Bool.{true}
use lib.Ieee.{of_int, of_bits, to_bits}
use Rattle.binary32.specs.Operations.{opposite}
use Rattle.binary32.specs.Real.{floor_f}
use Rattle.ink_number.specs.Int.{quotient, remainder, residue, signed, wrap}
use Rattle.operator_kinds.specs.Kinds.{unary, arity, kind_unary, kind_binary, kind_apply}
use Rattle.number_operators.specs.Numbers.{arith_z, unary_f, whole_unary, real_unary}
use Rattle.list_pairs.specs.Pairs.{test_l}
use Rattle.native_function_call.specs.Apply.{test_lists, compute, apply_op}
use Rattle.native_function_call.specs.Known.{points, rounding_points, all_hold}

pub points_hold : all_hold points ≡ true
unfolding points quotient remainder residue signed wrap of_int to_bits unary arity kind_unary kind_binary kind_apply arith_z test_l test_lists unary_f whole_unary real_unary compute apply_op
points_hold = refl

pub rounding_points_hold : all_hold rounding_points ≡ true
unfolding rounding_points of_int of_bits to_bits opposite floor_f unary arity kind_unary kind_apply unary_f whole_unary real_unary compute apply_op
rounding_points_hold = refl
