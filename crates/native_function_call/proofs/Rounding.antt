-- Floor and Ceiling of a value are what document 02 says. Assumes nothing.
use mathlib.Core.Path.{◌≡◌, refl}
use mathlib.Core.List.{[], ◌∷◌}
use Rattle.op.specs.Op.{op_floor, op_ceiling}
use Rattle.binary32.specs.Real.{floor_f, ceiling_f}
use Rattle.list_definitions.specs.Defs.{ListDefinitions}
use Rattle.ink_value.specs.Val.{Val, bool, int, float, list, void}
use Rattle.operator_kinds.specs.Kinds.{unary, arity, kind_unary, kind_apply}
use Rattle.number_operators.specs.Numbers.{unary_f, whole_unary, real_unary}
use Rattle.native_function_call.specs.Apply.{apply_op, compute}
use Rattle.native_function_call.specs.Rounding.{rounded}

module _ (u : ListDefinitions) where
  pub floors : (v : Val) → apply_op u op_floor (v ∷ []) ≡ rounded floor_f v
  unfolding apply_op compute unary arity kind_unary kind_apply unary_f whole_unary real_unary
  floors (bool b) = refl
  floors (int z) = refl
  floors (float x) = refl
  floors (list o es) = refl
  floors void = refl

  pub ceilings : (v : Val) → apply_op u op_ceiling (v ∷ []) ≡ rounded ceiling_f v
  unfolding apply_op compute unary arity kind_unary kind_apply unary_f whole_unary real_unary
  ceilings (bool b) = refl
  ceilings (int z) = refl
  ceilings (float x) = refl
  ceilings (list o es) = refl
  ceilings void = refl
