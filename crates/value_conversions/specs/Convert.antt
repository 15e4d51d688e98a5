-- Question 18: `cast` and the three `coerce_to_`. Assumes nothing.
use Rattle.std.specs.Prelude.{Bool, false, cond, ltb, pos}
use Rattle.ink_number.specs.Answer.{Answer, gives, refuses}
use Rattle.ink_number.specs.Int.{eq_z}
use Rattle.ink_value.specs.Val.{Val, bool, int, float, kind_of, code_of, is_list}
use Rattle.ink_value.specs.declared.Kind.{Kind}
use Rattle.ink_value.specs.declared.Kind.TheVariants as K
use Rattle.ink_value.specs.Convert.{as_int, as_float, truthy}

-- "`cast` to codes 0 to 3: numbers and Bool freely among themselves, List to Int or Float .., each kind to itself"
unfoldable pub castable : Kind → Kind → Bool
castable K.Bool from = ltb (code_of from) (code_of K.List)
castable K.Int from = ltb (code_of from) (code_of K.Void)
castable K.Float from = ltb (code_of from) (code_of K.Void)
castable K.List from = is_list from
castable K.Void from = false

unfoldable pub converted : Kind → Val → Val
converted K.Bool v = bool (truthy v)
converted K.Int v = int (as_int v)
converted K.Float v = float (as_float v)
converted K.List v = v
converted K.Void v = v

-- "else 18, as for Void and for codes above 3", which read as Void
unfoldable pub cast : Kind → Val → Answer Val
cast to v = cond (castable to (kind_of v)) (gives (converted to v)) (refuses 18)

-- "`coerce_to_bool` takes Bool and Int only, and only Int 1 is true"
unfoldable pub coerce_bool : Val → Answer Val
coerce_bool v = cond (ltb (code_of (kind_of v)) (code_of K.Float)) (gives (bool (eq_z (as_int v) (pos 1)))) (refuses 18)

-- "`coerce_to_int` and `coerce_to_float` refuse List and Void"
unfoldable pub coerce_int : Val → Answer Val
coerce_int v = cond (ltb (code_of (kind_of v)) (code_of K.List)) (gives (int (as_int v))) (refuses 18)

unfoldable pub coerce_float : Val → Answer Val
coerce_float v = cond (ltb (code_of (kind_of v)) (code_of K.List)) (gives (float (as_float v))) (refuses 18)

-- the three by the kind that they answer; none answers a List or Void
unfoldable pub coerce : Kind → Val → Answer Val
coerce K.Bool v = coerce_bool v
coerce K.Int v = coerce_int v
coerce K.Float v = coerce_float v
coerce K.List v = refuses 18
coerce K.Void v = refuses 18
