-- The operators' numbers: "Bytes 0 to 30 are the cases of `Op` in source order", and 31 is range. Assumes nothing.
use Rattle.std.specs.Prelude.{ℕ, ◌+◌}
use Rattle.op.specs.declared.Op.{Op}
use Rattle.op.specs.declared.Op.TheVariants as Is

abbrev pub op_add : ℕ
op_add = 0

abbrev pub op_subtract : ℕ
op_subtract = 1

abbrev pub op_divide : ℕ
op_divide = 2

abbrev pub op_multiply : ℕ
op_multiply = 3

abbrev pub op_mod : ℕ
op_mod = 4

abbrev pub op_negate : ℕ
op_negate = 5

abbrev pub op_equal : ℕ
op_equal = 6

abbrev pub op_greater : ℕ
op_greater = 7

abbrev pub op_less : ℕ
op_less = 8

abbrev pub op_greater_than_or_equals : ℕ
op_greater_than_or_equals = 9

abbrev pub op_less_than_or_equals : ℕ
op_less_than_or_equals = 10

abbrev pub op_not_equals : ℕ
op_not_equals = 11

abbrev pub op_not : ℕ
op_not = 12

abbrev pub op_and : ℕ
op_and = 13

abbrev pub op_or : ℕ
op_or = 14

abbrev pub op_min : ℕ
op_min = 15

abbrev pub op_max : ℕ
op_max = 16

abbrev pub op_pow : ℕ
op_pow = 17

abbrev pub op_floor : ℕ
op_floor = 18

abbrev pub op_ceiling : ℕ
op_ceiling = 19

abbrev pub op_int : ℕ
op_int = 20

abbrev pub op_float : ℕ
op_float = 21

abbrev pub op_has : ℕ
op_has = 22

abbrev pub op_hasnt : ℕ
op_hasnt = 23

abbrev pub op_intersect : ℕ
op_intersect = 24

abbrev pub op_list_min : ℕ
op_list_min = 25

abbrev pub op_list_max : ℕ
op_list_max = 26

abbrev pub op_all : ℕ
op_all = 27

abbrev pub op_count : ℕ
op_count = 28

abbrev pub op_value_of_list : ℕ
op_value_of_list = 29

abbrev pub op_invert : ℕ
op_invert = 30

abbrev pub op_range : ℕ
op_range = 31

-- an operator's number; no operator has those from 32 on
abbrev pub op_number : Op → ℕ
op_number Is.Add = op_add
op_number Is.Subtract = op_subtract
op_number Is.Divide = op_divide
op_number Is.Multiply = op_multiply
op_number Is.Mod = op_mod
op_number Is.Negate = op_negate
op_number Is.Equal = op_equal
op_number Is.Greater = op_greater
op_number Is.Less = op_less
op_number Is.GreaterThanOrEquals = op_greater_than_or_equals
op_number Is.LessThanOrEquals = op_less_than_or_equals
op_number Is.NotEquals = op_not_equals
op_number Is.Not = op_not
op_number Is.And = op_and
op_number Is.Or = op_or
op_number Is.Min = op_min
op_number Is.Max = op_max
op_number Is.Pow = op_pow
op_number Is.Floor = op_floor
op_number Is.Ceiling = op_ceiling
op_number Is.Int = op_int
op_number Is.Float = op_float
op_number Is.Has = op_has
op_number Is.Hasnt = op_hasnt
op_number Is.Intersect = op_intersect
op_number Is.ListMin = op_list_min
op_number Is.ListMax = op_list_max
op_number Is.All = op_all
op_number Is.Count = op_count
op_number Is.ValueOfList = op_value_of_list
op_number Is.Invert = op_invert
op_number Is.Range = op_range
op_number (Is.Other n) = 32 + n
