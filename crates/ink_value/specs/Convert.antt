-- A value as a Bool, an Int, a Float, or entries. Assumes nothing.
use Rattle.std.specs.Prelude.{Bool, false, List, [], ℕ, ltb, ℤ, pos, Float, length}
use Rattle.ink_number.specs.Int.{truthy_z, bit_of}
use Rattle.binary32.specs.Real.{of_int32, to_int32, truthy_f}
use Rattle.ink_list.specs.Entries.{Entry, values}
use Rattle.ink_list.specs.Ops.{value_of_list}
use Rattle.ink_value.specs.Val.{Val, bool, int, float, list, void}

-- a Bool as an Int
abbrev pub bit_z : Bool → ℤ
bit_z b = pos (bit_of b)

-- "Float to Int truncates, saturates, and gives 0 for NaN"; "List to Int or Float by greatest value or 0"
abbrev pub as_int : Val → ℤ
as_int (bool b) = bit_z b
as_int (int z) = z
as_int (float x) = to_int32 x
as_int (list o es) = value_of_list (values es)
as_int void = pos 0

-- "Int to Float goes to the nearest, ties to the even significand"
abbrev pub as_float : Val → Float
as_float (bool b) = of_int32 (bit_z b)
as_float (int z) = of_int32 z
as_float (float x) = x
as_float (list o es) = of_int32 (value_of_list (values es))
as_float void = of_int32 (pos 0)

-- "Truthy: a number not 0 (NaN too), a non-empty List"
abbrev pub truthy : Val → Bool
truthy (bool b) = b
truthy (int z) = truthy_z z
truthy (float x) = truthy_f x
truthy (list o es) = ltb 0 (length es)
truthy void = false

-- a List's entries and its origin set
abbrev pub entries_of : Val → List Entry
entries_of (bool b) = []
entries_of (int z) = []
entries_of (float x) = []
entries_of (list o es) = es
entries_of void = []

abbrev pub origins_in : Val → ℕ
origins_in (bool b) = 0
origins_in (int z) = 0
origins_in (float x) = 0
origins_in (list o es) = o
origins_in void = 0
