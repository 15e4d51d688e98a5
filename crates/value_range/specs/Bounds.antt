-- A value as a bound of range. Assumes nothing.
use Rattle.std.specs.Prelude.{ℤ, pos}
use Rattle.ink_list.specs.Entries.{values}
use Rattle.ink_list.specs.Ops.{lower_bound, upper_bound}
use Rattle.ink_value.specs.Val.{Val, bool, int, float, list, void}

-- "Range keeps values within bounds: lower 0, upper 2,147,483,647 unless the bound is an Int or non-empty List (its least, its greatest)."
abbrev pub lower_of : Val → ℤ
lower_of (bool b) = pos 0
lower_of (int z) = z
lower_of (float x) = pos 0
lower_of (list o es) = lower_bound (values es)
lower_of void = pos 0

abbrev pub upper_of : Val → ℤ
upper_of (bool b) = pos 2147483647
upper_of (int z) = z
upper_of (float x) = pos 2147483647
upper_of (list o es) = upper_bound (values es)
upper_of void = pos 2147483647
