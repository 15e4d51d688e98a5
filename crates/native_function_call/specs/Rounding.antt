-- Document 02's request 1, as one sentence: what Floor and Ceiling answer on a value, by its kind. Assumes nothing.
use Rattle.std.specs.Prelude.{Float}
use Rattle.ink_number.specs.Answer.{Answer, gives, refuses}
use Rattle.ink_value.specs.Val.{Val, bool, int, float, list, void}
use Rattle.ink_value.specs.Convert.{bit_z}

-- a Float is rounded by f; "An Int stays an Int", which a Bool becomes first; "Lists are unavailable under question 13"
abbrev pub rounded : (Float → Float) → Val → Answer Val
rounded f (bool b) = gives (int (bit_z b))
rounded f (int z) = gives (int z)
rounded f (float x) = gives (float (f x))
rounded f (list o es) = refuses 13
rounded f void = refuses 11
