-- The Float operators under the names that definitions cite. Where a result is rounded or built the name is that of the prover's own
-- binary32 operation, or of one made from it (floor and ceiling), and the contract of the function that computes it says over whole
-- numbers what it is; elsewhere it is that of the definition over whole numbers (Operations.antt beside this). Assumes nothing.
use Rattle.std.specs.Prelude.{Bool, true, false, ℕ, ◌+◌, ◌-◌, ◌/◌, ℤ, pos, Float}
use Rattle.std.specs.Float.Ieee
use Rattle.std.specs.Float.{nan, inf, fin, binary32}
use Rattle.binary32.specs.Binary32.{numerator, denominator}
use Rattle.binary32.specs.Operations.{opposite, equal, not_equal, less, less_or_equal, smaller, greater, truthy, truncated}

abbrev pub add_f : Float → Float → Float
add_f x y = Ieee.add binary32 x y

abbrev pub sub_f : Float → Float → Float
sub_f x y = Ieee.sub binary32 x y

abbrev pub mul_f : Float → Float → Float
mul_f x y = Ieee.mul binary32 x y

abbrev pub div_f : Float → Float → Float
div_f x y = Ieee.div binary32 x y

abbrev pub rem_f : Float → Float → Float
rem_f x y = Ieee.rem binary32 x y

abbrev pub neg_f : Float → Float
neg_f x = opposite x

-- a quotient, to the next whole number up
abbrev pub upward : ℕ → ℕ → ℕ
upward num den = (num + (den - 1)) / den

-- the Float of a magnitude's whole part or, below zero, of the next whole number up, which is exact
unfoldable pub floor_f : Float → Float
floor_f nan = nan
floor_f (inf s) = inf s
floor_f (fin false m e) = Ieee.of_int binary32 (pos (numerator m e / denominator e))
floor_f (fin true m e) = opposite (Ieee.of_int binary32 (pos (upward (numerator m e) (denominator e))))

-- the same from the other side
abbrev pub ceiling_f : Float → Float
ceiling_f x = opposite (floor_f (opposite x))

abbrev pub eq_f : Float → Float → Bool
eq_f x y = equal x y

abbrev pub ne_f : Float → Float → Bool
ne_f x y = not_equal x y

abbrev pub lt_f : Float → Float → Bool
lt_f x y = less x y

abbrev pub le_f : Float → Float → Bool
le_f x y = less_or_equal x y

abbrev pub min_f : Float → Float → Float
min_f x y = smaller x y

abbrev pub max_f : Float → Float → Float
max_f x y = greater x y

abbrev pub truthy_f : Float → Bool
truthy_f x = truthy x

abbrev pub of_int32 : ℤ → Float
of_int32 n = Ieee.of_int binary32 n

abbrev pub to_int32 : Float → ℤ
to_int32 x = truncated x

-- the Float with a bit pattern, and a Float's pattern, 7fc00000 for a NaN
abbrev pub of_bits32 : ℕ → Float
of_bits32 b = Ieee.of_bits binary32 b

abbrev pub to_bits32 : Float → ℕ
to_bits32 x = Ieee.to_bits binary32 x
