-- The number that a finite bit pattern stands for, in units of 2 ^ -149, by the pattern's fields: the exponent's below the sign, and 23
-- digits of a fraction. Assumes nothing. For inner steps alone: no entry point's contract cites it.
use Rattle.std.specs.Prelude.{ℕ, ◌+◌, ◌-◌, ◌*◌, ◌/◌, ◌%◌, ◌^◌, cond, ltb}

-- an infinity's pattern: the finite ones are below it
abbrev pub infinity : ℕ
infinity = 0x7f80_0000

-- an exponent's field of 0 counts as 1
abbrev pub exponent : ℕ → ℕ
exponent b = b % 2 ^ 31 / 2 ^ 23 - 1

-- where the exponent's field is not 0 there is a leading digit above the fraction
abbrev pub significand : ℕ → ℕ
significand b = cond (ltb (b % 2 ^ 31) (2 ^ 23)) (b % 2 ^ 23) (2 ^ 23 + b % 2 ^ 23)

abbrev pub units : ℕ → ℕ
units b = significand b * 2 ^ exponent b
