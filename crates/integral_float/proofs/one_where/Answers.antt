-- `integral_float::one_where` meets its contract. Assumes nothing.
use mathlib.Core.Path.{sym, ap}
use mathlib.Core.Bool.{Bool}
use lib.IntN.{pos}
use lib.Ieee.{binary32, of_int, of_bits}
use Rattle.ink_number.specs.Int.{bit_of}
use Rattle.integral_float.proofs.one_where.Goals as goal

pub returns-then-test : goal.returns-then-test
unfolding of_bits of_int
returns-then-test c = ap (λ (t : Bool). of_int binary32 (pos (bit_of t))) (sym c.if-test.true)

pub returns-else-test : goal.returns-else-test
unfolding of_bits of_int
returns-else-test c = ap (λ (t : Bool). of_int binary32 (pos (bit_of t))) (sym c.if-test.false)
