-- `nearest_float::magnitude_to_float` meets its contract. m has 24 + k digits, so rounding it to 24 digits and scaling back is rounding it once (proofs/Significand.antt).
-- Assumes nothing.
use mathlib.Core.Path.{refl}
use lib.IntN.{pos}
use Prim.Native.Nat.{◌-◌}
use native.Mathlib.Nat.{le_trans, le_of_eq}
use lib.Count.{count_leading_zeros}
use Rattle.binary32.proofs.Meets.{meant, of_int_meets}
use Rattle.nearest_float.proofs.Significand.{long, digits_le, small_in, scaled}
use Rattle.nearest_float.proofs.magnitude_to_float.Goals as goal

pub returns-then-m-le-WHOLE_LIMIT-clause-exactly : goal.returns-then-m-le-WHOLE_LIMIT-clause-exactly
returns-then-m-le-WHOLE_LIMIT-clause-exactly c = (meant (of_int_meets (pos c.args.m)) refl).1

pub overflow_sub-k : goal.overflow_sub-k
overflow_sub-k c = (long c.args.m c.if-m-le-WHOLE_LIMIT.false c.ranges.m.fits).0

pub shift_to_even-digits-requires : goal.shift_to_even-digits-requires
shift_to_even-digits-requires c = let l = long c.args.m c.if-m-le-WHOLE_LIMIT.false c.ranges.m.fits in (l.1, l.2)

pub int_to_float-result-2 : goal.int_to_float-result-2
int_to_float-result-2 c =
    let m = c.args.m in
    let l = long m c.if-m-le-WHOLE_LIMIT.false c.ranges.m.fits in
    small_in c.shift_to_even-digits.result (le_trans (le_of_eq c.shift_to_even-digits.ensures) (digits_le m (8 - count_leading_zeros 32 m) l.4 l.5 l.3))

pub returns : goal.returns
returns c =
    let m = c.args.m in
    let l = long m c.if-m-le-WHOLE_LIMIT.false c.ranges.m.fits in
    let all = meant (of_int_meets (pos m)) (scaled m (8 - count_leading_zeros 32 m) c.shift_to_even-digits.result l.4 l.5 l.3 c.shift_to_even-digits.ensures) in
    record { value = all.0; exactly = all.1 }
