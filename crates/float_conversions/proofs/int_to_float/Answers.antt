-- `float_conversions::int_to_float` meets its contract. A negative Int's Float is that of its magnitude, negated (proofs/Magnitude.antt).
-- Assumes nothing.
use Rattle.std.proofs.Common.{◌≡◌, arith}
use lib.Ieee.{neg}
use Rattle.binary32.proofs.Meets.{meant, of_int_meets}
use Rattle.binary32.specs.Real.{of_int32}
use Rattle.float_conversions.proofs.Magnitude.{plain, turned}
use Rattle.float_conversions.proofs.int_to_float.Goals as goal

pub returns-then-n-lt0-clause-exactly : goal.returns-then-n-lt0-clause-exactly
returns-then-n-lt0-clause-exactly c =
    let value : neg c.magnitude_to_float-nearest.result ≡ of_int32 c.args.n = grind (arith, plain, turned) in
    (meant (of_int_meets c.args.n) value).1
