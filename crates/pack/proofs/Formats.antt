-- The formats that the code can run. Assumes nothing.
use native.Mathlib.Omega.{arith}
use Rattle.pack.specs.Format.{format1, Runnable}

pub runnable1 : Runnable format1
runnable1 = record { narrow = record { some = omega arith; most = omega arith; few = omega arith }; some = omega arith; few = omega arith }
