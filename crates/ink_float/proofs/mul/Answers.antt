-- `ink_float::mul` meets its contract: the product is exact but for one rounding. Assumes nothing.
use Rattle.binary32.proofs.Meets.{mul_meets}
use Rattle.ink_float.proofs.mul.Goals as goal

pub returns-clause-exactly : goal.returns-clause-exactly
returns-clause-exactly c = mul_meets c.args.a c.args.b
