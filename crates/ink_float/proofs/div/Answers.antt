-- `ink_float::div` meets its contract: the quotient is exact but for one rounding. Assumes nothing.
use Rattle.binary32.proofs.Meets.{div_meets}
use Rattle.ink_float.proofs.div.Goals as goal

pub returns-clause-exactly : goal.returns-clause-exactly
returns-clause-exactly c = div_meets c.args.a c.args.b
