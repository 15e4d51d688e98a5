-- `ink_float::sub` meets its contract: the difference is exact but for one rounding. Assumes nothing.
use Rattle.binary32.proofs.Meets.{sub_meets}
use Rattle.ink_float.proofs.sub.Goals as goal

pub returns-clause-exactly : goal.returns-clause-exactly
returns-clause-exactly c = sub_meets c.args.a c.args.b
