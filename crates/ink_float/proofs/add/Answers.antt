-- `ink_float::add` meets its contract: the sum is exact but for one rounding. Assumes nothing.
use Rattle.binary32.proofs.Meets.{add_meets}
use Rattle.ink_float.proofs.add.Goals as goal

pub returns-clause-exactly : goal.returns-clause-exactly
returns-clause-exactly c = add_meets c.args.a c.args.b
