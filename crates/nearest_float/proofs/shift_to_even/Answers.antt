-- `nearest_float::shift_to_even` meets its contract: the sum's quotient is the rounded one (proofs/ToEven.antt). Assumes nothing.
use Rattle.nearest_float.proofs.ToEven.{rounded}
use Rattle.nearest_float.proofs.shift_to_even.Goals as goal

pub returns : goal.returns
returns c = rw (c.from.ensures, c.from-2.ensures) (rounded c.args.m c.args.k c.requires.0 c.requires.1)
