-- `integral_float::nearby` meets its contract: from 2^23 up to 2^24 a sum is rounded to a whole number. Assumes nothing.
use mathlib.Core.Path.{◌∙◌}
use lib.Ieee.{of_int, of_bits}
use Rattle.binary32.proofs.Meets.{lt_meets}
use Rattle.integral_float.proofs.Nearness.{near_of}
use Rattle.integral_float.proofs.nearby.Goals as goal

pub returns : goal.returns
unfolding of_bits of_int
returns c = near_of c.args.x (lt_meets _ c.args.x ∙ c.requires.0) (lt_meets c.args.x _ ∙ c.requires.1)
