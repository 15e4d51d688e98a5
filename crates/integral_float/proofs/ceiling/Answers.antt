-- `integral_float::ceiling` meets its contract: it is floor with both signs turned. Assumes nothing.
use mathlib.Core.Path.{ap, ◌∙◌}
use lib.Ieee.{neg}
use Rattle.binary32.specs.Real.{floor_f}
use Rattle.binary32.specs.Operations.{opposite}
use Rattle.binary32.proofs.Binary32.{fitting}
use Rattle.binary32.proofs.Meets.{meant, neg_meets, ceiling_meets}
use Rattle.integral_float.proofs.ceiling.Goals as goal

pub returns : goal.returns
returns c =
    let all =
    let x = c.args.x in
    meant (ceiling_meets x (fitting x c.well_formed.0.1))
    (ap neg (c.floor.ensures.value ∙ ap floor_f (neg_meets x)) ∙ neg_meets (floor_f (opposite x))) in
    record {
      value = all.0;
      exactly = all.1;
    }
