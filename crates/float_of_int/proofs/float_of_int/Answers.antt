-- `float_of_int::float_of_int` meets its contract, which is that of `int_to_float`. Assumes nothing.
use mathlib.Core.Path.{◌∙◌}
use Rattle.ink_number.proofs.Signed.{read}
use Rattle.binary32.specs.Real.{of_int32}
use Rattle.binary32.proofs.Meets.{meant, of_int_meets}
use Rattle.float_of_int.proofs.float_of_int.Goals as goal

pub returns : goal.returns
returns c =
    let all =
    meant (of_int_meets c.args.n) (c.int_to_float.ensures.value ∙ read of_int32 c.args.n c.ranges.n) in
    record {
      value = all.0;
      exactly = all.1;
    }
