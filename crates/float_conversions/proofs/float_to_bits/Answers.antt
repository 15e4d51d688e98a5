-- `float_conversions::float_to_bits` meets its contract, which says over whole numbers what the library's says. Assumes nothing.
use Rattle.binary32.proofs.Binary32.{fitting}
use Rattle.binary32.proofs.Meets.{meant_number, to_bits_meets}
use Rattle.float_conversions.proofs.float_to_bits.Goals as goal

pub returns-clause-only : goal.returns-clause-only
returns-clause-only c = (meant_number (to_bits_meets c.args.x (fitting c.args.x c.well_formed.0.1)) c.f32_to_bits_with_nan.ensures).1
