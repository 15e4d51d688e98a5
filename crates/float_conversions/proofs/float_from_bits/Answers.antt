-- `float_conversions::float_from_bits` meets its contract, which says over whole numbers what the library's says. Assumes nothing.
use Rattle.binary32.proofs.Meets.{meant, of_bits_meets}
use Rattle.float_conversions.proofs.float_from_bits.Goals as goal

pub returns-clause-exactly : goal.returns-clause-exactly
returns-clause-exactly c = (meant (of_bits_meets c.args.b) c.f32_from_bits_with_nan.ensures).1
