-- `float_remainder::power` meets its contract: a pattern's sign stands above the rest of it.
use native.Mathlib.Nat.{le_of_lt}
use Rattle.std.proofs.lemmas.Float.{not_nan_f32_bits}
use Rattle.float_remainder.proofs.Units.{signed, signed_finite, signed_power}
use Rattle.float_remainder.proofs.power.Goals as goal

pub float_from_bits-result : goal.float_from_bits-result
float_from_bits-result c =
    let p = c.power_pattern.result in
    not_nan_f32_bits (signed c.args.pattern p) (le_of_lt (signed_finite c.args.pattern p c.power_pattern.ensures.finite))

pub returns : goal.returns
returns c = signed_power c.args.pattern c.power_pattern.result c.args.k (c.power_pattern.ensures.finite, c.power_pattern.ensures.value)
