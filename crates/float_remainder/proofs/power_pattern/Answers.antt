-- `float_remainder::power_pattern` meets its contract: below 2^23 units a power is its own fraction, from there it is a leading digit.
use Rattle.float_remainder.proofs.Units.{low_power, high_power}
use Rattle.float_remainder.proofs.power_pattern.Goals as goal

pub returns-then-k-lt-FRACTION_DIGITS-clause-finite : goal.returns-then-k-lt-FRACTION_DIGITS-clause-finite
returns-then-k-lt-FRACTION_DIGITS-clause-finite c = (low_power c.args.k c.if-k-lt-FRACTION_DIGITS.true).0

pub returns-then-k-lt-FRACTION_DIGITS-clause-value : goal.returns-then-k-lt-FRACTION_DIGITS-clause-value
returns-then-k-lt-FRACTION_DIGITS-clause-value c = (low_power c.args.k c.if-k-lt-FRACTION_DIGITS.true).1

pub returns-else-k-lt-FRACTION_DIGITS-clause-value : goal.returns-else-k-lt-FRACTION_DIGITS-clause-value
returns-else-k-lt-FRACTION_DIGITS-clause-value c = (high_power c.args.k c.if-k-lt-FRACTION_DIGITS.false c.requires).1
