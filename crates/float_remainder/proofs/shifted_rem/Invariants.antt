-- `float_remainder::shifted_rem` meets its contract: the rest, shifted by what is left of d, leaves what m shifted by d leaves.
use mathlib.Core.Path.{◌≡◌}
use Prim.Native.Nat.{◌*◌, ◌%◌, ◌^◌, ◌<◌}
use Rattle.float_remainder.proofs.shifted_rem.Given as goal

abbrev pub invariant-loop-left : goal.invariant-loop-left
invariant-loop-left l = (l.rest < 2 ^ 24) × (l.divisor ≡ l.n) × (l.rest * 2 ^ l.left % l.n ≡ l.m * 2 ^ l.d % l.n)

abbrev pub decreases-loop-left : goal.decreases-loop-left
decreases-loop-left l = l.left
