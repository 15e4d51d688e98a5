-- `float_remainder::shifted_rem` meets its contract: each step takes 40 digits of the shift, and at most 40 are left at the end.
use mathlib.Core.Path.{refl, ap, ◌∙◌}
use Prim.Native.Nat.{ℕ, ◌-◌, ◌*◌, ◌%◌, ◌^◌}
use native.Mathlib.Nat.{mod-lt, le_of_lt}
use native.Mathlib.Omega.{arith}
use Rattle.float_remainder.proofs.Scaling.{room, step}
use Rattle.float_remainder.proofs.shifted_rem.Goals as goal

pub loop-left-preserved : goal.loop-left-preserved
loop-left-preserved c =
    let n = c.args.n in
    let r = c.loop-left.rest in
    let d = c.loop-left.left in
    let l = mod-lt (r * 2 ^ 40 % 2 ^ 64) c.requires.n_nonzero in
    rw c.from-divisor.ensures (
      omega (arith, c.requires.n_short),
      refl,
      ap (λ (z : ℕ). z % n * 2 ^ (d - 40) % n) (room r 40 c.loop-left.invariant.0 (omega arith))
          ∙ step r n d (le_of_lt c.loop-left-test.true)
          ∙ c.loop-left.invariant.2,
    )
