-- `pack_read::copy_values` meets its contract. The loop's invariant: k values are written. Assumes nothing.
use Prim.Native.Nat.{◌+◌, ◌*◌}
use mathlib.Core.Path.{◌≡◌}
use Rattle.slices.specs.Every.{table}
use Rattle.slices.specs.Filled.{fill}
use Rattle.pack.specs.Bytes.{i32}
use Rattle.pack_read.proofs.copy_values.Given as goal

abbrev pub invariant-loop-k : goal.invariant-loop-k
invariant-loop-k l = l.out ≡ fill l.from (table l.k (λ j. i32 l.p (l.at + 4 * j))) l.initial.out
