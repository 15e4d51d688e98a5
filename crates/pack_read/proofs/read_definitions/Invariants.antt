-- `pack_read::read_definitions` meets its contract. The loop's invariant: the ends and the values of the definitions passed are written,
-- and `items` counts them. Assumes nothing.
use Prim.Native.Nat.{suc}
use mathlib.Core.Path.{◌≡◌}
use Rattle.slices.specs.Every.{table}
use Rattle.slices.specs.Filled.{fill}
use Rattle.pack.specs.Bodies.{items_below}
use Rattle.pack.proofs.Values.{values_below}
use Rattle.pack_read.proofs.read_definitions.Given as goal

abbrev pub invariant-loop-d : goal.invariant-loop-d
invariant-loop-d l =
    (l.items ≡ items_below l.pack.format l.pack.bytes.now l.d) × (l.ends ≡ fill 0 (table l.d (λ e. items_below l.pack.format l.pack.bytes.now (suc e))) l.initial.ends) × (l.defined ≡ fill 0 (values_below l.pack.format l.pack.bytes.now l.d) l.initial.defined)
