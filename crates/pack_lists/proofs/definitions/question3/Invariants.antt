-- `pack_lists::definitions::question3` meets its contract. The loop's invariant: the definitions passed are well formed, and `items` counts
-- their items. Assumes nothing.
use Prim.Native.Nat.{◌*◌, ◌≤◌}
use mathlib.Core.Bool.{true}
use mathlib.Core.Path.{◌≡◌}
use Rattle.slices.specs.Every.{every}
use Rattle.pack.specs.Bodies.{definition_ok, items_below}
use Rattle.pack_lists.proofs.definitions.question3.Given as goal

abbrev pub invariant-loop-d : goal.invariant-loop-d
invariant-loop-d l = (l.items ≡ items_below l.format l.pack.bytes.now l.d) × (l.items ≤ 65536 * l.d) × (every l.d (definition_ok l.format l.pack.bytes.now) ≡ true)
