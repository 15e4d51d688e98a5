-- `pack_literals::copy_each` meets its contract. The loop's invariant: k entries are written. Assumes nothing.
use mathlib.Core.Path.{◌≡◌}
use Rattle.slices.specs.Every.{table}
use Rattle.slices.specs.Filled.{fill}
use Rattle.pack.specs.Read.{item_from, value_from}
use Rattle.pack_literals.proofs.copy_each.Given as goal

abbrev pub invariant-loop-k : goal.invariant-loop-k
invariant-loop-k l =
    (l.items ≡ fill l.from (table l.k (item_from l.wide l.p l.at)) l.initial.items)
    × (l.values ≡ fill l.from (table l.k (value_from l.wide l.p l.at)) l.initial.values)
