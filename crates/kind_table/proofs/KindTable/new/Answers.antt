-- `kind_table::KindTable::new` meets its contract: one test, computed of the whole table. Assumes nothing.
use mathlib.Core.Path.{refl}
use Rattle.slices.specs.Every.{◌and◌}
use Rattle.operator_kinds.specs.Kinds.{kind_entry, known, unary, kind_unary, kind_binary}
use Rattle.kind_table.proofs.KindTable.new.Goals as goal

pub invariant_of-result : goal.invariant_of-result
unfolding kind_entry known unary kind_unary kind_binary ◌and◌
invariant_of-result c = record { right = refl }
