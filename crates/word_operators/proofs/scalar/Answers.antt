-- `word_operators::scalar` meets its contract: its answer has room in its words. Assumes nothing.
use mathlib.Core.List.{[]}
use Rattle.list_definitions.specs.Defs.{ListDefinitions}
use Rattle.ink_value.specs.Held.{operands_in}
use Rattle.op.specs.Op.{op_number}
use Rattle.words_in.specs.Words.{operands_at}
use Rattle.word_numbers.proofs.Said.{scalar_small}
use Rattle.word_operators.proofs.scalar.Goals as goal

none : ListDefinitions
none = record { ends = []; defined = []; limit = 0 }

pub outcome-requires : goal.outcome-requires
outcome-requires c =
    let a = c.args in
    scalar_small none (op_number a.op) (operands_in a.lists (operands_at a.count a.operands.now)) a.kind c.requires.fact.0 _ (rw c.operands_at-used.ensures at (c.scalar-outcome.ensures none))
