-- `word_numbers::number` meets its contract: its answer has room in its words. Assumes nothing.
use mathlib.Core.Path.{◌≡◌, refl, ap}
use mathlib.Core.List.{[]}
use native.Mathlib.Omega.{arith}
use lib.ListN.{take}
use Rattle.list_definitions.specs.Defs.{ListDefinitions}
use Rattle.op.specs.Op.{op_number}
use Rattle.ink_value.specs.Val.{code_of}
use Rattle.ink_value.specs.declared.Kind.TheVariants as K
use Rattle.value_words.proofs.Saying.{says}
use Rattle.word_kinds.specs.Operands.{vals_at}
use Rattle.word_numbers.proofs.Said.{scalar_small}
use Rattle.word_numbers.proofs.number.Goals as goal

none : ListDefinitions
none = record { ends = []; defined = []; limit = 0 }

pub outcome-requires : goal.outcome-requires
outcome-requires c =
    let h : c.args.kind ≡ K.List → ⊥ = λ e. let z = ap code_of e in omega (arith, z, c.requires.small) in
    scalar_small none (op_number c.args.op) (take c.args.count (vals_at [] [] c.args.operands.now)) c.args.kind h _ (c.computed-outcome.ensures none [] [])

pub returns : goal.returns
returns c =
    λ u is vs. says _ _ _ _ _ refl (c.computed-outcome.ensures u is vs) c.outcome.ensures
