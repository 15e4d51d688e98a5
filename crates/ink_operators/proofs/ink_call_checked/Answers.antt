-- `ink_operators::ink_call_checked` meets its contract: question 7, and then as `ink_apply`. Assumes nothing.
use mathlib.Core.Path.{sym, ◌∙◌}
use Rattle.list_operators.specs.Lists.{definitions}
use Rattle.calls.proofs.Forms.{ill_lent}
use Rattle.value_words.specs.Calls.{operands_in}
use Rattle.value_words.proofs.Saying.{refused_calls}
use Rattle.ink_operators.proofs.ink_call_checked.Goals as goal

pub returns-then-not-lent_well : goal.returns-then-not-lent_well
returns-then-not-lent_well c =
    let a = c.args in
    refused_calls _ 7 _ _ _ _
    (ill_lent a.items.now a.values.now a.result_items.now a.result_values.now a.op a.count (operands_in a.operands.now) (definitions a.ends.now a.defined.now _)
    (rw c.operands_at-used.ensures at (sym c.lent_well.ensures ∙ c.if-not-lent_well.true)))
    c.number.ensures c.put_index.ensures
