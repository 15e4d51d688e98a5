-- `word_lists::list` meets its contract. Assumes nothing.
use mathlib.Core.Path.{refl}
use Rattle.op.specs.Op.{op_number}
use Rattle.ink_list.proofs.Laws.{rising_length}
use Rattle.ink_number.specs.Answer.{gives}
use Rattle.ink_value.specs.Held.{operands_in}
use Rattle.ink_value.proofs.ReadBack.{first_wf}
use Rattle.list_operators.specs.Lists.{definitions_of, entries_for, list_result}
use Rattle.list_operators.proofs.Listing.{entries_rise}
use Rattle.words_in.specs.Words.{value_at, operands_at}
use Rattle.value_words.proofs.Saying.{calls}
use Rattle.value_words.proofs.Few.{small_outcome}
use Rattle.word_lists.proofs.list.Goals as goal

pub put_value-requires : goal.put_value-requires
put_value-requires c =
    let a = c.args in
    let ws = a.operands.now in
    let u = definitions_of a.pack in
    let l = operands_in a.lists (operands_at a.count ws) in
    let up = entries_rise u a.pack.limit a.pack.bounded.within (op_number a.op) l (first_wf a.pack.limit a.lists.items.now a.lists.values.now a.count (value_at ws 0) (value_at ws 1) (value_at ws 2) c.requires.first_in) in
    small_outcome a.pack.limit a.pack.bounded.small (gives (list_result u (op_number a.op) l)) _ (rw c.operands_at-used.ensures at c.list-v.ensures.0.answered)
    (rising_length a.pack.limit (entries_for u (op_number a.op) l) up)

pub returns : goal.returns
returns c =
    let a = c.args in
    let g = rw c.operands_at-used.ensures at c.list-v.ensures in
    let r = gives (list_result (definitions_of a.pack) (op_number a.op) (operands_in a.lists (operands_at a.count a.operands.now))) in
    (calls r r _ _ _ _ _ _ _ refl g.0 (refl, c.put_value.ensures), g.1)
