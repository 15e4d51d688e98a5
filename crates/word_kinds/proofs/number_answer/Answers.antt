-- `word_kinds::number_answer` meets its contract. Assumes nothing.
use borrow.Author.Rules.{rules}
use Rattle.op.specs.Op.{op_number}
use Rattle.word_kinds.proofs.Operands.{answer_uncounted, answer_untaken, answer_counted}
use Rattle.word_kinds.proofs.number_answer.Goals as goal

pub returns-then-operands-count : goal.returns-then-operands-count
returns-then-operands-count c = answer_uncounted c.args.operands.now (op_number c.args.op) c.args.count c.operands.result c.operands.ensures c.if-operands-count.true

pub returns-then-not-numbers : goal.returns-then-not-numbers
returns-then-not-numbers c =
    answer_untaken c.args.operands.now (op_number c.args.op) c.args.count c.requires c.operands.result c.operands.ensures c.if-operands-count.false
    c.code_in-left.result c.code_in-right.result c.code_in-left.ensures c.code_in-right.ensures c.numbers.result c.numbers.ensures (search rules) _ c.untaken.ensures

pub returns : goal.returns
returns c =
    answer_counted c.args.operands.now (op_number c.args.op) c.args.count c.requires c.operands.result c.operands.ensures c.if-operands-count.false
    c.code_in-left.result c.code_in-right.result c.code_in-left.ensures c.code_in-right.ensures c.numbers.result c.numbers.ensures (search rules) c.number_entry.result c.number_entry.ensures
