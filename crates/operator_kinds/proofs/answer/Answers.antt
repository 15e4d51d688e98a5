-- `operator_kinds::answer` meets its contract. Assumes nothing.
use mathlib.Core.Path.{sym, ◌∙◌}
use native.Mathlib.Omega.{arith}
use Rattle.ink_number.specs.Question.{answer as answer_of}
use Rattle.op.specs.Op.{op_number}
use Rattle.operator_kinds.proofs.Counting.{below_range, entry_given, range_given, second_alike, second_entry}
use Rattle.operator_kinds.proofs.answer.Goals as goal

pub returns-then-count-eq3 : goal.returns-then-count-eq3
returns-then-count-eq3 c =
    range_given (op_number c.args.op) c.args.left c.args.middle c.args.right c.args.count (answer_of c.range.result) (sym c.requires.0) c.if-count-eq3.true c.range.ensures

pub entry-requires : goal.entry-requires
entry-requires c =
    let o = op_number c.args.op in (
      below_range o c.args.count (sym c.requires.0) c.requires.1 c.if-count-eq3.false,
      omega (arith, c.requires.0, c.requires.1),
      λ one. second_alike c.args.count c.args.left c.args.middle (c.requires.0 ∙ one) ∙ sym c.second.ensures,
    )

pub returns : goal.returns
returns c =
    let n = c.args.count in
    let o = op_number c.args.op in
    entry_given o c.args.left c.args.middle c.args.right n (answer_of c.entry.result) (sym c.requires.0) c.requires.1 c.if-count-eq3.false
    (c.entry.ensures ∙ rw c.second.ensures (second_entry n c.args.left c.args.middle o (sym c.requires.0)))
