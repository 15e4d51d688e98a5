-- `ink_operators::ink_apply` meets its contract: numbers by their words, and else the operator on values. Assumes nothing.
use native.Mathlib.Omega.{arith}
use borrow.Author.Rules.{rules}
use Rattle.pack.specs.Format.{format1}
use Rattle.word_operators.proofs.Called.{held, numbers_given}
use Rattle.ink_operators.proofs.ink_apply.Goals as goal

pub number_kind-requires : goal.number_kind-requires
number_kind-requires c =
    let a = c.args in
    held a.ends.now a.defined.now format1.limit a.items.now a.values.now a.count a.operands.now c.requires.formed (search rules)

pub number-requires : goal.number-requires
number-requires c = c.number_kind.ensures.yes c.in-Some.kind c.in-Some.is

pub returns-in-Some : goal.returns-in-Some
returns-in-Some c =
    let a = c.args in
    numbers_given a.ends.now a.defined.now _ a.items.now a.values.now a.count a.operands.now c.requires.formed (search rules) a.result_items.now a.result_values.now (omega (arith, c.requires.items_room, c.requires.values_room)) a.op c.in-Some.kind
    (rw c.from-op.ensures at (c.number_kind.ensures.yes c.in-Some.kind c.in-Some.is)) (rw c.from-op.ensures at c.number.ensures)
