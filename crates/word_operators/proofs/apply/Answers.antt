-- `word_operators::apply` meets its contract. Assumes nothing.
use mathlib.Core.Path.{◌≡◌, refl}
use borrow.Author.Rules.{rules}
use Rattle.ink_number.specs.Question.{number}
use Rattle.op.specs.Op.{op_number}
use Rattle.std.specs.Prelude.{Ok}
use Rattle.ink_value.specs.declared.Kind.TheVariants as K
use Rattle.native_function_call.specs.Apply.{compute}
use Rattle.value_words.proofs.Saying.{calls_is}
use Rattle.word_operators.proofs.Called.{refused, given, scalar_given}
use Rattle.word_operators.proofs.apply.Goals as goal

pub returns-in-Err : goal.returns-in-Err
returns-in-Err c =
    let a = c.args in
    let d = a.pack.tables in
    let g = rw (c.in-Err.is, c.code_in.ensures, c.code_in-2.ensures, c.code_in-3.ensures) at c.kinds-kind.ensures.answered in (
      refused d.ends.now d.defined.now a.pack.limit a.lists.items.now a.lists.values.now a.count a.operands.now c.requires.operands_ok (search rules) a.out.now.items.now a.out.now.values.now c.requires.room (op_number a.op) (number c.in-Err.question) g c.number.ensures c.put_index.ensures,
      (refl, refl),
    )

pub returns-in-Ok-List : goal.returns-in-Ok-List
unfolding compute
returns-in-Ok-List c =
    let a = c.args in
    let d = a.pack.tables in
    let e : c.kinds-kind.result ≡ Ok K.List = search rules in
    let g = rw (e, c.code_in.ensures, c.code_in-2.ensures, c.code_in-3.ensures) at c.kinds-kind.ensures.answered in (
      calls_is
          (given d.ends.now d.defined.now a.pack.limit a.lists.items.now a.lists.values.now a.count a.operands.now c.requires.operands_ok (search rules) a.out.now.items.now a.out.now.values.now c.requires.room (op_number a.op) K.List g)
          c.list.ensures.0,
      c.list.ensures.1,
    )

pub returns-in-Ok : goal.returns-in-Ok
returns-in-Ok c =
    let a = c.args in
    let d = a.pack.tables in
    let g = rw (c.in-Ok.is, c.code_in.ensures, c.code_in-2.ensures, c.code_in-3.ensures) at c.kinds-kind.ensures.answered in
    let other : c.in-Ok.kind ≡ K.List → ⊥ = search rules in (
      scalar_given d.ends.now d.defined.now a.pack.limit a.lists.items.now a.lists.values.now a.count a.operands.now c.requires.operands_ok (search rules) a.out.now.items.now a.out.now.values.now c.requires.room (op_number a.op) c.in-Ok.kind g other (c.scalar.ensures _),
      (refl, refl),
    )
