-- `native_function_call::test2` meets its contract: by the common kind of the two operands. Assumes nothing.
use mathlib.Core.Path.{sym, ap, ◌∙◌}
use Rattle.ink_number.proofs.Signed.{returned}
use Rattle.ink_value.specs.declared.Kind.{Kind}
use Rattle.ink_value.specs.Value.{val_of}
use Rattle.ink_value.proofs.Reading.{kind_in_lem}
use Rattle.slices.proofs.Lists.{ap2}
use Rattle.operator_kinds.specs.Kinds.{common}
use Rattle.native_function_call.specs.Apply.{test_as}
use Rattle.number_operators.specs.Numbers.{test_z}
use Rattle.op.specs.Op.{op_number}
use Rattle.native_function_call.proofs.test2.Goals as goal

pub returns-in-Int : goal.returns-in-Int
returns-in-Int c =
    let a = c.args.a in
    let b = c.args.b in
    let is = c.args.lists.items.now in
    let vs = c.args.lists.values.now in
    let kinds = ap2 common (c.kind.ensures ∙ kind_in_lem is vs a) (c.kind-2.ensures ∙ kind_in_lem is vs b) in
    c.test.ensures ∙ ap2 (test_z (op_number c.args.op))
    (returned c.to_int.type_inv ∙ c.to_int.ensures is c.requires.0.items_in)
    (returned c.to_int-in-Int.type_inv ∙ c.to_int-in-Int.ensures is c.requires.1.items_in)
    ∙ ap (λ (k : Kind). test_as k (op_number c.args.op) (val_of is vs a) (val_of is vs b)) (sym c.in-Int.is ∙ c.common.ensures ∙ kinds)
