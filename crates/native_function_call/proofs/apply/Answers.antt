-- `native_function_call::apply` meets its contract. Assumes nothing.
use Rattle.op.specs.Op.{op_number}
use Rattle.ink_value.proofs.Given.{gave_is}
use Rattle.list_operators.specs.Lists.{definitions_of}
use Rattle.native_function_call.proofs.Calling.{call_given}
use Rattle.native_function_call.proofs.apply.Goals as goal

pub returns : goal.returns
returns c =
    let a = c.args in
    let o = a.operands in
    let g = rw (c.in_ok-kind.was, c.kind-a.ensures, c.kind-b.ensures, c.kind-c.ensures) at c.kinds.ensures.answered in
    (gave_is (call_given (definitions_of a.pack) (op_number a.op) o.count a.lists.items.now a.lists.values.now o.first o.second o.third c.in_ok-kind.kind g) c.computed.ensures.0, c.computed.ensures.1)
