-- `native_function_call::test` meets its contract. Assumes nothing.
use mathlib.Core.Path.{◌≡◌, sym, ap, ◌∙◌}
use Prim.Native.Nat.{ℕ}
use native.Mathlib.Omega.{arith}
use Rattle.ink_value.specs.Value.{first_of}
use Rattle.native_function_call.specs.Apply.{test}
use Rattle.op.specs.Op.{op_number}
use Rattle.native_function_call.proofs.test.Goals as goal

pub returns : goal.returns
returns c =
    let o = c.args.operands in
    let two : o.count ≡ 2 = omega (arith, c.if-operands-eq1.false, c.requires.le_count.0, c.requires.le_count.1) in
    c.test2.ensures
    ∙ ap (λ (n : ℕ). test (op_number c.args.op) (first_of c.args.lists.items.now c.args.lists.values.now n o.first o.second o.third)) (sym two)
