-- `native_function_call::whole` meets its contract. Assumes nothing.
use mathlib.Core.Path.{◌≡◌, sym, ap, ◌∙◌}
use Prim.Native.Nat.{ℕ}
use native.Mathlib.Omega.{arith}
use Rattle.ink_number.proofs.Signed.{returned}
use Rattle.slices.proofs.Lists.{ap2}
use Rattle.ink_value.specs.Value.{first_of}
use Rattle.number_operators.specs.Numbers.{arith_z}
use Rattle.native_function_call.specs.Apply.{of_int, whole}
use Rattle.op.specs.Op.{op_number}
use Rattle.native_function_call.proofs.whole.Goals as goal

pub whole1-requires : goal.whole1-requires
whole1-requires c = (c.requires.values_in.0, c.requires.le_count.2)

pub returns : goal.returns
returns c =
    let o = c.args.operands in
    let vs = c.args.values.now in
    let two : o.count ≡ 2 = omega (arith, c.if-operands-eq1.false, c.requires.le_count.0, c.requires.le_count.1) in
    λ is h. ap of_int (c.arith.ensures
    ∙ ap2 (arith_z (op_number c.args.op))
    (returned c.to_int.type_inv ∙ c.to_int.ensures is h.0)
    (returned c.to_int-2.type_inv ∙ c.to_int-2.ensures is (h.1 two)))
    ∙ ap (λ (n : ℕ). whole (op_number c.args.op) (first_of is vs n o.first o.second o.third)) (sym two)
