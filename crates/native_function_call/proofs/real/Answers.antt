-- `native_function_call::real` meets its contract. Assumes nothing.
use mathlib.Core.Path.{◌≡◌, sym, ap, ◌∙◌}
use Prim.Native.Nat.{ℕ}
use native.Mathlib.Omega.{arith}
use Rattle.slices.proofs.Lists.{ap2}
use Rattle.ink_value.specs.Value.{first_of}
use Rattle.number_operators.specs.Numbers.{arith_f}
use Rattle.native_function_call.specs.Apply.{real}
use Rattle.op.specs.Op.{op_number}
use Rattle.native_function_call.proofs.real.Goals as goal

pub returns : goal.returns
returns c =
    let o = c.args.operands in
    let vs = c.args.values.now in
    let two : o.count ≡ 2 = omega (arith, c.if-operands-eq1.false, c.requires.le_count.0, c.requires.le_count.1) in
    let e = c.arith.ensures in
    let q : c.arith.result ≡ arith_f (op_number c.args.op) c.to_float-x.result c.to_float.result = cc in
    λ is h. q
    ∙ ap2 (arith_f (op_number c.args.op))
    (c.to_float-x.ensures is h.0)
    (c.to_float.ensures is (h.1 two))
    ∙ ap (λ (n : ℕ). real (op_number c.args.op) (first_of is vs n o.first o.second o.third)) (sym two)
