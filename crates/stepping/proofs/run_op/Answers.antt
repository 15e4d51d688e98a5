-- `stepping::run_op` meets its contract: questions 8 and 10, and then the operator's answer on the stack below its operands. Assumes nothing.
use mathlib.Core.Path.{refl, sym, ◌∙◌}
use native.Mathlib.Omega.{arith}
use Rattle.op.specs.Op.{op_number}
use Rattle.list_operators.specs.Lists.{definitions_of}
use Rattle.stepping.proofs.Stepping.{no_operator, no_operands, operands_topped, steps_of}
use Rattle.stepping.proofs.run_op.Goals as goal

pub returns-then-count-eq0 : goal.returns-then-count-eq0
returns-then-count-eq0 c =
    let a = c.args in
    λ f t. (λ F e. no_operator (definitions_of a.pack) (op_number a.op) a.n f _ _ (sym c.operands-count.ensures ∙ c.if-count-eq0.true), (refl, refl))

pub returns-then-n-count : goal.returns-then-n-count
returns-then-n-count c =
    let a = c.args in
    λ f t. (
      λ F e.
          no_operands (definitions_of a.pack) (op_number a.op) a.n f _ _ c.operands-count.result (omega (arith, c.if-count-eq0.false))
          (sym c.operands-count.ensures) c.if-n-count.true,
      (refl, refl),
    )

pub returns : goal.returns
returns c =
    let a = c.args in
    let o = a.operands in
    let w = a.work.now in
    λ f t. (
      λ F e.
          steps_of a.n _ _ _ f _ _ _ _ _
          (operands_topped w.items.now w.values.now o.first o.second o.third f (definitions_of a.pack) (op_number a.op) a.n c.operands-count.result (rw c.operands-count.ensures t)
          (sym c.operands-count.ensures) (omega (arith, c.if-count-eq0.false)) (omega (arith, c.if-n-count.false)))
          (omega arith) (c.operate.ensures.0 F e),
      c.operate.ensures.1,
    )
