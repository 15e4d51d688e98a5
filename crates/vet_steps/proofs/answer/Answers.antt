-- `vet_steps::answer` meets its contract: the operands on top of the stack, by the table, and of range by its rule. Assumes nothing.
use mathlib.Core.Path.{sym, ◌∙◌, ap}
use Prim.Native.Nat.{◌-◌}
use Rattle.op.specs.Op.{op_number}
use Rattle.machine.specs.Machine.{topped}
use Rattle.machine.specs.Stack.{stack_of}
use Rattle.vet_steps.specs.Step.{kind_on}
use Rattle.vet_steps.proofs.KindSteps.{step_entry, step_range}
use Rattle.vet_steps.proofs.answer.Goals as goal

pub returns-then-count-eq3 : goal.returns-then-count-eq3
returns-then-count-eq3 c =
    let f = kind_on c.args.stack.now in
    ap (topped (stack_of f (c.args.n - c.args.count))) c.range.ensures
    ∙ step_range f (op_number c.args.op) c.args.n c.args.count (sym c.requires.0) c.requires.2 c.if-count-eq3.true

pub returns-else-count-eq3 : goal.returns-else-count-eq3
returns-else-count-eq3 c =
    let f = kind_on c.args.stack.now in
    ap (topped (stack_of f (c.args.n - c.args.count))) c.entry.ensures
    ∙ step_entry f (op_number c.args.op) c.args.n c.args.count c.requires.1 (sym c.requires.0) c.requires.2 c.if-count-eq3.false
