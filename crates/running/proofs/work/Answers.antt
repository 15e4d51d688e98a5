-- `running::work` meets its contract. The invariant (`Working`): what is left of the sheet, from the stack as it stands, ends as the whole
-- does. Assumes nothing.
use mathlib.Core.Path.{◌≡◌, refl, sym, subst, ◌∙◌}
use Prim.Native.Nat.{ℕ, ◌+◌, ◌<◌}
use lib.ListN.{length, get_or, drop}
use native.Mathlib.Omega.{arith}
use Rattle.ink_list.specs.Lists.{Same}
use Rattle.ink_number.specs.Question.{answer}
use Rattle.ink_value.specs.Held.{slot_values}
use Rattle.pack.specs.Contents.{literal_count}
use Rattle.pack.specs.Instruction.{instr_of, push, push_void}
use Rattle.pack.specs.Read.{program}
use Rattle.pack.proofs.Programs.{dropped}
use Rattle.machine.specs.Stack.{stack_of}
use Rattle.stepping.specs.Slices.{step_in}
use Rattle.stepping.specs.Steps.{Steps}
use Rattle.running.specs.Work.{Longest}
use Rattle.running.proofs.Working.{slot_is, allowed_slot, begin, value_on, operands, operands_formed, roomy, advance, refused, one_left, not_one}
use Rattle.running.proofs.work.Goals.{After-run_step}
use Rattle.running.proofs.work.Goals as goal

-- what the step comes to, on the stack as it stands
stepped : (c : After-run_step) →
    let l = c.loop-instruction in
    let w = l.work in
    let f = value_on w.items.now w.values.now l.stack in
    Steps c.args.pack.format l.n
    (step_in c.args.pack (slot_values c.args.slots.now) (instr_of c.in-Some.instruction) (stack_of f l.n)) f (answer c.run_step.result)
    w.items.now c.run_step.new.work.items.now w.values.now c.run_step.new.work.values.now
    × Same w c.run_step.new.work
stepped c =
    let l = c.loop-instruction in
    let i = instr_of c.in-Some.instruction in
    let k = c.slot_place-k in
    let o = c.operands_on-operands in
    let s = c.run_step.ensures c.args.slots.now.values (slot_is i c.args.slots.now.values k.result (omega (arith, c.type_inv.slots)) k.ensures.1)
    (value_on l.work.items.now l.work.values.now l.stack) (operands l.invariant.working c.operand_count.result o.result o.ensures i c.operand_count.ensures) in
    (s.0 c.args.pack.format (sym c.args.pack.read.limit_is), s.1)

pub loop-instruction-init : goal.loop-instruction-init
loop-instruction-init c =
    record {
      working = begin _ _ _ _ _ _ _ _ refl c.requires.sheet_bound.1;
      same = (refl, refl);
      left = c.into_iter-instruction-iterator.ensures.into_iter_gives ∙ c.instructions_of-instruction-items.ensures.program;
      allowed = rw c.into_iter-instruction-iterator.ensures.into_iter_gives c.instructions_of-instruction-items.ensures.allowed;
    }

pub slot_place-k-requires : goal.slot_place-k-requires
slot_place-k-requires c =
    allowed_slot (literal_count c.args.pack.bytes.now) _ (rw c.in-Some.ensures.steps at c.loop-instruction.invariant.allowed).0

pub run_step-requires-clause-allowed : goal.run_step-requires-clause-allowed
run_step-requires-clause-allowed c =
    let v = c.loop-instruction.invariant in
    ((rw c.in-Some.ensures.steps at v.allowed).0, v.working.depth)

pub run_step-requires-clause-roomy : goal.run_step-requires-clause-roomy
run_step-requires-clause-roomy c =
    let g = c.loop-instruction.invariant.working in
    let o = c.operands_on-operands in (
      roomy g c.requires.roomy,
      operands_formed g c.operand_count.result o.result o.ensures c.args.pack.definitions.limit c.args.pack.read.limit_is _ c.operand_count.ensures,
    )

pub keep_longest-requires : goal.keep_longest-requires
keep_longest-requires c =
    let w = rw c.in-Ok.is at (stepped (goal.at.keep_longest-requires c).After-run_step).0.by in
    omega (arith, w.depth, c.loop-instruction.invariant.working.used_is)

pub offset_bounds-stack-top : goal.offset_bounds-stack-top
offset_bounds-stack-top c =
    let w = rw c.in-Ok.is at (stepped (goal.at.offset_bounds-stack-top c).After-run_step).0.by in
    omega (arith, w.depth)

pub bounds-stack-top : goal.bounds-stack-top
bounds-stack-top c =
    let w = rw c.in-Ok.is at (stepped (goal.at.bounds-stack-top c).After-run_step).0.by in
    w.depth

pub overflow_add-n : goal.overflow_add-n
overflow_add-n c =
    let w = rw c.in-Ok.is at (stepped (goal.at.overflow_add-n c).After-run_step).0.by in
    omega (arith, w.depth)

-- where instruction i stands in the sheet
taken : (c : After-run_step) →
    let l = c.loop-instruction in
    let s = program c.args.pack.bytes.now c.args.sheet in
    (l.i < length s) × (get_or s l.i (push push_void) ≡ instr_of c.in-Some.instruction) × (drop (l.i + 1) s ≡ c.next.new.self)
taken c =
    let l = c.loop-instruction in
    dropped (program c.args.pack.bytes.now c.args.sheet) c.next.new.self (instr_of c.in-Some.instruction) l.i (sym l.invariant.left ∙ c.in-Some.ensures.steps)

pub loop-instruction-preserved : goal.loop-instruction-preserved
loop-instruction-preserved c =
    let l = c.loop-instruction in
    let a = (goal.at.loop-instruction-preserved c).After-run_step in
    let s = stepped a in
    let t = taken a in
    let w = rw c.in-Ok.is at s.0.by in
    let k = subst (λ (x : ℕ). Longest l.used c.keep_longest.new.used c.in-Ok.top.place x) c.len_of.ensures c.keep_longest.ensures in
    record {
      working = advance l.invariant.working (instr_of c.in-Some.instruction) t.0 t.1 _ _ _ _ _ c.requires.roomy w k;
      same = (s.1.0 ∙ l.invariant.same.0, s.1.1 ∙ l.invariant.same.1);
      left = sym t.2;
      allowed = (rw c.in-Some.ensures.steps at l.invariant.allowed).1;
    }

pub returns-in-Err : goal.returns-in-Err
returns-in-Err c =
    let l = c.loop-instruction in
    let g = l.invariant.working in
    let a = (goal.at.returns-in-Err c).After-run_step in
    let s = stepped a in
    let t = taken a in
    let w = rw c.in-Err.is at s.0.by in (
      record {
        end_is = refused g (instr_of c.in-Some.instruction) t.0 t.1 _ w.refused;
        end_formed = tt;
        items_touched = rw w.items_same g.items_touched;
        values_touched = rw w.values_same g.values_touched;
        few = g.few;
      },
      (s.1.0 ∙ l.invariant.same.0, s.1.1 ∙ l.invariant.same.1),
    )

pub returns-then-n-eq1 : goal.returns-then-n-eq1
returns-then-n-eq1 c =
    let g = c.loop-instruction.invariant.working in (
      record {
        end_is = one_left g (sym c.loop-instruction.invariant.left ∙ c.in-None.ensures.steps.0) c.if-n-eq1.true;
        end_formed = g.formed 0 (omega (arith, c.if-n-eq1.true));
        items_touched = g.items_touched;
        values_touched = g.values_touched;
        few = g.few;
      },
      c.loop-instruction.invariant.same,
    )

pub returns : goal.returns
returns c =
    let g = c.loop-instruction.invariant.working in (
      record {
        end_is = not_one g (sym c.loop-instruction.invariant.left ∙ c.in-None.ensures.steps.0) c.if-n-eq1.false;
        end_formed = tt;
        items_touched = g.items_touched;
        values_touched = g.values_touched;
        few = g.few;
      },
      c.loop-instruction.invariant.same,
    )
