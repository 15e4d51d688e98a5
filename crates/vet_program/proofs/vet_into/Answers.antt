-- `vet_program::vet_into` meets its contract. The invariant (proofs/Going.antt): what is left of vetting from the stack as it stands is the end of
-- vetting the sheet, and the bytes written are the forecast of the instructions passed. Assumes nothing.
use mathlib.Core.Path.{◌≡◌, sym, ap, ◌∙◌}
use mathlib.Core.List.{◌∷◌}
use native.Mathlib.Omega.{arith}
use Prim.Native.Nat.{◌<◌}
use lib.ListN.{get_or}
use Rattle.ink_number.specs.Answer.{gives, refuses}
use Rattle.ink_number.specs.Question.{number}
use Rattle.operator_kinds.specs.Kinds.{kind_apply}
use Rattle.pack.specs.Contents.{literal_count}
use Rattle.pack.specs.Instruction.{Instr, instr_of, push, push_void}
use Rattle.pack.specs.Format.{instruction_limit}
use Rattle.pack.specs.Read.{program}
use Rattle.pack.proofs.Programs.{dropped}
use Rattle.machine.specs.Machine.{step, kind_pushed}
use Rattle.machine.specs.Stack.{stack_of}
use Rattle.vet_steps.specs.Step.{kind_on}
use Rattle.vet_program.proofs.Going.{advance, refused}
use Rattle.vet_program.proofs.vet_into.Goals as goal

pub vet_step-step-requires : goal.vet_step-step-requires
vet_step-step-requires c =
    let i = c.loop-instruction.invariant in
    ((literal_count c.args.pack.now, (rw c.in-Some.ensures.steps at i.2).0), i.0.depth)

pub loop-instruction-preserved : goal.loop-instruction-preserved
loop-instruction-preserved c =
    let s = program c.args.pack.now c.args.sheet in
    let l = c.loop-instruction in
    let d = dropped s c.next.new.self (instr_of c.in-Some.instruction) l.i (sym l.invariant.1 ∙ c.in-Some.ensures.steps) in
    let w = rw c.in-Ok.is at c.vet_step-step.ensures in
    let e : gives (c.in-Ok.top.value ∷ stack_of (kind_on l.stack) c.in-Ok.top.place) ≡ step (kind_pushed c.args.kinds) kind_apply (get_or s l.i (push push_void)) (stack_of (kind_on l.stack) l.n) =
    w.0 ∙ ap (λ (x : Instr). step (kind_pushed c.args.kinds) kind_apply x (stack_of (kind_on l.stack) l.n)) (sym d.1) in
    let few : l.i < instruction_limit = omega (arith, d.0, rw c.instructions_of-instruction-items.ensures.program at c.instructions_of-instruction-items.ensures.few) in (
      rw c.from.ensures (advance s c.args.kinds l.out l.stack l.n l.i c.in-Ok.top.place c.in-Ok.top.value l.invariant.0 d.0 few w.1.0 e),
      sym d.2,
      (rw c.in-Some.ensures.steps at l.invariant.2).1,
    )

pub returns-in-Err : goal.returns-in-Err
returns-in-Err c =
    let s = program c.args.pack.now c.args.sheet in
    let l = c.loop-instruction in
    let d = dropped s c.next.new.self (instr_of c.in-Some.instruction) l.i (sym l.invariant.1 ∙ c.in-Some.ensures.steps) in
    let e : refuses (number c.in-Err.question) ≡ step (kind_pushed c.args.kinds) kind_apply (get_or s l.i (push push_void)) (stack_of (kind_on l.stack) l.n) =
    rw c.in-Err.is at c.vet_step-step.ensures.0 ∙ ap (λ (x : Instr). step (kind_pushed c.args.kinds) kind_apply x (stack_of (kind_on l.stack) l.n)) (sym d.1) in
    (refused s c.args.kinds l.out l.stack l.n l.i l.invariant.0 (number c.in-Err.question) d.0 e, tt, l.invariant.0.out_is)
