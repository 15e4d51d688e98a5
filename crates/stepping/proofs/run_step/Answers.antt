-- `stepping::run_step` meets its contract: each kind of instruction is its case of the definition. Assumes nothing.
use mathlib.Core.Path.{refl, ap, subst, ◌∙◌}
use mathlib.Core.List.{[]}
use Rattle.std.proofs.Common.{rules}
use Rattle.ink_number.proofs.Signed.{back32}
use Rattle.ink_value.specs.Val.{bool, int, float, void}
use Rattle.ink_value.specs.Value.{val_of}
use Rattle.operator_kinds.specs.Kinds.{operand_count}
use Rattle.pack.specs.Instruction.{push_bool, push_int, push_float, push_list, push_slot, push_void, instr_of}
use Rattle.pack.specs.declared.instruction.Instruction.{Instruction}
use Rattle.stepping.specs.Slices.{OnTop}
use Rattle.stepping.specs.Steps.{IfOp, SlotIs}
use Rattle.stepping.proofs.Stepping.{push_steps, op_steps, slot_value}
use Rattle.stepping.proofs.run_step.Goals as goal

pub returns-in-Op : goal.returns-in-Op
returns-in-Op c =
    let a = c.args in
    λ slots q f t.
    let top = subst (λ (x : Instruction). IfOp (instr_of x) (λ o. OnTop a.work.now a.operands a.n (operand_count o) f)) c.in-Op.is t in
    let s = c.run_op.ensures f top in
    (λ F e. op_steps _ _ a.n f _ _ _ _ _ (instr_of a.i) _ (ap instr_of c.in-Op.is) (s.0 F e), s.1)

pub returns-in-Bool : goal.returns-in-Bool
returns-in-Bool c =
    let w = c.args.work.now in
    λ slots q f t. (
      λ F e. push_steps _ _ c.args.n f _ _ _ _ _ (instr_of c.args.i) (push_bool c.in-Bool.b) (ap instr_of c.in-Bool.is) (bool c.in-Bool.b) refl (c.push_value.ensures [] [] F w.items.now w.values.now),
      (refl, refl),
    )

pub returns-in-Int : goal.returns-in-Int
returns-in-Int c =
    let w = c.args.work.now in
    λ slots q f t. (
      λ F e. push_steps _ _ c.args.n f _ _ _ _ _ (instr_of c.args.i) (push_int c.in-Int.z) (ap instr_of c.in-Int.is) _ (ap int (back32 c.in-Int.z (search rules))) (c.push_value-in-Int.ensures [] [] F w.items.now w.values.now),
      (refl, refl),
    )

pub returns-in-Float : goal.returns-in-Float
returns-in-Float c =
    let w = c.args.work.now in
    λ slots q f t. (
      λ F e. push_steps _ _ c.args.n f _ _ _ _ _ (instr_of c.args.i) (push_float c.in-Float.b) (ap instr_of c.in-Float.is) _ (ap float c.float_from_bits.ensures.value) (c.push_value-in-Float.ensures [] [] F w.items.now w.values.now),
      (refl, refl),
    )

pub returns-in-List : goal.returns-in-List
returns-in-List c =
    λ slots q f t. (
      λ F e. push_steps _ _ c.args.n f _ _ _ _ _ (instr_of c.args.i) (push_list c.in-List.l) (ap instr_of c.in-List.is) _ refl (c.push_literal.ensures.0 F e),
      c.push_literal.ensures.1,
    )

pub returns-in-Slot : goal.returns-in-Slot
returns-in-Slot c =
    let k = c.in-Slot.field-0 in
    let is = c.args.slot_lists.items.now in
    let vs = c.args.slot_lists.values.now in
    λ slots q f t.
    let at = subst (λ (x : Instruction). SlotIs slots c.args.slot (instr_of x)) c.in-Slot.is q in (
      λ F e.
          push_steps _ _ c.args.n f _ _ _ _ _ (instr_of c.args.i) (push_slot k) (ap instr_of c.in-Slot.is) _
          (ap (val_of is vs) at.1 ∙ slot_value is vs slots k at.0) (c.push_slot.ensures.0 F e),
      c.push_slot.ensures.1,
    )

pub returns-in-Void : goal.returns-in-Void
returns-in-Void c =
    let w = c.args.work.now in
    λ slots q f t. (
      λ F e. push_steps _ _ c.args.n f _ _ _ _ _ (instr_of c.args.i) push_void (ap instr_of c.in-Void.is) void refl (c.push_value-in-Void.ensures [] [] F w.items.now w.values.now),
      (refl, refl),
    )
