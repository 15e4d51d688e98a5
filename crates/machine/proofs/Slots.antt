-- A sheet that pushes one slot, or two, under one operator: it ends as the operator answers, on values and on kinds. And in every format
-- there is a pack of one sheet. Assumes nothing.
use mathlib.Core.Path.{◌≡◌, refl}
use mathlib.Core.Bool.{Bool, true}
use mathlib.Core.List.{List, [], ◌∷◌}
use mathlib.Core.Option.{some}
use Prim.Native.Nat.{ℕ, ◌≤◌}
use native.Mathlib.Omega.{arith}
use lib.ListN.{length, get_or}
use Rattle.ink_number.specs.Answer.{Answer, gives, refuses}
use Rattle.ink_value.specs.Val.{Val, void}
use Rattle.ink_value.specs.declared.Kind.{Kind}
use Rattle.ink_value.specs.declared.Kind.TheVariants as K
use Rattle.operator_kinds.specs.Kinds.{known, arity, kind_apply}
use Rattle.native_function_call.specs.Apply.{apply_op}
use Rattle.pack.specs.Bodies.{Pack, sheet}
use Rattle.pack.specs.Read.{definitions_of, literal_of, sheet_of}
use Rattle.pack.specs.declared.format.Format.{Format}
use Rattle.pack.specs.Instruction.{Push, push_slot, Instr, op, push}
use Rattle.pack.proofs.OneSheet.{one_sheet, pack_of, one_passes}
use Rattle.machine.specs.Machine.{End, ended, stopped, step, run_from, value_pushed, kind_pushed, vet}
use Rattle.machine.specs.Whole.{opened, sheet_run}
use Rattle.machine.proofs.Whole.{opened_all}

-- slot j under an operator, and slots j and k
abbrev pub of_slot : ℕ → ℕ → List Instr
of_slot j o = push (push_slot j) ∷ op o ∷ []

abbrev pub of_slots : ℕ → ℕ → ℕ → List Instr
of_slots j k o = push (push_slot j) ∷ push (push_slot k) ∷ op o ∷ []

-- the end that an answer at the last instruction makes, where nothing else is stacked
abbrev pub end_at : {X : Type 0} → ℕ → Answer X → End X
end_at i (gives x) = ended x
end_at i (refuses r) = stopped r i

module _ {X : Type 0} (value : Push → X) (apply : ℕ → List X → Answer X) (o : ℕ) (is_Known : known o ≡ true) where
  one_operand : (p : Push) → arity o ≡ 1 → (run_from value apply 0 (push p ∷ op o ∷ []) []).end ≡ end_at 1 (apply o (value p ∷ []))
  unfolding run_from step
  one_operand p one = go (apply o (value p ∷ [])) refl
    where
      go : (a : Answer X) → apply o (value p ∷ []) ≡ a → (run_from value apply 0 (push p ∷ op o ∷ []) []).end ≡ end_at 1 a
      go (gives x) e = rw (is_Known, one, e)
      go (refuses r) e = rw (is_Known, one, e)

  two_operands : (p q : Push) → arity o ≡ 2
      → (run_from value apply 0 (push p ∷ push q ∷ op o ∷ []) []).end ≡ end_at 2 (apply o (value p ∷ value q ∷ []))
  unfolding run_from step
  two_operands p q two = go (apply o (value p ∷ value q ∷ [])) refl
    where
      go : (a : Answer X) → apply o (value p ∷ value q ∷ []) ≡ a → (run_from value apply 0 (push p ∷ push q ∷ op o ∷ []) []).end ≡ end_at 2 a
      go (gives x) e = rw (is_Known, two, e)
      go (refuses r) e = rw (is_Known, two, e)

module _ (o : ℕ) (is_Known : known o ≡ true) where
  -- what vetting says of it
  pub slot_vetted : arity o ≡ 1 → (j : ℕ) (kinds : List Kind) → (vet (of_slot j o) kinds).end ≡ end_at 1 (kind_apply o (get_or kinds j K.Void ∷ []))
  slot_vetted one j kinds = one_operand (kind_pushed kinds) kind_apply o is_Known (push_slot j) one

  pub slots_vetted : arity o ≡ 2 → (j k : ℕ) (kinds : List Kind)
      → (vet (of_slots j k o) kinds).end ≡ end_at 2 (kind_apply o (get_or kinds j K.Void ∷ get_or kinds k K.Void ∷ []))
  slots_vetted two j k kinds = two_operands (kind_pushed kinds) kind_apply o is_Known (push_slot j) (push_slot k) two

  -- a call for a run, of any pack that is opened
  module _ (F : Format) (p : List ℕ) (s : ℕ) (memory : Pack → Bool) (slots : List Val) (d : Pack) (opens : opened F p s memory ≡ gives d) where
    pub slot_run : arity o ≡ 1 → (j : ℕ) → sheet_of d s ≡ of_slot j o
        → (sheet_run F p s memory slots).end ≡ end_at 1 (apply_op (definitions_of d F) o (get_or slots j void ∷ []))
    slot_run one j e = rw (opens, e) (one_operand (value_pushed (literal_of d) slots) (apply_op (definitions_of d F)) o is_Known (push_slot j) one)

    pub slots_run : arity o ≡ 2 → (j k : ℕ) → sheet_of d s ≡ of_slots j k o
        → (sheet_run F p s memory slots).end ≡ end_at 2 (apply_op (definitions_of d F) o (get_or slots j void ∷ get_or slots k void ∷ []))
    slots_run two j k e =
        rw (opens, e) (two_operands (value_pushed (literal_of d) slots) (apply_op (definitions_of d F)) o is_Known (push_slot j) (push_slot k) two)

-- a pack of one sheet alone is opened, in every format, by a call to which its memory suffices
pub one_opens : (F : Format) (code : List ℕ) (program : List Instr) (memory : Pack → Bool) → length code ≤ 255
    → sheet (one_sheet F code) 0 ≡ some program → memory (pack_of program) ≡ true → opened F (one_sheet F code) 0 memory ≡ gives (pack_of program)
one_opens F code program memory few e enough =
    opened_all F (one_sheet F code) 0 memory (pack_of program) (one_passes F code program few e) (omega arith) enough
