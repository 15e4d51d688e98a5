-- "A run, written out": one machine, worked on values by a run and on kinds by vetting. Assumes nothing.
use Rattle.std.specs.Prelude.{List, [], ◌∷◌, ℕ, zero, suc, ◌+◌, ltb, length, get_or}
use Rattle.std.proofs.Math.Option.{Option, none, some}
use Rattle.ink_number.specs.Answer.{Answer, gives, refuses, ask}
use Rattle.binary32.specs.Real.{of_bits32}
use Rattle.ink_value.specs.Val.{Val, bool, int, float, list, void}
use Rattle.ink_value.specs.declared.Kind.{Kind}
use Rattle.ink_value.specs.declared.Kind.TheVariants as K
use Rattle.operator_kinds.specs.Kinds.{known, arity, kind_apply}
use Rattle.list_definitions.specs.Defs.{ListDefinitions}
use Rattle.native_function_call.specs.Apply.{apply_op}
use Rattle.pack.specs.Bodies.{Literal}
use Rattle.pack.specs.Instruction.{Push, push_bool, push_int, push_float, push_list, push_slot, push_void, Instr, op, push}

-- how a run ends: with the one value left, or with a question's number at an instruction's index
pub data End (X : Type 0) : Type 0 where
  ended : X → End X
  stopped : ℕ → ℕ → End X

-- a run: the stack after each instruction that was completed, and the end
pub record Run (X : Type 0) : Type 0 where
  pub stacks : List (List X)
  pub end : End X

-- question 9: "For a push: are fewer than 64 values stacked?"
abbrev pub stack_limit : ℕ
stack_limit = 64

module _ {X : Type 0} where
  -- the n topmost of a stack, "the last pushed being the rightmost", and the stack below them
  abbrev pub popped : ℕ → List X → List X → Option (List X × List X)
  popped zero xs st = some (xs, st)
  popped (suc n) xs [] = none
  popped (suc n) xs (x ∷ st) = popped n (x ∷ xs) st

  -- the result on top of the stack below
  abbrev pub topped : List X → Answer X → Answer (List X)
  topped st (gives x) = gives (x ∷ st)
  topped st (refuses r) = refuses r

  -- question 10: "Are there enough operands?"; then what the operator f answers
  abbrev pub worked : (List X → Answer X) → Option (List X × List X) → Answer (List X)
  worked f none = refuses 10
  worked f (some p) = topped p.1 (f p.0)

  -- question 17: "Does exactly one value remain? (Index: the instruction count.)"
  abbrev pub finish : ℕ → List X → End X
  finish i [] = stopped 17 i
  finish i (x ∷ []) = ended x
  finish i (x ∷ y ∷ st) = stopped 17 i

  -- "the first no ends the run with that number at that index. Otherwise the instruction is completed."
  abbrev pub onward : ℕ → Answer (List X) → (List X → Run X) → Run X
  onward i (gives st) k = record { stacks = st ∷ (k st).stacks; end = (k st).end }
  onward i (refuses r) k = record { stacks = []; end = stopped r i }

module _ {X : Type 0} where
  -- an operator: question 8, then 10 to 13 and 15. "An operator takes off its one, two or three operands .. and puts on top its result"
  abbrev pub step_op : (ℕ → List X → Answer X) → ℕ → List X → Answer (List X)
  step_op apply o st = ask 8 (known o) (worked (apply o) (popped (arity o) [] st))

  -- "A push puts its value on top"
  abbrev pub step_push : X → List X → Answer (List X)
  step_push x st = ask 9 (ltb (length st) stack_limit) (gives (x ∷ st))

-- `value` is what a push puts on the stack, and `apply` an operator's answer
module _ {X : Type 0} (value : Push → X) (apply : ℕ → List X → Answer X) where
  -- questions 8 to 13 and 15 of one instruction, on the stack as it stands (its top first)
  unfoldable pub step : Instr → List X → Answer (List X)
  step (op o) st = step_op apply o st
  step (push p) st = step_push (value p) st

  -- "Instructions are worked in order": those from index i on, from a stack
  unfoldable pub run_from : ℕ → List Instr → List X → Run X
  run_from i [] st = record { stacks = []; end = finish i st }
  run_from i (x ∷ xs) st = onward i (step x st) (run_from (i + 1) xs)

-- "List the literal's entries and origin set, slot that slot's value"
abbrev pub value_pushed : (ℕ → Literal) → List Val → Push → Val
value_pushed literals slots (push_bool b) = bool b
value_pushed literals slots (push_int z) = int z
value_pushed literals slots (push_float n) = float (of_bits32 n)
value_pushed literals slots (push_list l) = list (literals l).origins (literals l).entries
value_pushed literals slots (push_slot s) = get_or slots s void
value_pushed literals slots push_void = void

-- "a stack of kinds alone, a slot's being its code"
abbrev pub kind_pushed : List Kind → Push → Kind
kind_pushed kinds (push_bool b) = K.Bool
kind_pushed kinds (push_int z) = K.Int
kind_pushed kinds (push_float n) = K.Float
kind_pushed kinds (push_list l) = K.List
kind_pushed kinds (push_slot s) = get_or kinds s K.Void
kind_pushed kinds push_void = K.Void

-- a program's run: "Its state is a stack of values, empty at the start."
abbrev pub run : ListDefinitions → List Instr → (ℕ → Literal) → List Val → Run Val
run u program literals slots = run_from (value_pushed literals slots) (apply_op u) 0 program []

-- "Vetting works the same instructions in order on a stack of kinds alone .. as though 15 .. always said yes"
abbrev pub vet : List Instr → List Kind → Run Kind
vet program kinds = run_from (kind_pushed kinds) kind_apply 0 program []
