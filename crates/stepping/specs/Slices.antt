-- The words of the contracts of one instruction: its operands, which stand in the work slices, what of the pack it goes by, and what it
-- leaves in the work slices. Assumes nothing.
-- For inner steps alone: no entry point's contract cites it.
use Rattle.std.specs.Prelude.{◌≡◌, List, ℕ, ◌≤◌, Result}
use Rattle.ink_number.specs.Answer.{Answer}
use Rattle.ink_number.specs.Question.{answer}
use Rattle.ink_number.specs.declared.question.Question.{Question}
use Rattle.ink_list.specs.Lists.{Same}
use Rattle.ink_list.specs.declared.entries_mut.EntriesMut.{EntriesMut}
use Rattle.ink_value.specs.Val.{Val, list}
use Rattle.ink_value.specs.declared.Value.{Value}
use Rattle.ink_value.specs.declared.operands.Operands.{Operands}
use Rattle.list_operators.specs.Lists.{definitions_of}
use Rattle.native_function_call.specs.Apply.{apply_op}
use Rattle.pack.specs.Bodies.{decoded}
use Rattle.pack.specs.Instruction.{Instr}
use Rattle.pack.specs.Read.{literal_of}
use Rattle.ink_value.specs.Value.{FirstFormed}
use Rattle.pack.specs.declared.format.Format.{Format}
use Rattle.pack.specs.declared.passed.PassedPack.{PassedPack}
use Rattle.machine.specs.Machine.{step, value_pushed}
use Rattle.machine.specs.declared.Top.{Top}
use Rattle.stepping.specs.Steps.{Steps, TopOperands}

-- `count` operands are the topmost of a stack of n whose values, from below, are those of f
abbrev pub OnTop : EntriesMut → Operands → ℕ → ℕ → (ℕ → Val) → Type 0
OnTop work o n count f = TopOperands work.items.now work.values.now o.first o.second o.third n count f

-- they are well formed, where the stack has as many
abbrev pub TopFormed : ℕ → EntriesMut → Operands → ℕ → ℕ → Type 0
TopFormed limit work o n count = count ≤ n → FirstFormed limit work.items.now work.values.now count o.first o.second o.third

-- the stack that a step gives, in every format of this item limit: its top is put in its place, its entries in the work slices; or a no, and
-- nothing is written
abbrev pub StepsIn : ℕ → ℕ → Answer (List Val) → (ℕ → Val) → Result (Top Value) Question → EntriesMut → EntriesMut → Type 0
StepsIn limit n a f r before after =
    ((F : Format) → F.limit ≡ limit
    → Steps F n a f (answer r) before.items.now after.items.now before.values.now after.values.now)
    × Same before after

-- a literal of the pack
abbrev pub literal_in : PassedPack → ℕ → Val
literal_in pack l =
    list (literal_of (decoded pack.format pack.bytes.now) l).origins (literal_of (decoded pack.format pack.bytes.now) l).entries

-- questions 8 to 13 and 15 of an instruction of the pack, with these slots, on a stack
abbrev pub step_in : PassedPack → List Val → Instr → List Val → Answer (List Val)
step_in pack slots =
    step (value_pushed (literal_of (decoded pack.format pack.bytes.now)) slots) (apply_op (definitions_of pack.definitions))
