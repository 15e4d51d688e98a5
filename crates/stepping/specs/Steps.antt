-- The words of the contracts: one step on a stack that is held in an array. Assumes nothing.
-- For inner steps alone: no entry point's contract cites it.
use Rattle.std.specs.Prelude.{◌≡◌, false, List, ◌∷◌, ℕ, ◌+◌, ◌-◌, ◌≤◌, ◌<◌, ltb, ℤ, length, get_or}
use Rattle.ink_number.specs.Answer.{Answer, gives, ask, refuses}
use Rattle.ink_value.specs.Val.{Val}
use Rattle.ink_value.specs.Value.{val_of}
use Rattle.ink_value.specs.declared.Value.{Value}
use Rattle.ink_value.specs.declared.Value.TheVariants as Is
use Rattle.pack.specs.Instruction.{Instr, op, push, push_bool, push_int, push_float, push_list, push_slot, push_void}
use Rattle.pack.specs.declared.format.Format.{Format}
use Rattle.machine.specs.Machine.{stack_limit}
use Rattle.machine.specs.Stack.{stack_of}
use Rattle.operating.specs.Stacked.{start_at, Put, Refuses}
use Rattle.machine.specs.declared.Top.{Top}

-- ---- one step

-- a push on a stack of n: question 9
abbrev pub pushed : ℕ → Val → Answer Val
pushed n x = ask 9 (ltb n stack_limit) (gives x)

-- a value on top of the p lowest of a stack of n whose values, from below, are those of f
pub record Grown (F : Format) (n : ℕ) (a : Answer (List Val)) (f : ℕ → Val) (p : ℕ) (v : Value) (wi wi' : List ℕ) (wv wv' : List ℤ)
    : Type 0 where
  pub value : Val
  pub given : a ≡ gives (value ∷ stack_of f p)
  pub within : p ≤ n
  pub depth : p < stack_limit
  pub put : Put F value (start_at F p) v wi wi' wv wv'

abbrev pub StepCase : Format → ℕ → Answer (List Val) → (ℕ → Val) → Answer (Top Value) → List ℕ → List ℕ → List ℤ → List ℤ → Type 0
StepCase F n a f (gives t) wi wi' wv wv' = Grown F n a f t.place t.value wi wi' wv wv'
StepCase F n a f (refuses q) wi wi' wv wv' = Refuses a q wi wi' wv wv'

-- the stack that an instruction gives: a value is put on top of what is left of it, or it is a no
pub record Steps (F : Format) (n : ℕ) (a : Answer (List Val)) (f : ℕ → Val) (r : Answer (Top Value)) (wi wi' : List ℕ) (wv wv' : List ℤ) : Type 0 where
  pub by : StepCase F n a f r wi wi' wv wv'

-- ---- an operator

-- an operator's operands, in order: the `count` topmost of a stack of n, where there are as many
pub record TopOperands (wi : List ℕ) (wv : List ℤ) (a b c : Value) (n count : ℕ) (f : ℕ → Val) : Type 0 where
  pub one : 1 ≤ count → count ≤ n → f (n - count) ≡ val_of wi wv a
  pub two : 2 ≤ count → count ≤ n → f (n - count + 1) ≡ val_of wi wv b
  pub three : 3 ≤ count → count ≤ n → f (n - count + 2) ≡ val_of wi wv c

-- of an operator alone, by its number
abbrev pub IfOp : Instr → (ℕ → Type 0) → Type 0
IfOp (op o) P = P o
IfOp (push p) P = Unit {0}

-- of a slot's push alone
abbrev pub IfSlot : Instr → (ℕ → Type 0) → Type 0
IfSlot (op o) P = Unit {0}
IfSlot (push (push_bool b)) P = Unit {0}
IfSlot (push (push_int z)) P = Unit {0}
IfSlot (push (push_float b)) P = Unit {0}
IfSlot (push (push_list l)) P = Unit {0}
IfSlot (push (push_slot s)) P = P s
IfSlot (push push_void) P = Unit {0}

-- the value of the slot that an instruction pushes
abbrev pub SlotIs : List Value → Value → Instr → Type 0
SlotIs slots v i = IfSlot i (λ s. (s < length slots) × (v ≡ get_or slots s (Is.Bool false)))
