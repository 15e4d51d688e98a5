-- Instructions: what each is, its bytes, and the instructions of a sheet.
use Rattle.std.specs.Prelude.{ℕ, zero, suc, ◌+◌, ◌<◌, true, false, cond, [], ◌∷◌, leb, ltb, eqb, ℤ, Some, None}
use Rattle.std.specs.Prelude
use mathlib.Core
use Rattle.std.proofs.Math.Option.{Option, some, none}
use Rattle.pack.specs.Bytes.{byte, u32, i32}
use Rattle.pack.specs.Format.{slot_limit}
use Rattle.op.specs.Op.{op_number}
use Rattle.pack.specs.declared.instruction.Instruction.{Instruction}
use Rattle.pack.specs.declared.instruction.Instruction.TheVariants.{Op, Bool, Int, Float, List, Slot, Void}

-- what a push puts on the stack: a Float by its 32 bits, a List by its literal's number, a slot by its number
pub data Push : Type 0 where
  push_bool : Core.Bool.Bool → Push
  push_int : ℤ → Push
  push_float : ℕ → Push
  push_list : ℕ → Push
  push_slot : ℕ → Push
  push_void : Push

-- an operator by its byte, or a push
pub data Instr : Type 0 where
  op : ℕ → Instr
  push : Push → Instr

-- the instruction that a case of the code's enum is
abbrev pub instr_of : Instruction → Instr
instr_of (Op o) = op (op_number o)
instr_of (Bool b) = push (push_bool b)
instr_of (Int z) = push (push_int z)
instr_of (Float n) = push (push_float n)
instr_of (List l) = push (push_list l)
instr_of (Slot s) = push (push_slot s)
instr_of Void = push push_void

-- how many bytes an instruction takes, the first being its code
abbrev pub width : Instr → ℕ
width (op n) = 1
width (push (push_bool b)) = 2
width (push (push_int z)) = 5
width (push (push_float n)) = 5
width (push (push_list l)) = 2
width (push (push_slot s)) = 2
width (push push_void) = 1

abbrev pub given : Core.Bool.Bool → Push → Option Instr
given true v = some (push v)
given false v = none

-- "Bytes 0 to 30 are the cases of `Op` in source order; 31 range; 32 Bool and a byte 0 or 1; 33 Int and i32; 34 Float and its four bytes;
-- 35 List and a literal number; 36 slot and a number 0 to 15; 37 Void; no others": the instruction at a position of a pack of L literals
unfoldable pub instruction : ℕ → Core.List.List ℕ → ℕ → Option Instr
instruction L p at =
    cond (ltb (byte p at) 32) (some (op (byte p at)))
    (cond (eqb (byte p at) 32) (given (ltb (byte p (at + 1)) 2) (push_bool (eqb (byte p (at + 1)) 1)))
    (cond (eqb (byte p at) 33) (some (push (push_int (i32 p (at + 1)))))
    (cond (eqb (byte p at) 34) (some (push (push_float (u32 p (at + 1)))))
    (cond (eqb (byte p at) 35) (given (ltb (byte p (at + 1)) L) (push_list (byte p (at + 1))))
    (cond (eqb (byte p at) 36) (given (ltb (byte p (at + 1)) slot_limit) (push_slot (byte p (at + 1))))
    (cond (eqb (byte p at) 37) (some (push push_void))
    none))))))

abbrev pub is_some : {A : Type 0} → Option A → Core.Bool.Bool
is_some none = false
is_some (some a) = true

abbrev pub or_none : {A : Type 0} → Option (Core.List.List A) → Core.List.List A
or_none none = []
or_none (some l) = l

abbrev pub before : Option (Core.List.List Instr) → Instr → Option (Core.List.List Instr)
before none i = none
before (some l) i = some (i ∷ l)

-- the instruction at a position, and then the rest, if it ends in time
abbrev pub onward : ℕ → ℕ → (ℕ → Option (Core.List.List Instr)) → Option Instr → Option (Core.List.List Instr)
onward at end rest none = none
onward at end rest (some i) = cond (leb (at + width i) end) (before (rest (at + width i)) i) none

-- the instructions from a position to the end, if they are well formed and at most n
unfoldable pub instructions : ℕ → Core.List.List ℕ → ℕ → ℕ → ℕ → Option (Core.List.List Instr)
instructions L p zero at end = cond (eqb at end) (some []) none
instructions L p (suc n) at end =
    cond (eqb at end) (some []) (onward at end (λ a. instructions L p n a end) (instruction L p at))

-- the bytes of the instruction at a position, None where there is none or it does not end in time
abbrev pub taken : ℕ → ℕ → Option Instr → Prelude.Option ℕ
taken at end none = None
taken at end (some i) = cond (leb (at + width i) end) (Some (width i)) None

-- what the operand of an instruction of a pack of L literals is limited to
abbrev pub Allowed : ℕ → Instr → Type 0
Allowed L (op n) = n < 32
Allowed L (push (push_bool b)) = Unit {0}
Allowed L (push (push_int z)) = Unit {0}
Allowed L (push (push_float n)) = Unit {0}
Allowed L (push (push_list l)) = l < L
Allowed L (push (push_slot s)) = s < slot_limit
Allowed L (push push_void) = Unit {0}

-- of each instruction
abbrev pub EachAllowed : ℕ → Core.List.List Instr → Type 0
EachAllowed L [] = Unit {0}
EachAllowed L (i ∷ l) = Allowed L i × EachAllowed L l
