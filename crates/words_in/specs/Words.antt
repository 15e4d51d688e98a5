-- Three words read as a value: the code of its kind, what it holds, and where a List's entries stand. Assumes nothing.
use Rattle.std.specs.Prelude.{cond, List, Option, Some, None, ℕ, ◌≡◌, ◌≤◌, ◌+◌, ◌*◌, ◌-◌, ◌/◌, ◌%◌, ◌^◌, eqb, ltb, get_or}
use Rattle.ink_number.specs.Int.{signed}
use Rattle.binary32.specs.Real.{of_bits32}
use Rattle.slices.specs.Every.{table}
use Rattle.ink_value.specs.Val.{code_of}
use Rattle.ink_value.specs.declared.Kind.{Kind}
use Rattle.ink_value.specs.declared.Kind.TheVariants as K
use Rattle.ink_value.specs.declared.Value.{Value}
use Rattle.ink_value.specs.declared.Value.TheVariants as Is
use Rattle.ink_value.specs.declared.operands.Operands.{Operands}

-- what words that are no value's read as: a List that no slices hold, so that question 7 says no
abbrev pub unheld : Value
unheld = Is.List 0 (2 ^ 64 - 1) 1

-- the kind whose code a word is; none has those from 5 on
abbrev pub Coded : ℕ → Option Kind → Type 0
Coded w (Some k) = w ≡ code_of k
Coded w None = 5 ≤ w

-- Bool: 0 or 1
unfoldable pub bool_at : ℕ → Value
bool_at w = cond (ltb w 2) (Is.Bool (eqb w 1)) unheld

-- Int: the 32 bits of its two's complement
unfoldable pub int_at : ℕ → Value
int_at w = cond (ltb w (2 ^ 32)) (Is.Int (signed w)) unheld

-- Float: the 32 bits of its binary32
unfoldable pub float_at : ℕ → Value
float_at w = cond (ltb w (2 ^ 32)) (Is.Float (of_bits32 w)) unheld

-- Void: 0
unfoldable pub void_at : ℕ → Value
void_at w = cond (eqb w 0) Is.Void unheld

-- a value that is no List, by the code of its kind
unfoldable pub plain_at : ℕ → ℕ → Value
plain_at kind w =
    cond (eqb kind (code_of K.Bool)) (bool_at w)
    (cond (eqb kind (code_of K.Int)) (int_at w)
    (cond (eqb kind (code_of K.Float)) (float_at w)
    (cond (eqb kind (code_of K.Void)) (void_at w) unheld)))

-- three words: a List has its origin set, and where its entries start + 2^32 * how many there are; of the others the third word is 0
unfoldable pub value_of : ℕ → ℕ → ℕ → Value
value_of kind w place =
    cond (eqb kind (code_of K.List)) (Is.List w (place % 2 ^ 32) (place / 2 ^ 32))
    (cond (eqb place 0) (plain_at kind w) unheld)

-- the value whose words are the three from 3 * k on
abbrev pub value_at : List ℕ → ℕ → Value
value_at ws k = value_of (get_or ws (3 * k) 0) (get_or ws (3 * k + 1) 0) (get_or ws (3 * k + 2) 0)

-- the operands in nine words, of which the first n are used
abbrev pub operands_at : ℕ → List ℕ → Operands
operands_at n ws = record { count = n; first = value_at ws 0; second = value_at ws 1; third = value_at ws 2 }

-- "A run gets 16 slot values"
abbrev pub slots_in : List ℕ → List Value
slots_in ws = table 16 (value_at ws)
