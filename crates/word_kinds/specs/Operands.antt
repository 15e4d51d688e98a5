-- The kinds of operands in words. Assumes nothing.
use Rattle.std.specs.Prelude.{◌≡◌, Bool, true, false, cond, ◌&&◌, List, [], ◌∷◌, map, Option, Some, None, ℕ, ◌*◌, ◌<◌, ◌≤◌, eqb, ltb, ℤ, take, get_or}
use Rattle.ink_number.specs.Answer.{gives, Answer, refuses}
use Rattle.op.specs.Op.{op_pow, op_invert}
use Rattle.ink_value.specs.Val.{Val, kind_of, kind_at, code_of}
use Rattle.ink_value.specs.declared.Kind.{Kind}
use Rattle.ink_value.specs.declared.Kind.TheVariants as K
use Rattle.ink_value.specs.Value.{val_of, kind_in}
use Rattle.operator_kinds.specs.Kinds.{kind_call, operand_count, kind_entry}
use Rattle.words_in.specs.Words.{unheld, value_at}

-- the kind whose code is the first word of value k; Void where it is none's
abbrev pub kind_word : List ℕ → ℕ → Kind
kind_word ws k = kind_at (get_or ws (3 * k) 0)

-- the words of the first n operands are a value's
pub record Held (ws : List ℕ) (n : ℕ) : Type 0 where
  pub one : 1 ≤ n → value_at ws 0 ≡ unheld → ⊥
  pub two : 2 ≤ n → value_at ws 1 ≡ unheld → ⊥
  pub three : 3 ≤ n → value_at ws 2 ≡ unheld → ⊥

-- the values of three operands
abbrev pub vals_at : List ℕ → List ℤ → List ℕ → List Val
vals_at is vs ws = val_of is vs (value_at ws 0) ∷ val_of is vs (value_at ws 1) ∷ val_of is vs (value_at ws 2) ∷ []

-- it is the kind of numbers
abbrev pub is_number : Kind → Bool
is_number k = ltb (code_of k) (code_of K.List)

-- the n operands are numbers, and the operator's result on them is a number of this kind
pub record OfNumbers (ws : List ℕ) (o n : ℕ) (kind : Kind) : Type 0 where
  pub some : 1 ≤ n
  pub few : n ≤ 2
  pub left : code_of (kind_in (value_at ws 0)) < code_of K.List
  pub right : n ≡ 2 → code_of (kind_in (value_at ws 1)) < code_of K.List
  pub small : code_of kind < code_of K.List
  pub answered : (is : List ℕ) (vs : List ℤ) → kind_call o n (map kind_of (take n (vals_at is vs ws))) ≡ gives kind

-- the one operand is, or the two are, numbers, by their kinds
abbrev pub numbers : ℕ → Kind → Kind → Bool
numbers n a b = cond (eqb n 1) (is_number a) (cond (eqb n 2) (is_number a && is_number b) false)

-- the kind that is answered
abbrev pub kind_given : Answer Kind → Option Kind
kind_given (gives k) = Some k
kind_given (refuses r) = None

-- the kind of an operator's result on n numbers, where it takes n operands and they are numbers; else none
abbrev pub number_kind : List ℕ → ℕ → ℕ → Option Kind
number_kind ws o n =
    cond (eqb (operand_count o) n)
    (cond (numbers n (kind_word ws 0) (kind_word ws 1)) (kind_given (kind_entry o (kind_word ws 0) (kind_word ws 1))) None)
    None

-- r is that kind: of such a result, where it is one, and else there is none
pub record NumberKind (ws : List ℕ) (o n : ℕ) (r : Option Kind) : Type 0 where
  pub value : r ≡ number_kind ws o n
  pub yes : (kind : Kind) → r ≡ Some kind → OfNumbers ws o n kind
  pub no : r ≡ None → (kind : Kind) → OfNumbers ws o n kind → ⊥

-- an operator's answer beside operands that it does not take as numbers: POW takes none, and refuses
abbrev pub untaken : ℕ → Kind → Option (Answer Kind)
untaken o a = cond (eqb o op_pow) (cond (is_number a) (Some (refuses 8)) None) None

-- the answer, a kind or the question that says no, of an operator up to Invert that takes n operands on the kinds of numbers: on the first,
-- where n is below 2, and else on both; else none
abbrev pub number_answer : List ℕ → ℕ → ℕ → Option (Answer Kind)
number_answer ws o n =
    cond (ltb op_invert o) None
    (cond (eqb (operand_count o) n)
    (cond (cond (is_number (kind_word ws 0)) (cond (ltb n 2) true (is_number (kind_word ws 1))) false)
    (Some (kind_entry o (kind_word ws 0) (kind_word ws 1)))
    None)
    None)

-- the kind that it gives
abbrev pub kind_answered : Option (Answer Kind) → Option Kind
kind_answered None = None
kind_answered (Some a) = kind_given a

-- r is that answer, and gives the kind of a result of numbers where it gives one
pub record NumberAnswer (ws : List ℕ) (o n : ℕ) (r : Option (Answer Kind)) : Type 0 where
  pub value : r ≡ number_answer ws o n
  pub kind : NumberKind ws o n (kind_answered r)
