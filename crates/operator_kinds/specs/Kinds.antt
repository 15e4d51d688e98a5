-- Questions 8 and 10 to 13, which ask only for kinds, and the kind of each result.
use Rattle.std.specs.Prelude.{Bool, true, false, cond, not, ◌&&◌, ◌||◌, List, [], ◌∷◌, ◌≡◌, ℕ, max, ◌≤◌, eqb, leb, ltb}
use Rattle.op.specs.Op.{op_subtract, op_negate, op_equal, op_not, op_and, op_or, op_min, op_max, op_pow, op_floor, op_ceiling, op_int, op_float, op_has, op_hasnt, op_list_min, op_count, op_value_of_list, op_invert, op_range}
use Rattle.ink_value.specs.Val.{is_list, code_of, kind_at}
use Rattle.ink_value.specs.declared.Kind.{Kind}
use Rattle.ink_value.specs.declared.Kind.TheVariants as K
use Rattle.ink_number.specs.Answer.{Answer, gives, refuses, ask}

-- lo ≤ o ≤ hi
abbrev pub within : ℕ → ℕ → ℕ → Bool
within lo o hi = leb lo o && leb o hi

-- "Question 8 now says no only to POW and unknown numbers."
unfoldable pub known : ℕ → Bool
known o = not (eqb o op_pow) && leb o op_range

-- Negate, Not, Floor to Float and ListMin to Invert take one operand, range three, the others two
unfoldable pub unary : ℕ → Bool
unary o = eqb o op_negate || eqb o op_not || within op_floor o op_float || within op_list_min o op_invert

unfoldable pub arity : ℕ → ℕ
arity o = cond (unary o) 1 (cond (eqb o op_range) 3 2)

abbrev pub is_int : Kind → Bool
is_int K.Bool = false
is_int K.Int = true
is_int K.Float = false
is_int K.List = false
is_int K.Void = false

abbrev pub is_void : Kind → Bool
is_void K.Bool = false
is_void K.Int = false
is_void K.Float = false
is_void K.List = false
is_void K.Void = true

-- the highest code present, at least Int's
abbrev pub common : Kind → Kind → Kind
common a b = kind_at (max (code_of K.Int) (max (code_of a) (code_of b)))

-- question 13, for the common kind
abbrev pub available : ℕ → Kind → Bool
available o k =
    cond (is_list k)
    (leb o op_subtract || within op_equal o op_or || within op_has o op_invert)
    (leb o op_max || within op_floor o op_float)

-- the kind of the result, from the common kind
abbrev pub result_kind : ℕ → Kind → Kind
result_kind o k =
    cond (leb o op_negate || within op_min o op_max || within op_floor o op_ceiling) k
    (cond (eqb o op_not) (cond (is_list k) K.Int K.Bool)
    (cond (leb o op_or || within op_has o op_hasnt) K.Bool
    (cond (eqb o op_int || within op_count o op_value_of_list) K.Int
    (cond (eqb o op_float) K.Float K.List))))

-- questions 11, 13 of one operand
unfoldable pub kind_unary : ℕ → Kind → Answer Kind
kind_unary o a =
    cond (is_void a) (refuses 11)
    (cond (available o (common a a)) (gives (result_kind o (common a a))) (refuses 13))

-- question 12: with just one List, only List then Int with Add or Subtract, and And and Or
abbrev pub mixed : Kind → Kind → Bool
mixed a b = not (cond (is_list a) (is_list b) (not (is_list b)))

abbrev pub mixes : ℕ → Kind → Kind → Bool
mixes o a b = (leb o op_subtract && is_list a && is_int b) || within op_and o op_or

-- questions 11 to 13 of two operands
unfoldable pub kind_binary : ℕ → Kind → Kind → Answer Kind
kind_binary o a b =
    cond (is_void a || is_void b) (refuses 11)
    (cond (mixed a b) (cond (mixes o a b) (gives (result_kind o K.List)) (refuses 12))
    (cond (available o (common a b)) (gives (result_kind o (common a b))) (refuses 13)))

-- range: questions 11 and 13
unfoldable pub kind_range : Kind → Kind → Kind → Answer Kind
kind_range a b c =
    cond (is_void a || is_void b || is_void c) (refuses 11)
    (cond (is_list a) (gives K.List) (refuses 13))

-- an operator's answer on kinds; 10 where the operands are not as many as it takes
unfoldable pub kind_apply : ℕ → List Kind → Answer Kind
kind_apply o [] = refuses 10
kind_apply o (a ∷ []) = cond (eqb (arity o) 1) (kind_unary o a) (refuses 10)
kind_apply o (a ∷ b ∷ []) = cond (eqb (arity o) 2) (kind_binary o a b) (refuses 10)
kind_apply o (a ∷ b ∷ c ∷ []) = cond (eqb (arity o) 3) (kind_range a b c) (refuses 10)
kind_apply o (a ∷ b ∷ c ∷ d ∷ ks) = refuses 10

-- the same after question 8, and 10 as a direct call asks it: "exactly as many"
unfoldable pub kind_call : ℕ → ℕ → List Kind → Answer Kind
kind_call o n ks = ask 8 (known o) (ask 10 (eqb n (arity o)) (kind_apply o ks))

-- the table's entry for an operator below range
unfoldable pub kind_entry : ℕ → Kind → Kind → Answer Kind
kind_entry o a b = cond (known o) (cond (unary o) (kind_unary o a) (kind_binary o a b)) (refuses 8)

-- a code below 5 is a kind's, any other a refusal's number
abbrev pub decoded : ℕ → Answer Kind
decoded e = cond (ltb e 5) (gives (kind_at e)) (refuses e)

-- how many operands an operator takes, 0 where question 8 says no
unfoldable pub operand_count : ℕ → ℕ
operand_count o = cond (known o) (arity o) 0

-- an operator's answer on the kinds of n operands. Where it is a kind, the operator takes n operands, one to three, and of three it gives a
-- List
pub record KindsGiven (o n : ℕ) (ks : List Kind) (r : Answer Kind) : Type 0 where
  pub answered : r ≡ kind_call o n ks
  pub counted : (k : Kind) → r ≡ gives k → (1 ≤ n) × (n ≤ 3) × (n ≡ 3 → k ≡ K.List)
