-- A direct call of Floor or Ceiling: what it answers, by the operand's kind, and that of a Float `call` returns the integral value nearest
-- from below or above, and writes nothing. Assumes nothing.
use mathlib.Core.Path.{◌≡◌, refl, ◌∙◌}
use mathlib.Core.Bool.{true}
use mathlib.Core.List.{List, [], ◌∷◌}
use Prim.Native.Nat.{ℕ, ◌≤◌}
use borrow.Author.Tests.{le-leb}
use lib.IntN.{ℤ}
use lib.ListN.{length}
use lib.Pow.{pow_pos}
use lib.Ieee.{Float}
use Rattle.op.specs.Op.{op_floor, op_ceiling}
use Rattle.ink_number.specs.Answer.{Answer, gives}
use Rattle.binary32.specs.Binary32.{Binary32, Exactly}
use Rattle.binary32.specs.Operations.{Floor, Ceiling}
use Rattle.binary32.specs.Real.{floor_f, ceiling_f}
use Rattle.binary32.proofs.Meets.{floor_meets, ceiling_meets}
use Rattle.slices.specs.Every.{◌and◌}
use Rattle.ink_list.proofs.Formed.{formed_both}
use Rattle.list_definitions.specs.Defs.{ListDefinitions}
use Rattle.ink_value.specs.Val.{Val}
use Rattle.ink_value.specs.Value.{val_of}
use Rattle.ink_value.specs.declared.Value.{Value}
use Rattle.ink_value.specs.declared.Value.TheVariants as Is
use Rattle.operator_kinds.specs.Kinds.{known, unary, arity}
use Rattle.native_function_call.specs.Rounding.{rounded}
use Rattle.native_function_call.proofs.Rounding.{floors, ceilings}
use Rattle.pack.specs.Bodies.{Pack}
use Rattle.pack.specs.Judge.{judge}
use Rattle.pack.specs.Read.{definitions_of}
use Rattle.pack.specs.declared.format.Format.{Format}
use Rattle.call_memory.specs.Lent.{operands_ok, results_ok}
use Rattle.calls.specs.Call.{called, on_pack, Returned}
use Rattle.calls.proofs.Answered.{answered, returned}

module _ (F : Format) (p is : List ℕ) (vs : List ℤ) (oi : List ℕ) (ov : List ℤ) (d : Pack) (b c : Value) (passed : judge F p ≡ gives d)
    (results : results_ok (definitions_of d F) oi ov ≡ true) where
  -- the answer of a call with one operand, in the contracts of `call` and `ink_call`
  abbrev answer : ℕ → Value → Answer Val
  answer op a = on_pack F p (called is vs oi ov op 1 (a ∷ b ∷ c ∷ []))

  module _ (a : Value) (operand : operands_ok (definitions_of d F) is vs (a ∷ []) ≡ true) where
    pub floor_answered : answer op_floor a ≡ rounded floor_f (val_of is vs a)
    unfolding known unary arity
    floor_answered = answered F p is vs oi ov d op_floor 1 (a ∷ b ∷ c ∷ []) passed operand results refl refl ∙ floors (definitions_of d F) (val_of is vs a)

    pub ceiling_answered : answer op_ceiling a ≡ rounded ceiling_f (val_of is vs a)
    unfolding known unary arity
    ceiling_answered =
        answered F p is vs oi ov d op_ceiling 1 (a ∷ b ∷ c ∷ []) passed operand results refl refl ∙ ceilings (definitions_of d F) (val_of is vs a)

  -- what `call` returns of a Float, by its contract: the Float of which P holds alone, and the result slices are as they were
  module _ (x : Float) (fits : Binary32 x) (operand : operands_ok (definitions_of d F) is vs (Is.Float x ∷ []) ≡ true)
      (r : Answer Value) (oi' : List ℕ) (ov' : List ℤ) where
    abbrev Returns : (Float → Type 0) → Type 0
    Returns P = (y : Float) × Exactly P y × ((r ≡ gives (Is.Float y)) × (oi' ≡ oi) × (ov' ≡ ov))

    pub floor_returned : Returned (answer op_floor (Is.Float x)) r oi oi' ov ov' → Returns (Floor x)
    floor_returned w = (floor_f x, floor_meets x fits, returned _ (floor_answered (Is.Float x) operand) refl w)

    pub ceiling_returned : Returned (answer op_ceiling (Is.Float x)) r oi oi' ov ov' → Returns (Ceiling x)
    ceiling_returned w = (ceiling_f x, ceiling_meets x fits, returned _ (ceiling_answered (Is.Float x) operand) refl w)

-- what question 7 is to say yes to can be met: by any Float without lists, in every pack, with result slices that are long enough
pub one_float : (u : ListDefinitions) (x : Float) (oi : List ℕ) (ov : List ℤ) → u.limit ≤ length oi → u.limit ≤ length ov
    → (operands_ok u [] [] (Is.Float x ∷ []) ≡ true) × (results_ok u oi ov ≡ true)
unfolding ◌and◌
one_float u x oi ov h k =
    (rw (formed_both (length u.defined) (length u.ends) 0 [] (pow_pos (length u.ends)) tt) refl, rw (le-leb u.limit (length oi) h, le-leb u.limit (length ov) k) refl)
