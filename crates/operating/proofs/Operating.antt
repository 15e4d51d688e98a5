-- An operator on operands that stand in slices. Assumes nothing.
use mathlib.Core.Path.{◌≡◌, refl, sym, subst}
use mathlib.Core.List.{List, [], ◌∷◌}
use Prim.Native.Nat.{ℕ, ◌≤◌}
use borrow.Author.Tests.{eq-eqb}
use lib.IntN.{ℤ}
use lib.ListN.{take}
use Rattle.ink_number.specs.Answer.{Answer, refuses}
use Rattle.ink_value.specs.Val.{Val}
use Rattle.ink_value.specs.Value.{kind_in, first_of}
use Rattle.ink_value.specs.declared.Value.{Value}
use Rattle.operator_kinds.specs.Kinds.{operand_count, kind_call}
use Rattle.list_definitions.specs.Defs.{ListDefinitions}
use Rattle.native_function_call.specs.Apply.{apply_op, call}
use Rattle.operator_kinds.proofs.Counting.{takes}
use Rattle.native_function_call.proofs.Calling.{call_refused}
use Rattle.pack.specs.declared.format.Format.{Format}
use Rattle.operating.specs.Stacked.{Answered}
use Rattle.machine.specs.declared.Top.{Top}

-- a call that is refused for its operands' kinds
module _ (is : List ℕ) (vs : List ℤ) (a b c : Value) (u : ListDefinitions) (o n : ℕ) {F : Format} (place q : ℕ) where
  pub call_stops : refuses q ≡ kind_call o n (take n (kind_in a ∷ kind_in b ∷ kind_in c ∷ []))
      → Answered F (call u o n (first_of is vs n a b c)) place (refuses q) is is vs vs
  call_stops e = record { by = record { refused = call_refused u o n is vs a b c q e; items_same = refl; values_same = refl } }

-- a call after questions 8 and 10
module _ (is : List ℕ) (vs : List ℤ) (a b c : Value) (u : ListDefinitions) (o n : ℕ) where
  pub call_applies : 1 ≤ n → operand_count o ≡ n → call u o n (first_of is vs n a b c) ≡ apply_op u o (first_of is vs n a b c)
  unfolding call
  call_applies h e = let t = takes o n h e in rw (t.is_known, t.arity_is, eq-eqb n n refl)

pub answered_is : {F : Format} (a b : Answer Val) (place : ℕ) (r : Answer (Top Value)) (wi wi' : List ℕ) (wv wv' : List ℤ) → b ≡ a
    → Answered F a place r wi wi' wv wv' → Answered F b place r wi wi' wv wv'
answered_is {F} a b place r wi wi' wv wv' e w = subst (λ (x : Answer Val). Answered F x place r wi wi' wv wv') (sym e) w
