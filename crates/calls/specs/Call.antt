-- A direct call and the conversions on the bytes of a pack: questions 1 to 5 and 7 come before those of the operator. Assumes nothing.
use Rattle.std.specs.Prelude.{◌≡◌, List, [], ◌∷◌, map, ℕ, ℤ, take, Result, Ok, Err}
use Rattle.ink_number.specs.Answer.{Answer, refuses, ask, and_then}
use Rattle.ink_number.specs.Question.{number}
use Rattle.ink_number.specs.declared.question.Question.{Question}
use Rattle.slices.specs.Every.{◌and◌}
use Rattle.list_definitions.specs.Defs.{ListDefinitions}
use Rattle.ink_value.specs.Val.{Val}
use Rattle.value_conversions.specs.Convert.{cast}
use Rattle.ink_value.specs.Value.{val_of, placed, outcome_of, Gave}
use Rattle.ink_value.specs.declared.Kind.{Kind}
use Rattle.ink_value.specs.declared.Value.{Value}
use Rattle.native_function_call.specs.Apply.{call}
use Rattle.pack.specs.Judge.{judge}
use Rattle.pack.specs.Read.{definitions_of}
use Rattle.pack.specs.declared.format.Format.{Format}
use Rattle.call_memory.specs.Lent.{operands_ok, results_ok}

module _ (is : List ℕ) (vs : List ℤ) where
  -- operator o on the first n of three operands: 7, then 8, 10 to 13 and 15
  unfoldable pub called : List ℕ → List ℤ → ℕ → ℕ → List Value → ListDefinitions → Answer Val
  called oi ov o n l u = ask 7 (operands_ok u is vs (take n l) and results_ok u oi ov) (call u o n (map (val_of is vs) (take n l)))

  -- `cast`: 7, then 18. It has result slices, since a List is cast to a List
  unfoldable pub cast_to : List ℕ → List ℤ → Kind → Value → ListDefinitions → Answer Val
  cast_to oi ov to v u = ask 7 (operands_ok u is vs (v ∷ []) and results_ok u oi ov) (cast to (val_of is vs v))

  -- the three `coerce_to_`, of which f is one: 7, then 18
  unfoldable pub coerced : (Val → Answer Val) → Value → ListDefinitions → Answer Val
  coerced f v u = ask 7 (operands_ok u is vs (v ∷ [])) (f (val_of is vs v))

-- questions 1 to 5 first: "a direct call 1 to 5, 7, 8, 10 to" 13 and 15; "a conversion 1 to 5, 7, 18"
abbrev pub on_pack : Format → List ℕ → (ListDefinitions → Answer Val) → Answer Val
on_pack F p f = and_then (judge F p) (λ d. f (definitions_of d F))

-- an answer after questions of which the result has the first no
abbrev pub after_asked : Result (Unit {0}) Question → Answer Val → Answer Val
after_asked (Ok u) a = a
after_asked (Err q) a = refuses (number q)

-- ---- what is returned

-- an answer is returned and written as `Gave` says, and with the result slices at exit the outcome stands for it
pub record Returned (a : Answer Val) (r : Answer Value) (oi oi' : List ℕ) (ov ov' : List ℤ) : Type 0 where
  pub gave : Gave a r oi oi' ov ov'
  pub stands : outcome_of oi' ov' r ≡ a

-- an answer that is no List is returned: the outcome stands for it, whatever the slices hold
pub record ReturnedPlain (a : Answer Val) (r : Answer Value) : Type 0 where
  pub answered : r ≡ placed a
  pub stands : (is : List ℕ) (vs : List ℤ) → outcome_of is vs r ≡ a
