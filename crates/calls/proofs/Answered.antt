-- A direct call of an operator with as many operands as it takes, to which question 7 says yes, answers what the operator answers; and what
-- `call` returns of an answer that is no List. Assumes nothing.
use mathlib.Core.Path.{◌≡◌, refl, ◌∙◌, subst}
use mathlib.Core.Bool.{true}
use mathlib.Core.List.{List, [], map}
use Prim.Native.Nat.{ℕ}
use borrow.Author.Tests.{eq-eqb}
use lib.IntN.{ℤ}
use lib.ListN.{take}
use Rattle.ink_number.specs.Answer.{Answer, gives}
use Rattle.slices.specs.Every.{◌and◌}
use Rattle.ink_value.specs.Val.{Val}
use Rattle.ink_value.specs.Value.{val_of, placed, written, Gave}
use Rattle.ink_value.specs.declared.Value.{Value}
use Rattle.operator_kinds.specs.Kinds.{known, arity}
use Rattle.native_function_call.specs.Apply.{apply_op, call}
use Rattle.pack.specs.Bodies.{Pack}
use Rattle.pack.specs.Judge.{judge}
use Rattle.pack.specs.Read.{definitions_of}
use Rattle.pack.specs.declared.format.Format.{Format}
use Rattle.call_memory.specs.Lent.{operands_ok, results_ok}
use Rattle.calls.specs.Call.{called, on_pack, Returned}

pub answered : (F : Format) (p is : List ℕ) (vs : List ℤ) (oi : List ℕ) (ov : List ℤ) (d : Pack) (op n : ℕ) (l : List Value)
    → judge F p ≡ gives d → operands_ok (definitions_of d F) is vs (take n l) ≡ true → results_ok (definitions_of d F) oi ov ≡ true
    → known op ≡ true → arity op ≡ n
    → on_pack F p (called is vs oi ov op n l) ≡ apply_op (definitions_of d F) op (map (val_of is vs) (take n l))
unfolding called call ◌and◌
answered F p is vs oi ov d op n l passed operands results is_Known takes = rw (passed, operands, results, is_Known, takes, eq-eqb n n refl)

-- no List: it is returned, and the result slices are as they were
pub returned : {x : Answer Val} {r : Answer Value} {oi oi' : List ℕ} {ov ov' : List ℤ} (y : Answer Val) → x ≡ y → written y ≡ []
    → Returned x r oi oi' ov ov' → (r ≡ placed y) × (oi' ≡ oi) × (ov' ≡ ov)
returned {x} {r} {oi} {oi'} {ov} {ov'} y e none w =
    let gave : Gave y r oi oi' ov ov' = subst (λ (a : Answer Val). Gave a r oi oi' ov ov') e w.gave in
    (gave.answered, gave.items_out ∙ rw none refl, gave.values_out ∙ rw none refl)
