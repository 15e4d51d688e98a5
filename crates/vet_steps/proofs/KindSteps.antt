-- An operator and a push on a stack of kinds that stands in an array. Assumes nothing.
use mathlib.Core.Path.{◌≡◌, refl, sym, ◌∙◌, ap}
use mathlib.Core.Bool.{Bool, true, false}
use mathlib.Core.Logic.{⊎_elim}
use mathlib.Core.List.{[], ◌∷◌}
use Prim.Native.Nat.{ℕ, ◌+◌, ◌-◌, ◌≤◌}
use native.Mathlib.Omega.{arith}
use lib.Dec.{ltb}
use borrow.Author.Tests.{ltb-true}
use Rattle.ink_number.specs.Answer.{Answer, gives, ask}
use Rattle.ink_value.specs.declared.Kind.{Kind}
use Rattle.operator_kinds.specs.Kinds.{operand_count, kind_apply, kind_range, kind_entry}
use Rattle.machine.specs.Machine.{stack_limit, topped, step_op, step_push}
use Rattle.machine.specs.Stack.{stack_of, top_pushed}
use Rattle.machine.specs.declared.Top.{Top}
use Rattle.machine.proofs.Stack.{op_one, op_two, op_three, stack_length}
use Rattle.operator_kinds.proofs.Counting.{entry_one, entry_two, entry_range, is_range, below_three}
use Rattle.vet_steps.specs.Step.{stepped, Within}

-- the two forms that the code has, over the count m
pub step_entry : (f : ℕ → Kind) (o n m : ℕ) → 1 ≤ m → operand_count o ≡ m → m ≤ n → (m ≡ 3 → ⊥)
    → topped (stack_of f (n - m)) (kind_entry o (f (n - m)) (f (n - 1))) ≡ step_op kind_apply o (stack_of f n)
step_entry f o n m h e l ne =
    ⊎_elim
    (λ w.
    let q : operand_count o ≡ 1 = e ∙ w in
    rw w (ap (topped (stack_of f (n - 1))) (sym (entry_one o (f (n - 1)) (f (n - 1)) q)) ∙ op_one kind_apply f o n q (omega arith)))
    (λ w.
    let q : operand_count o ≡ 2 = e ∙ w in
    rw w (ap (topped (stack_of f (n - 2))) (sym (entry_two o (f (n - 2)) (f (n - 1)) q)) ∙ op_two kind_apply f o n q (omega arith)))
    (below_three o m h e ne)

pub step_range : (f : ℕ → Kind) (o n m : ℕ) → operand_count o ≡ m → m ≤ n → m ≡ 3
    → topped (stack_of f (n - m)) (kind_range (f (n - m)) (f (n - m + 1)) (f (n - 1))) ≡ step_op kind_apply o (stack_of f n)
step_range f o n m e l w =
    let i : n - 3 + 1 ≡ n - 2 = omega arith in
    let q : operand_count o ≡ 3 = e ∙ w in
    let r : kind_apply o (f (n - 3) ∷ f (n - 2) ∷ f (n - 1) ∷ []) ≡ kind_range (f (n - 3)) (f (n - 2)) (f (n - 1)) =
    ap (λ (x : ℕ). kind_apply x (f (n - 3) ∷ f (n - 2) ∷ f (n - 1) ∷ [])) (is_range o q) ∙ entry_range (f (n - 3)) (f (n - 2)) (f (n - 1)) in
    rw (w, i) (ap (topped (stack_of f (n - 3))) (sym r) ∙ op_three kind_apply f o n q (omega arith))

-- ---- a push

-- what question 9 of a push answers
abbrev pushed : Bool → ℕ → Kind → Answer (Top Kind)
pushed t n k = ask 9 t (gives (record { place = n; value = k }))

pub pushed_kind : (f : ℕ → Kind) (n : ℕ) (k : Kind) (r : Answer (Top Kind)) → r ≡ top_pushed n k → stepped r f ≡ step_push k (stack_of f n)
pushed_kind f n k r e = rw (e, stack_length f n) (go (ltb n stack_limit))
  where
    go : (t : Bool) → stepped (pushed t n k) f ≡ ask 9 t (gives (k ∷ stack_of f n))
    go true = refl
    go false = refl

pub pushed_within : (n : ℕ) (k : Kind) (r : Answer (Top Kind)) → r ≡ top_pushed n k → Within r n
pushed_within n k r e = rw e (go (ltb n stack_limit) refl)
  where
    go : (t : Bool) → ltb n stack_limit ≡ t → Within (pushed t n k) n
    go true q = (ltb-true n stack_limit q, omega arith)
    go false q = tt
