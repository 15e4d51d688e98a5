-- One step: a push or an operator's answer on the stack below, and an operator's operands on top of it. Assumes nothing.
use mathlib.Core.Path.{◌≡◌, refl, sym, ap, ap₂, ◌∙◌, subst}
use mathlib.Core.Bool.{Bool, true, false}
use mathlib.Core.List.{List, [], ◌∷◌, map}
use Prim.Native.Nat.{ℕ, zero, suc, ◌-◌, ◌≤◌, ◌<◌}
use native.Mathlib.Omega.{arith}
use lib.Dec.{ltb}
use lib.IntN.{ℤ}
use lib.ListN.{length, get_or, get_or-map}
use Rattle.ink_number.specs.Answer.{Answer, gives, ask, refuses}
use Rattle.ink_value.specs.Val.{Val, void}
use Rattle.ink_value.specs.Value.{val_of, first_of}
use Rattle.ink_value.specs.declared.Value.{Value}
use Rattle.ink_value.specs.declared.Value.TheVariants as Is
use Rattle.slices.proofs.Lists.{ap3}
use Rattle.operator_kinds.specs.Kinds.{operand_count}
use Rattle.list_definitions.specs.Defs.{ListDefinitions}
use Rattle.native_function_call.specs.Apply.{apply_op, call}
use Rattle.operator_kinds.proofs.Counting.{count_three}
use Rattle.pack.specs.declared.format.Format.{Format}
use Rattle.pack.specs.Instruction.{Push, Instr, op, push}
use Rattle.machine.specs.Machine.{stack_limit, topped, step_op, step_push, step}
use Rattle.machine.specs.Stack.{stack_of}
use Rattle.machine.proofs.Stack.{op_unknown, op_few, op_one, op_two, op_three, stack_length, get_d_any}
use Rattle.stepping.specs.Steps.{StepCase, Steps, TopOperands, pushed}
use Rattle.operating.specs.Stacked.{AnswerCase, Answered, start_at, Put}
use Rattle.operating.proofs.Operating.{call_applies}
use Rattle.machine.specs.declared.Top.{Top}

-- ---- the stack

-- an answer on the stack below
pub steps_of : {F : Format} (n place : ℕ) (a : Answer Val) (b : Answer (List Val)) (f : ℕ → Val) (r : Answer (Top Value)) (wi wi' : List ℕ) (wv wv' : List ℤ)
    → topped (stack_of f place) a ≡ b → place ≤ n → Answered F a place r wi wi' wv wv' → Steps F n b f r wi wi' wv wv'
steps_of {F} n place a b f r wi wi' wv wv' e h w = record { by = go r w.by }
  where
    go : (r : Answer (Top Value)) → AnswerCase F a place r wi wi' wv wv' → StepCase F n b f r wi wi' wv wv'
    go (gives t) x =
        record {
          value = x.value;
          given = sym e ∙ ap (topped (stack_of f place)) x.given ∙ ap (λ (k : ℕ). gives (x.value ∷ stack_of f k)) (sym x.at_place);
          within = omega (arith, x.at_place);
          depth = omega (arith, x.at_place, x.depth);
          put = subst (λ (k : ℕ). Put F x.value (start_at F k) t.value wi wi' wv wv') (sym x.at_place) x.put;
        }
    go (refuses q) x = record { refused = sym e ∙ ap (topped (stack_of f place)) x.refused; items_same = x.items_same; values_same = x.values_same }

-- a push
pub push_topped : (n : ℕ) (x : Val) (f : ℕ → Val) → topped (stack_of f n) (pushed n x) ≡ step_push x (stack_of f n)
push_topped n x f = rw (stack_length f n) (go (ltb n stack_limit))
  where
    go : (t : Bool) → topped (stack_of f n) (ask 9 t (gives x)) ≡ ask 9 t (gives (x ∷ stack_of f n))
    go true = refl
    go false = refl

-- an operator's operands are the topmost
module _ (wi : List ℕ) (wv : List ℤ) (a b c : Value) (f : ℕ → Val) (u : ListDefinitions) (o n : ℕ) where
  pub operands_topped : (count : ℕ) → TopOperands wi wv a b c n count f → operand_count o ≡ count → 1 ≤ count → count ≤ n
      → topped (stack_of f (n - count)) (call u o count (first_of wi wv count a b c)) ≡ step_op (apply_op u) o (stack_of f n)
  operands_topped zero t e h l = absurd (omega arith)
  operands_topped (suc zero) t e h l =
      let x : val_of wi wv a ≡ f (n - 1) = sym (t.one h l) in
      ap (topped (stack_of f (n - 1))) (call_applies wi wv a b c u o 1 h e ∙ ap (λ (z : Val). apply_op u o (z ∷ [])) x)
      ∙ op_one (apply_op u) f o n e l
  operands_topped (suc (suc zero)) t e h l =
      let x : val_of wi wv a ≡ f (n - 2) = sym (t.one h l) in
      let y : val_of wi wv b ≡ f (n - 1) = sym (t.two (omega arith) l) ∙ ap f (omega arith) in
      ap (topped (stack_of f (n - 2))) (call_applies wi wv a b c u o 2 h e ∙ ap₂ (λ (z w : Val). apply_op u o (z ∷ w ∷ [])) x y)
      ∙ op_two (apply_op u) f o n e l
  operands_topped (suc (suc (suc zero))) t e h l =
      let x : val_of wi wv a ≡ f (n - 3) = sym (t.one h l) in
      let y : val_of wi wv b ≡ f (n - 2) = sym (t.two (omega arith) l) ∙ ap f (omega arith) in
      let z : val_of wi wv c ≡ f (n - 1) = sym (t.three (omega arith) l) ∙ ap f (omega arith) in
      ap (topped (stack_of f (n - 3))) (call_applies wi wv a b c u o 3 h e ∙ ap3 (λ (v w y : Val). apply_op u o (v ∷ w ∷ y ∷ [])) x y z)
      ∙ op_three (apply_op u) f o n e l
  operands_topped (suc (suc (suc (suc m)))) t e h l =
      let z = count_three o (suc (suc (suc (suc m)))) e h (λ k. omega arith) (λ k. omega arith) in
      absurd (omega arith)

-- ---- no operator, and too few operands

module _ {F : Format} (u : ListDefinitions) (o n : ℕ) (f : ℕ → Val) (wi : List ℕ) (wv : List ℤ) where
  pub no_operator : operand_count o ≡ 0 → Steps F n (step_op (apply_op u) o (stack_of f n)) f (refuses 8) wi wi wv wv
  no_operator e = record { by = record { refused = op_unknown (apply_op u) f o n e; items_same = refl; values_same = refl } }

  pub no_operands : (m : ℕ) → 1 ≤ m → operand_count o ≡ m → n < m → Steps F n (step_op (apply_op u) o (stack_of f n)) f (refuses 10) wi wi wv wv
  no_operands m h e l = record { by = record { refused = op_few (apply_op u) f o n m h e l; items_same = refl; values_same = refl } }

-- ---- an instruction

module _ {F : Format} (value : Push → Val) (apply : ℕ → List Val → Answer Val) (n : ℕ) (f : ℕ → Val) (r : Answer (Top Value)) (wi wi' : List ℕ) (wv wv' : List ℤ) (i : Instr) where
  pub push_steps : (p : Push) → i ≡ push p → (x : Val) → x ≡ value p → Answered F (pushed n x) n r wi wi' wv wv'
      → Steps F n (step value apply i (stack_of f n)) f r wi wi' wv wv'
  unfolding step
  push_steps p e x q w =
      steps_of n n _ _ f r wi wi' wv wv'
      (push_topped n x f ∙ ap (λ (y : Val). step_push y (stack_of f n)) q ∙ sym (ap (λ (y : Instr). step value apply y (stack_of f n)) e)) (omega arith) w

  pub op_steps : (o : ℕ) → i ≡ op o → Steps F n (step_op apply o (stack_of f n)) f r wi wi' wv wv' → Steps F n (step value apply i (stack_of f n)) f r wi wi' wv wv'
  unfolding step
  op_steps o e w = subst (λ (y : Instr). Steps F n (step value apply y (stack_of f n)) f r wi wi' wv wv') (sym e) w

-- a slot's value
pub slot_value : (is : List ℕ) (vs : List ℤ) (slots : List Value) (k : ℕ) → k < length slots
    → val_of is vs (get_or slots k (Is.Bool false)) ≡ get_or (map (val_of is vs) slots) k void
slot_value is vs slots k h = ap (val_of is vs) (get_d_any slots k (Is.Bool false) Is.Void h) ∙ sym (get_or-map (val_of is vs) slots k Is.Void)
