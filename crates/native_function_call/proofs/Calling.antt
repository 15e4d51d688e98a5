-- An operator on values, by its answer on kinds. Assumes nothing.
use mathlib.Core.Path.{◌≡◌, refl, sym, ap, ◌∙◌}
use mathlib.Core.Bool.{Bool, true, false}
use mathlib.Core.List.{List, [], ◌∷◌, map}
use Prim.Native.Nat.{ℕ, zero, suc, ◌≤◌}
use native.Mathlib.Omega.{arith}
use lib.Dec.{eqb}
use lib.IntN.{ℤ}
use lib.ListN.{take}
use Rattle.ink_number.specs.Answer.{Answer, gives, refuses, ask}
use Rattle.ink_value.specs.Val.{Val, kind_of}
use Rattle.ink_value.specs.declared.Kind.{Kind}
use Rattle.ink_value.specs.declared.Kind.TheVariants as K
use Rattle.ink_value.specs.Convert.{as_int}
use Rattle.ink_value.specs.Value.{val_of, kind_in, placed, written, Gave, first_of}
use Rattle.ink_value.specs.declared.Value.{Value}
use Rattle.slices.proofs.Lists.{ap3}
use Rattle.ink_value.proofs.Reading.{kind_in_lem}
use Rattle.ink_value.proofs.Given.{gave_plain}
use Rattle.number_operators.specs.Numbers.{arith_z}
use Rattle.operator_kinds.specs.Kinds.{known, arity, kind_apply, kind_call}
use Rattle.list_definitions.specs.Defs.{ListDefinitions}
use Rattle.list_operators.specs.Lists.{list_result}
use Rattle.native_function_call.specs.Apply.{of_int, whole, apply_op, compute, call}

pub apply_gives : (u : ListDefinitions) (o : ℕ) (vs : List Val) (k : Kind) → kind_apply o (map kind_of vs) ≡ gives k → apply_op u o vs ≡ compute u o vs k
unfolding apply_op
apply_gives u o vs k e = rw e

pub apply_refuses : (u : ListDefinitions) (o : ℕ) (vs : List Val) (r : ℕ) → kind_apply o (map kind_of vs) ≡ refuses r → apply_op u o vs ≡ refuses r
unfolding apply_op
apply_refuses u o vs r e = rw e

-- ---- the operator on values

module _ (u : ListDefinitions) (o n : ℕ) (vs : List Val) where
  pub call_gives : (k : Kind) → kind_call o n (map kind_of vs) ≡ gives k → call u o n vs ≡ compute u o vs k
  unfolding kind_call call
  call_gives k e = go (known o) (eqb n (arity o)) e
    where
      go : (s t : Bool) → ask 8 s (ask 10 t (kind_apply o (map kind_of vs))) ≡ gives k → ask 8 s (ask 10 t (apply_op u o vs)) ≡ compute u o vs k
      go true true q = apply_gives u o vs k q
      go true false q = let z : ◌≡◌ {A = ℕ} 0 1 = cc in absurd (omega arith)
      go false t q = let z : ◌≡◌ {A = ℕ} 0 1 = cc in absurd (omega arith)

  pub call_refuses : (r : ℕ) → kind_call o n (map kind_of vs) ≡ refuses r → call u o n vs ≡ refuses r
  unfolding kind_call call
  call_refuses r e = go (known o) (eqb n (arity o)) e
    where
      go : (s t : Bool) → ask 8 s (ask 10 t (kind_apply o (map kind_of vs))) ≡ refuses r → ask 8 s (ask 10 t (apply_op u o vs)) ≡ refuses r
      go true true q = apply_refuses u o vs r q
      go true false q = cc
      go false t q = cc

-- the kinds of the first n of three values
pub kinds_of : (n : ℕ) (a b c : Val) → take n (kind_of a ∷ kind_of b ∷ kind_of c ∷ []) ≡ map kind_of (take n (a ∷ b ∷ c ∷ []))
kinds_of zero a b c = refl
kinds_of (suc zero) a b c = refl
kinds_of (suc (suc zero)) a b c = refl
kinds_of (suc (suc (suc zero))) a b c = refl
kinds_of (suc (suc (suc (suc n)))) a b c = refl

-- and of three values of the code
pub kinds_in : (is : List ℕ) (vs : List ℤ) (n : ℕ) (a b c : Value) → take n (kind_in a ∷ kind_in b ∷ kind_in c ∷ []) ≡ map kind_of (first_of is vs n a b c)
kinds_in is vs n a b c =
    ap3 (λ (x y z : Kind). take n (x ∷ y ∷ z ∷ [])) (kind_in_lem is vs a) (kind_in_lem is vs b) (kind_in_lem is vs c)
    ∙ kinds_of n (val_of is vs a) (val_of is vs b) (val_of is vs c)

-- ---- a result that is no List writes nothing

-- an Int's answer writes no entries
pub int_none : (a : Answer ℤ) → written (of_int a) ≡ []
int_none (gives z) = refl
int_none (refuses r) = refl

pub whole_none : (o : ℕ) (vs : List Val) → written (whole o vs) ≡ []
whole_none o [] = refl
whole_none o (a ∷ []) = refl
whole_none o (a ∷ b ∷ []) = int_none (arith_z o (as_int a) (as_int b))
whole_none o (a ∷ b ∷ c ∷ vs) = refl

pub scalar_none : (u : ListDefinitions) (o : ℕ) (vs : List Val) (k : Kind) → (k ≡ K.List → ⊥) → written (compute u o vs k) ≡ []
unfolding compute
scalar_none u o vs K.Bool h = refl
scalar_none u o vs K.Int h = whole_none o vs
scalar_none u o vs K.Float h = refl
scalar_none u o vs K.List h = absurd (h refl)
scalar_none u o vs K.Void h = refl

-- of one or two operands, the third does not matter
pub two_of : {X : Type 0} (n : ℕ) (a b c : X) → 1 ≤ n → n ≤ 2 → take n (a ∷ b ∷ []) ≡ take n (a ∷ b ∷ c ∷ [])
two_of zero a b c h k = absurd (omega arith)
two_of (suc zero) a b c h k = refl
two_of (suc (suc zero)) a b c h k = refl
two_of (suc (suc (suc n))) a b c h k = absurd (omega arith)

pub scalar_gave : (u : ListDefinitions) (o : ℕ) (k : Kind) (n : ℕ) (a b c : Val) {r : Answer Value} {oi : List ℕ} {ov : List ℤ} → (k ≡ K.List → ⊥) → 1 ≤ n → n ≤ 2
    → r ≡ placed (compute u o (take n (a ∷ b ∷ [])) k) → Gave (compute u o (take n (a ∷ b ∷ c ∷ [])) k) r oi oi ov ov
scalar_gave u o k n a b c {r} {oi} {ov} h l m e =
    gave_plain (compute u o (take n (a ∷ b ∷ c ∷ [])) k) r oi ov (scalar_none u o (take n (a ∷ b ∷ c ∷ [])) k h)
    (e ∙ ap (λ (vs : List Val). placed (compute u o vs k)) (two_of n a b c l m))

pub compute_list : (u : ListDefinitions) (o : ℕ) (k : Kind) (vs : List Val) → k ≡ K.List → compute u o vs k ≡ gives (list_result u o vs)
unfolding compute
compute_list u o k vs e = ap (compute u o vs) e

-- ---- what `apply` comes to

module _ (u : ListDefinitions) (o n : ℕ) (is : List ℕ) (vs : List ℤ) (a b c : Value) where
  pub call_refused : (q : ℕ) → refuses q ≡ kind_call o n (take n (kind_in a ∷ kind_in b ∷ kind_in c ∷ [])) → call u o n (first_of is vs n a b c) ≡ refuses q
  call_refused q g = call_refuses u o n (first_of is vs n a b c) q (ap (kind_call o n) (sym (kinds_in is vs n a b c)) ∙ sym g)

  pub call_given : (k : Kind) → gives k ≡ kind_call o n (take n (kind_in a ∷ kind_in b ∷ kind_in c ∷ []))
      → call u o n (first_of is vs n a b c) ≡ compute u o (first_of is vs n a b c) k
  call_given k g = call_gives u o n (first_of is vs n a b c) k (ap (kind_call o n) (sym (kinds_in is vs n a b c)) ∙ sym g)
