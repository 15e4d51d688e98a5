-- Numbers in their words: a result of their parts is the operator's on their values. Assumes nothing.
use mathlib.Core.Path.{◌≡◌, refl, sym, ap, ◌∙◌}
use mathlib.Core.Bool.{Bool, not}
use mathlib.Core.Logic.{◌⊎◌, inl, inr}
use mathlib.Core.List.{List}
use Prim.Native.Nat.{ℕ, ◌+◌, ◌*◌, ◌<◌}
use native.Mathlib.Omega.{arith}
use lib.IntN.{ℤ}
use lib.Ieee.{Float}
use lib.ListN.{get_or, take}
use Rattle.slices.proofs.Lists.{ap2}
use Rattle.ink_number.specs.Answer.{gives}
use Rattle.ink_value.specs.Convert.{bit_z, as_int, as_float, truthy}
use Rattle.ink_value.specs.Held.{number_in}
use Rattle.ink_value.specs.Val.{Val, bool, int, float, list, void, code_of}
use Rattle.ink_value.specs.declared.Kind.{Kind}
use Rattle.ink_value.specs.declared.Kind.TheVariants as K
use Rattle.ink_value.specs.declared.number_parts.NumberParts.{NumberParts}
use Rattle.ink_value.specs.Value.{val_of, kind_in, start_of, len_of, number_of, placed}
use Rattle.ink_value.specs.declared.Value.{Value}
use Rattle.ink_value.specs.declared.Value.TheVariants as Is
use Rattle.ink_value.proofs.Parts.{Number as ValueNumber, of_number as in_parts}
use Rattle.list_definitions.specs.Defs.{ListDefinitions}
use Rattle.number_operators.specs.Numbers.{arith_z, arith_f, test_two, whole_unary, real_unary}
use Rattle.native_function_call.specs.Apply.{of_int, compute}
use Rattle.native_function_call.proofs.InParts.{bit_truth, whole_bool, real_bool, test_numbers_lem}
use Rattle.words_in.specs.Words.{unheld, value_at}
use Rattle.word_kinds.specs.Operands.{OfNumbers, vals_at}
use Rattle.word_kinds.proofs.Operands.{Parts, word_parts}
use Rattle.word_numbers.specs.Slices.{number_at}

-- ---- the parts of a number

-- the parts are this number's
pub record Number (v : Value) (p : NumberParts) : Type 0 where
  pub parts : Parts v p
  pub few : code_of (kind_in v) < 3

-- as a value's: a number has no entries
value_parts : (v : Value) (p : NumberParts) → Number v p → ValueNumber v p.kind p.whole p.real
value_parts v p n =
    record {
      parts = record { kind_is = n.parts.kind_is; holds = n.parts.holds; start_is = none v n.few; len_is = no_length v n.few };
      few = rw n.parts.kind_is n.few;
    }
  where
    none : (v : Value) → code_of (kind_in v) < 3 → 0 ≡ start_of v
    none (Is.Bool b) h = refl
    none (Is.Int z) h = refl
    none (Is.Float x) h = refl
    none (Is.List o s m) h = absurd (omega (arith, h))
    none Is.Void h = refl

    no_length : (v : Value) → code_of (kind_in v) < 3 → 0 ≡ len_of v
    no_length (Is.Bool b) h = refl
    no_length (Is.Int z) h = refl
    no_length (Is.Float x) h = refl
    no_length (Is.List o s m) h = absurd (omega (arith, h))
    no_length Is.Void h = refl

-- a value without its origin set
abbrev bare : Val → Val
bare (bool b) = bool b
bare (int z) = int z
bare (float x) = float x
bare (list o es) = list 0 es
bare void = void

bare_number : (k : Kind) (z : ℤ) (x : Float) → bare (number_of k z x) ≡ number_of k z x
bare_number K.Bool z x = refl
bare_number K.Int z x = refl
bare_number K.Float z x = refl
bare_number K.List z x = refl
bare_number K.Void z x = refl

bare_value : (is : List ℕ) (vs : List ℤ) (v : Value) → code_of (kind_in v) < 3 → bare (val_of is vs v) ≡ val_of is vs v
bare_value is vs (Is.Bool b) h = refl
bare_value is vs (Is.Int z) h = refl
bare_value is vs (Is.Float x) h = refl
bare_value is vs (Is.List o s m) h = absurd (omega (arith, h))
bare_value is vs Is.Void h = refl

-- a reading that takes a Bool as the Int that it stands for reads a number's parts as the number
module _ {X : Type 0} (f : Val → X) (bools : (b : Bool) → f (int (bit_z b)) ≡ f (bool b)) (is : List ℕ) (vs : List ℤ) where
  pub of_number : (v : Value) {p : NumberParts} → Number v p → f (number_in p) ≡ f (val_of is vs v)
  of_number v {p} n =
      sym (ap f (bare_number p.kind p.whole p.real))
      ∙ in_parts (λ (w : Val). f (bare w)) bools (λ o es. refl) is vs v (value_parts v p n)
      ∙ ap f (bare_value is vs v n.few)

-- what words of no value read as is a List
number_held : (v : Value) → code_of (kind_in v) < 3 → v ≡ unheld → ⊥
number_held v h e = let q : kind_in v ≡ K.List = ap kind_in e in let z = ap code_of q in omega (arith, h, z)

number : (ws : List ℕ) (k : ℕ) → code_of (kind_in (value_at ws k)) < 3 → Number (value_at ws k) (number_at ws k)
number ws k h = record { parts = word_parts (get_or ws (3 * k + 1) 0) (get_or ws (3 * k) 0) (get_or ws (3 * k + 2) 0) (number_held (value_at ws k) h); few = h }

-- ---- what is answered

-- of a number's kinds the last
float_left : (k : Kind) → code_of k < 3 → (k ≡ K.Float) ⊎ ((k ≡ K.List) ⊎ (k ≡ K.Void)) → k ≡ K.Float
float_left k h (inl e) = e
float_left k h (inr (inl e)) = absurd (omega (arith, h, ap code_of e))
float_left k h (inr (inr e)) = absurd (omega (arith, h, ap code_of e))

module _ (u : ListDefinitions) (o : ℕ) (is : List ℕ) (vs : List ℤ) (ws : List ℕ) (k : Kind) where
  pub test_one : OfNumbers ws o 1 k → k ≡ K.Bool → placed (compute u o (take 1 (vals_at is vs ws)) k) ≡ gives (Is.Bool (not (truthy (number_in (number_at ws 0)))))
  unfolding compute
  test_one m e = rw e (ap (λ (t : Bool). gives (Is.Bool (not t))) (sym (of_number truthy bit_truth is vs (value_at ws 0) (number ws 0 m.left))))

  pub whole_one : OfNumbers ws o 1 k → k ≡ K.Int → placed (compute u o (take 1 (vals_at is vs ws)) k) ≡ gives (Is.Int (whole_unary o (number_in (number_at ws 0))))
  unfolding compute
  whole_one m e = rw e (ap (λ (z : ℤ). gives (Is.Int z)) (sym (of_number (whole_unary o) (whole_bool o) is vs (value_at ws 0) (number ws 0 m.left))))

  pub real_one : OfNumbers ws o 1 k → (k ≡ K.Float) ⊎ ((k ≡ K.List) ⊎ (k ≡ K.Void))
      → placed (compute u o (take 1 (vals_at is vs ws)) k) ≡ gives (Is.Float (real_unary o (number_in (number_at ws 0))))
  unfolding compute
  real_one m e =
      rw (float_left k m.small e) (ap (λ (x : Float). gives (Is.Float x)) (sym (of_number (real_unary o) (real_bool o) is vs (value_at ws 0) (number ws 0 m.left))))

  pub test_both : OfNumbers ws o 2 k → k ≡ K.Bool
      → placed (compute u o (take 2 (vals_at is vs ws)) k) ≡ gives (Is.Bool (test_two o (number_in (number_at ws 0)) (number_in (number_at ws 1))))
  unfolding compute
  test_both m e =
      let a = number_at ws 0 in
      let b = number_at ws 1 in
      rw e
      (ap (λ (t : Bool). gives (Is.Bool t))
      (sym
      (test_numbers_lem is vs o (value_at ws 0) (value_at ws 1) (value_parts (value_at ws 0) a (number ws 0 m.left)) (value_parts (value_at ws 1) b (number ws 1 (m.right refl))))))

  pub whole_both : OfNumbers ws o 2 k → k ≡ K.Int
      → placed (compute u o (take 2 (vals_at is vs ws)) k) ≡ placed (of_int (arith_z o (as_int (number_in (number_at ws 0))) (as_int (number_in (number_at ws 1)))))
  unfolding compute
  whole_both m e =
      rw e
      (sym
      (ap2 (λ (x y : ℤ). placed (of_int (arith_z o x y)))
      (of_number as_int (λ b. refl) is vs (value_at ws 0) (number ws 0 m.left))
      (of_number as_int (λ b. refl) is vs (value_at ws 1) (number ws 1 (m.right refl)))))

  pub real_both : OfNumbers ws o 2 k → (k ≡ K.Float) ⊎ ((k ≡ K.List) ⊎ (k ≡ K.Void))
      → placed (compute u o (take 2 (vals_at is vs ws)) k) ≡ gives (Is.Float (arith_f o (as_float (number_in (number_at ws 0))) (as_float (number_in (number_at ws 1)))))
  unfolding compute
  real_both m e =
      rw (float_left k m.small e)
      (sym
      (ap2 (λ (x y : Float). gives (Is.Float (arith_f o x y)))
      (of_number as_float (λ b. refl) is vs (value_at ws 0) (number ws 0 m.left))
      (of_number as_float (λ b. refl) is vs (value_at ws 1) (number ws 1 (m.right refl)))))
