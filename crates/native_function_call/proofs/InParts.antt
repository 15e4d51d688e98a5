-- What the operators read of numbers in parts is what they read of the values. Assumes nothing.
use mathlib.Core.Path.{◌≡◌, refl, ◌∙◌}
use mathlib.Core.Bool.{Bool, true, false}
use mathlib.Core.List.{List, [], ◌∷◌}
use Prim.Native.Nat.{ℕ}
use lib.IntN.{ℤ}
use lib.Ieee.{Float}
use Rattle.ink_list.specs.Entries.{Entry}
use Rattle.ink_number.specs.Int.{truthy_z}
use Rattle.ink_value.specs.Val.{Val, bool, int, float, list, void, kind_of}
use Rattle.ink_value.specs.declared.Kind.{Kind}
use Rattle.ink_value.specs.declared.Kind.TheVariants as K
use Rattle.ink_value.specs.Convert.{bit_z, as_int, as_float, truthy}
use Rattle.ink_value.specs.Value.{val_of, number_of}
use Rattle.ink_value.specs.declared.Value.{Value}
use Rattle.ink_value.proofs.Parts.{Number, of_number}
use Rattle.operator_kinds.specs.Kinds.{common}
use Rattle.number_operators.specs.Numbers.{test_numbers, whole_unary, real_unary}
use Rattle.native_function_call.specs.Apply.{test_lists, test}

-- ---- a Bool is read as the Int that it stands for, and no origin set is read

-- a Bool is truthy as that Int is
pub bit_truth : (b : Bool) → truthy_z (bit_z b) ≡ b
bit_truth true = refl
bit_truth false = refl

pub first_bool : (o : ℕ) (w : Val) (b : Bool) → test o (int (bit_z b) ∷ w ∷ []) ≡ test o (bool b ∷ w ∷ [])
unfolding test_lists
first_bool o (bool c) b = refl
first_bool o (int z) b = refl
first_bool o (float x) b = refl
first_bool o (list s es) true = refl
first_bool o (list s es) false = refl
first_bool o void b = refl

pub second_bool : (o : ℕ) (w : Val) (b : Bool) → test o (w ∷ int (bit_z b) ∷ []) ≡ test o (w ∷ bool b ∷ [])
unfolding test_lists
second_bool o (bool c) b = refl
second_bool o (int z) b = refl
second_bool o (float x) b = refl
second_bool o (list s es) true = refl
second_bool o (list s es) false = refl
second_bool o void b = refl

pub first_set : (o : ℕ) (w : Val) (s : ℕ) (es : List Entry) → test o (list 0 es ∷ w ∷ []) ≡ test o (list s es ∷ w ∷ [])
unfolding test_lists
first_set o (bool c) s es = refl
first_set o (int z) s es = refl
first_set o (float x) s es = refl
first_set o (list t fs) s es = refl
first_set o void s es = refl

pub second_set : (o : ℕ) (w : Val) (s : ℕ) (es : List Entry) → test o (w ∷ list 0 es ∷ []) ≡ test o (w ∷ list s es ∷ [])
unfolding test_lists
second_set o (bool c) s es = refl
second_set o (int z) s es = refl
second_set o (float x) s es = refl
second_set o (list t fs) s es = refl
second_set o void s es = refl

pub whole_bool : (o : ℕ) (b : Bool) → whole_unary o (int (bit_z b)) ≡ whole_unary o (bool b)
unfolding whole_unary
whole_bool o true = refl
whole_bool o false = refl

pub whole_set : (o : ℕ) (s : ℕ) (es : List Entry) → whole_unary o (list 0 es) ≡ whole_unary o (list s es)
unfolding whole_unary
whole_set o s es = refl

pub real_bool : (o : ℕ) (b : Bool) → real_unary o (int (bit_z b)) ≡ real_unary o (bool b)
unfolding real_unary
real_bool o b = refl

pub real_set : (o : ℕ) (s : ℕ) (es : List Entry) → real_unary o (list 0 es) ≡ real_unary o (list s es)
unfolding real_unary
real_set o s es = refl

-- ---- one or two numbers in parts

module _ (is : List ℕ) (vs : List ℤ) (a : Value) {k : Kind} {z : ℤ} {x : Float} (n : Number a k z x) where
  pub truth_number : truthy (number_of k z x) ≡ truthy (val_of is vs a)
  truth_number = of_number truthy bit_truth (λ o es. refl) is vs a n

  pub int_number : as_int (number_of k z x) ≡ as_int (val_of is vs a)
  int_number = of_number as_int (λ b. refl) (λ o es. refl) is vs a n

  pub float_number : as_float (number_of k z x) ≡ as_float (val_of is vs a)
  float_number = of_number as_float (λ b. refl) (λ o es. refl) is vs a n

  pub whole_number : (o : ℕ) → whole_unary o (number_of k z x) ≡ whole_unary o (val_of is vs a)
  whole_number o = of_number (whole_unary o) (whole_bool o) (whole_set o) is vs a n

  pub real_number : (o : ℕ) → real_unary o (number_of k z x) ≡ real_unary o (val_of is vs a)
  real_number o = of_number (real_unary o) (real_bool o) (real_set o) is vs a n

-- parts read as an Int or as a Float, so a test of them is one of two numbers
test_parts : (o : ℕ) (k j : Kind) (z w : ℤ) (x y : Float)
    → test_numbers (common (kind_of (number_of k z x)) (kind_of (number_of j w y))) o (number_of k z x) (number_of j w y) ≡ test o (number_of k z x ∷ number_of j w y ∷ [])
test_parts o k j z w x y = go k j
  where
    left : (b : Val) (j : Kind) → kind_of b ≡ K.Int → test_numbers (common (kind_of b) (kind_of (number_of j w y))) o b (number_of j w y) ≡ test o (b ∷ number_of j w y ∷ [])
    left b K.Bool e = rw e refl
    left b K.Int e = rw e refl
    left b K.Float e = rw e refl
    left b K.List e = rw e refl
    left b K.Void e = rw e refl

    right : (j : Kind) → test_numbers (common K.Float (kind_of (number_of j w y))) o (float x) (number_of j w y) ≡ test o (float x ∷ number_of j w y ∷ [])
    right K.Bool = refl
    right K.Int = refl
    right K.Float = refl
    right K.List = refl
    right K.Void = refl

    go : (k j : Kind) → test_numbers (common (kind_of (number_of k z x)) (kind_of (number_of j w y))) o (number_of k z x) (number_of j w y) ≡ test o (number_of k z x ∷ number_of j w y ∷ [])
    go K.Bool j = left (int z) j refl
    go K.Int j = left (int z) j refl
    go K.Float j = right j
    go K.List j = left (int z) j refl
    go K.Void j = left (int z) j refl

-- a test of two numbers in parts is the test of the values
pub test_numbers_lem : (is : List ℕ) (vs : List ℤ) (o : ℕ) (a b : Value) {k : Kind} {z : ℤ} {x : Float} {j : Kind} {w : ℤ} {y : Float} → Number a k z x → Number b j w y
    → test_numbers (common (kind_of (number_of k z x)) (kind_of (number_of j w y))) o (number_of k z x) (number_of j w y) ≡ test o (val_of is vs a ∷ val_of is vs b ∷ [])
test_numbers_lem is vs o a b {k} {z} {x} {j} {w} {y} p q =
    test_parts o k j z w x y
    ∙ of_number (λ (v : Val). test o (v ∷ number_of j w y ∷ [])) (first_bool o (number_of j w y)) (first_set o (number_of j w y)) is vs a p
    ∙ of_number (λ (v : Val). test o (val_of is vs a ∷ v ∷ [])) (second_bool o (val_of is vs a)) (second_set o (val_of is vs a)) is vs b q
