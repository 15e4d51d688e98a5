-- Values and their kinds. Assumes nothing.
use Rattle.std.specs.Prelude.{Bool, true, false, cond, List, ℕ, eqb, ℤ, Float}
use Rattle.ink_list.specs.Entries.{Entry}
use Rattle.ink_value.specs.declared.Kind.{Kind}
use Rattle.ink_value.specs.declared.Kind.TheVariants as K

-- a List has its origin set and its entries
pub data Val : Type 0 where
  bool : Bool → Val
  int : ℤ → Val
  float : Float → Val
  list : ℕ → List Entry → Val
  void : Val

abbrev pub kind_of : Val → Kind
kind_of (bool b) = K.Bool
kind_of (int z) = K.Int
kind_of (float x) = K.Float
kind_of (list o es) = K.List
kind_of void = K.Void

abbrev pub is_list : Kind → Bool
is_list K.Bool = false
is_list K.Int = false
is_list K.Float = false
is_list K.List = true
is_list K.Void = false

-- "Kind codes: 0 Bool, 1 Int, 2 Float, 3 List, 4 Void."
abbrev pub code_of : Kind → ℕ
code_of K.Bool = 0
code_of K.Int = 1
code_of K.Float = 2
code_of K.List = 3
code_of K.Void = 4

abbrev pub kind_at : ℕ → Kind
kind_at c =
    cond (eqb c (code_of K.Bool)) K.Bool
    (cond (eqb c (code_of K.Int)) K.Int
    (cond (eqb c (code_of K.Float)) K.Float
    (cond (eqb c (code_of K.List)) K.List K.Void)))
