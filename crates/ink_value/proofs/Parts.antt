-- A value in parts reads as the value: its kind, the number that it holds, and where its entries stand. Assumes nothing.
use mathlib.Core.Path.{◌≡◌, refl, ap, ◌∙◌}
use mathlib.Core.Bool.{Bool}
use mathlib.Core.List.{List}
use Prim.Native.Nat.{ℕ, ◌<◌}
use native.Mathlib.Omega.{arith}
use lib.IntN.{ℤ}
use lib.Ieee.{Float}
use Rattle.ink_list.specs.Entries.{Entry}
use Rattle.ink_value.specs.Convert.{bit_z}
use Rattle.ink_value.specs.Value.{kind_in, start_of, len_of, val_of, entries_at, number_of, of_parts}
use Rattle.ink_value.specs.Val.{Val, bool, int, list, code_of}
use Rattle.ink_value.specs.declared.Kind.{Kind}
use Rattle.ink_value.specs.declared.Kind.TheVariants as K
use Rattle.ink_value.specs.declared.Value.{Value}
use Rattle.ink_value.specs.declared.Value.TheVariants as Is

-- the number that a value holds is z or x, by its kind
abbrev pub Holds : Value → ℤ → Float → Type 0
Holds (Is.Bool b) z x = z ≡ bit_z b
Holds (Is.Int y) z x = z ≡ y
Holds (Is.Float y) z x = x ≡ y
Holds (Is.List o s n) z x = Unit {0}
Holds Is.Void z x = Unit {0}

-- the parts are this value's: its kind is k, and its entries are n from s on
pub record Parts (v : Value) (k : Kind) (z : ℤ) (x : Float) (s n : ℕ) : Type 0 where
  pub kind_is : k ≡ kind_in v
  pub holds : Holds v z x
  pub start_is : s ≡ start_of v
  pub len_is : n ≡ len_of v

-- a number's: it has no entries
pub record Number (v : Value) (k : Kind) (z : ℤ) (x : Float) : Type 0 where
  pub parts : Parts v k z x 0 0
  pub few : code_of k < 3

-- a number in parts, wherever entries would stand
number_parts : (is : List ℕ) (vs : List ℤ) (k : Kind) (z : ℤ) (x : Float) → code_of k < 3 → number_of k z x ≡ of_parts is vs k z x 0 0
number_parts is vs K.Bool z x h = refl
number_parts is vs K.Int z x h = refl
number_parts is vs K.Float z x h = refl
number_parts is vs K.List z x h = absurd (omega (arith, h))
number_parts is vs K.Void z x h = absurd (omega (arith, h))

-- a reading that takes a Bool as the Int that it stands for, and looks at no origin set
module _ {X : Type 0} (f : Val → X) (bools : (b : Bool) → f (int (bit_z b)) ≡ f (bool b)) (sets : (o : ℕ) (es : List Entry) → f (list 0 es) ≡ f (list o es)) where
  -- reads a value's parts as the value
  pub of_parts_lem : (is : List ℕ) (vs : List ℤ) (v : Value) {k : Kind} {z : ℤ} {x : Float} {s n : ℕ} → Parts v k z x s n
      → f (of_parts is vs k z x s n) ≡ f (val_of is vs v)
  of_parts_lem is vs (Is.Bool b) p = rw (p.kind_is, p.holds) (bools b)
  of_parts_lem is vs (Is.Int y) p = rw (p.kind_is, p.holds)
  of_parts_lem is vs (Is.Float y) p = rw (p.kind_is, p.holds)
  of_parts_lem is vs (Is.List o s n) p = rw (p.kind_is, p.start_is, p.len_is) (sets o (entries_at is vs s n))
  of_parts_lem is vs Is.Void p = rw p.kind_is

  -- and a number's
  pub of_number : (is : List ℕ) (vs : List ℤ) (v : Value) {k : Kind} {z : ℤ} {x : Float} → Number v k z x → f (number_of k z x) ≡ f (val_of is vs v)
  of_number is vs v {k} {z} {x} n = ap f (number_parts is vs k z x n.few) ∙ of_parts_lem is vs v n.parts
