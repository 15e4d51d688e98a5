-- The kind of a number in parts. Assumes nothing.
use mathlib.Core.Path.{◌≡◌, refl, sym, ◌∙◌}
use mathlib.Core.Bool.{Bool, true, false, ◌||◌}
use Prim.Native.Nat.{ℕ}
use lib.Dec.{eqb}
use lib.IntN.{ℤ}
use lib.Ieee.{Float}
use Rattle.slices.proofs.Every.{not_both}
use Rattle.ink_value.specs.Val.{kind_of, code_of}
use Rattle.ink_value.specs.Value.{number_of}
use Rattle.ink_value.specs.Held.{number_in}
use Rattle.ink_value.specs.Convert.{as_int}
use Rattle.ink_value.specs.declared.Kind.{Kind}
use Rattle.ink_value.specs.declared.Kind.TheVariants as K
use Rattle.ink_value.specs.declared.number_parts.NumberParts.{NumberParts}
use Rattle.number_operators.specs.Numbers.{test_two, test_z}

whole : (k : Kind) (z : ℤ) (x : Float) → eqb (code_of k) 2 ≡ false → kind_of (number_of k z x) ≡ K.Int
whole K.Bool z x e = refl
whole K.Int z x e = refl
whole K.Float z x e = absurd (not_both (sym e))
whole K.List z x e = refl
whole K.Void z x e = refl

none : (s t : Bool) → s || t ≡ false → (s ≡ false) × (t ≡ false)
none true t e = absurd (not_both (sym e))
none false t e = (refl, e)

-- where neither is a Float, two numbers are tested as Ints
pub test_ints : (o : ℕ) (a b : NumberParts) (t : Bool) → t ≡ (eqb (code_of a.kind) 2 || eqb (code_of b.kind) 2) → t ≡ false
    → test_two o (number_in a) (number_in b) ≡ test_z o (as_int (number_in a)) (as_int (number_in b))
test_ints o a b t e f = let n = none (eqb (code_of a.kind) 2) (eqb (code_of b.kind) 2) (sym e ∙ f) in rw (whole a.kind a.whole a.real n.0, whole b.kind b.whole b.real n.1) refl
