-- A value written as three words. Assumes nothing.
use Rattle.std.specs.Prelude.{List, [], ◌∷◌, ℕ, ◌+◌, ◌*◌, ◌^◌, ◌<◌}
use Rattle.ink_number.specs.Int.{residue, bit_of}
use Rattle.binary32.specs.Real.{to_bits32}
use Rattle.ink_value.specs.Val.{code_of}
use Rattle.ink_value.specs.declared.Kind.TheVariants as K
use Rattle.ink_value.specs.declared.Value.{Value}
use Rattle.ink_value.specs.declared.Value.TheVariants as Is

abbrev pub words_of : Value → List ℕ
words_of (Is.Bool b) = code_of K.Bool ∷ bit_of b ∷ 0 ∷ []
words_of (Is.Int z) = code_of K.Int ∷ residue z ∷ 0 ∷ []
words_of (Is.Float x) = code_of K.Float ∷ to_bits32 x ∷ 0 ∷ []
words_of (Is.List o s n) = code_of K.List ∷ o ∷ (s + 2 ^ 32 * n) ∷ []
words_of Is.Void = code_of K.Void ∷ 0 ∷ 0 ∷ []

-- a List's start and length have room in one word
abbrev pub Small : Value → Type 0
Small (Is.Bool b) = Unit {0}
Small (Is.Int z) = Unit {0}
Small (Is.Float x) = Unit {0}
Small (Is.List o s n) = (s < 2 ^ 32) × (n < 2 ^ 32)
Small Is.Void = Unit {0}
