-- A value's words read back as the value. Assumes nothing.
use mathlib.Core.Path.{◌≡◌, refl, ap, ◌∙◌}
use mathlib.Core.Bool.{true, false}
use Prim.Native.Nat.{ℕ, ◌+◌, ◌*◌, ◌/◌, ◌%◌, ◌^◌, ◌<◌}
use native.Mathlib.Omega.{arith}
use lib.Dec.{T}
use lib.Ieee.{Float, binary32, fits}
use lib.Ieee.Bits.{to_bits-lt, of_bits-to_bits}
use lib.IntN.{ℤ}
use borrow.Author.Tests.{lt-ltb}
use mir.Syntax.{w32}
use mir.Val.{SFits}
use Rattle.ink_number.specs.Int.{residue, wrap}
use Rattle.binary32.specs.Real.{to_bits32}
use Rattle.ink_number.proofs.Residue.{residue_lt}
use Rattle.ink_number.proofs.Wrap.{wrap_in}
use Rattle.ink_value.specs.declared.Value.{Value}
use Rattle.ink_value.specs.declared.Value.TheVariants as Is
use Rattle.words_in.specs.Words.{bool_at, int_at, float_at, void_at, plain_at, value_of, value_at}
use Rattle.words_out.specs.Words.{words_of}

-- an Int is an i32, a Float a binary32, and a List's start and length have room in one word
abbrev pub Held : Value → Type 0
Held (Is.Bool b) = Unit {0}
Held (Is.Int z) = SFits w32 z
Held (Is.Float x) = T (fits binary32 x)
Held (Is.List o s n) = (s < 2 ^ 32) × (n < 2 ^ 32)
Held Is.Void = Unit {0}

low : (s n : ℕ) → s < 2 ^ 32 → (s + 2 ^ 32 * n) % 2 ^ 32 ≡ s
low s n h = omega arith

high : (s n : ℕ) → s < 2 ^ 32 → (s + 2 ^ 32 * n) / 2 ^ 32 ≡ n
high s n h = omega arith

pub reads_back : (v : Value) → Held v → value_at (words_of v) 0 ≡ v
unfolding value_of plain_at bool_at int_at float_at void_at wrap
reads_back (Is.Bool true) h = refl
reads_back (Is.Bool false) h = refl
reads_back (Is.Int z) h = rw (lt-ltb (residue z) (2 ^ 32) (residue_lt z)) (ap (λ (y : ℤ). Is.Int y) (wrap_in z h))
reads_back (Is.Float x) h = rw (lt-ltb (to_bits32 x) (2 ^ 32) (to_bits-lt binary32 x h)) (ap (λ (y : Float). Is.Float y) (of_bits-to_bits binary32 x h))
reads_back (Is.List o s n) h = ap (λ (k : ℕ). Is.List o k ((s + 2 ^ 32 * n) / 2 ^ 32)) (low s n h.0) ∙ ap (Is.List o s) (high s n h.0)
reads_back Is.Void h = refl
