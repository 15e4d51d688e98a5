-- The text of values and refusals. Assumes nothing.
use Rattle.std.specs.Prelude.{List, ◌++◌, ℕ, ℤ, ◌^◌, ◌-◌, cond, false, [], codes, decimal, take}
use Rattle.std.specs.Fmt.{signed_decimal, digits, padded_integral, format_spec}
use Rattle.std.specs.List.{flat_map, zip}
use Rattle.binary32.specs.Real.{to_bits32}
use Rattle.ink_value.specs.declared.Value.{Value}
use Rattle.ink_value.specs.declared.Value.TheVariants as Is

-- an item and its value
abbrev pub entry : ℕ × ℤ → List ℕ
entry e = codes " " ++ (decimal e.0 ++ (codes "=" ++ signed_decimal e.1))

-- items, each with its value
abbrev pub entries : List ℕ → List ℤ → List ℕ
entries is vs = flat_map entry (zip is vs)

-- eight hexadecimal digits
abbrev pub pattern : ℕ → List ℕ
pattern n = padded_integral (format_spec 32 0 4 8 (2 ^ 64 - 1)) false [] (digits 16 false n)

-- a value, whose entries, if it has some, are the first of two slices
abbrev pub shown : Value → List ℕ → List ℤ → List ℕ
shown (Is.Bool b) is vs = codes " B " ++ decimal (cond b 1 0)
shown (Is.Int z) is vs = codes " I " ++ signed_decimal z
shown (Is.Float x) is vs = codes " F " ++ pattern (to_bits32 x)
shown (Is.List o s n) is vs = codes " L " ++ (decimal n ++ entries (take n is) vs)
shown Is.Void is vs = codes " V"

-- the number of the question that said no
abbrev pub refused : ℕ → List ℕ
refused n = codes " R " ++ decimal n
