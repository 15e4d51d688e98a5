-- Question 7 of a direct call: of its operands, and of its result slices. Assumes nothing.
use Rattle.std.specs.Prelude.{Bool, List, [], ◌∷◌, ℕ, leb, ℤ, length, take}
use Rattle.slices.specs.Every.{◌and◌}
use Rattle.ink_list.specs.declared.lists.Lists.{Lists}
use Rattle.ink_list.specs.declared.well_formed.Counts.{Counts}
use Rattle.list_definitions.specs.Defs.{ListDefinitions}
use Rattle.ink_value.specs.Value.{all_formed}
use Rattle.ink_value.specs.declared.Value.{Value}
use Rattle.ink_value.specs.declared.operands.Operands.{Operands}
use Rattle.pack.specs.declared.sound.SoundPack.{SoundPack}
use Rattle.pack.specs.Bodies.{decoded}
use Rattle.pack.specs.Read.{definitions_of}

-- 7, of operands: their lists are formed as literals of a pack with these definitions
abbrev pub operands_ok : ListDefinitions → List ℕ → List ℤ → List Value → Bool
operands_ok u is vs l = all_formed (length u.defined) (length u.ends) is vs l

-- 7, of result slices: "result slices at least 256 entries"
abbrev pub results_ok : ListDefinitions → List ℕ → List ℤ → Bool
results_ok u oi ov = leb u.limit (length oi) and leb u.limit (length ov)

-- ---- of operands, and of lists as they were lent

-- the operands that are used
abbrev pub used_of : Operands → List Value
used_of o = take o.count (o.first ∷ o.second ∷ o.third ∷ [])

-- 7, of values: their lists are formed as literals of a pack with so many items and definitions
abbrev pub formed_in : Counts → Lists → List Value → Bool
formed_in counts lists = all_formed counts.items counts.definitions lists.items.now lists.values.now

-- 7, of operands, and of result slices of these lengths: "result slices at least 256 entries"
abbrev pub lent_well : Counts → Lists → List Value → ℕ → ℕ → ℕ → Bool
lent_well counts lists l limit m n = formed_in counts lists l and (leb limit m and leb limit n)

-- the definitions of a pack that passed
abbrev pub pack_definitions : SoundPack → ListDefinitions
pack_definitions pack = definitions_of (decoded pack.format pack.bytes.now) pack.format

-- 7, of one operand, with a pack that passed
abbrev pub operand_ok : SoundPack → Lists → Value → Bool
operand_ok pack lists v = operands_ok (pack_definitions pack) lists.items.now lists.values.now (v ∷ [])
