-- Operands in words whose entries stand in slices. Assumes nothing.
use Rattle.std.specs.Prelude.{List, ℕ}
use Rattle.ink_list.specs.declared.lists.Lists.{Lists}
use Rattle.ink_value.specs.Held.{OperandsFormed}
use Rattle.words_in.specs.Words.{operands_at}

-- the first n operands stand in the slices
abbrev pub FirstIn : ℕ → Lists → ℕ → List ℕ → Type 0
FirstIn limit lists n ws = OperandsFormed limit lists (operands_at n ws)
