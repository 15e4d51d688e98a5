-- The words of the contract of reading the tables, of slices as they were at entry and are at exit. Assumes nothing.
use Rattle.std.specs.Prelude.{ℕ, ℤ}
use Rattle.ink_number.specs.Answer.{gives, ask}
use Rattle.slices.specs.Slices.{Slice, MutSlice}
use Rattle.pack.specs.Bodies.{decoded}
use Rattle.pack.specs.declared.format.Format.{Format}
use Rattle.definition_tables.specs.Tables.{Reads, tables_long}

-- the definitions of a pack that passed are read: question 7 of the slices, and what is left in them
abbrev pub ReadsAny : Format → Slice ℕ → ℕ → MutSlice ℕ → MutSlice ℤ → MutSlice ℕ → Type 0
ReadsAny F pack n ends defined counts =
    Reads (ask 7 (tables_long F ends.entry.now defined.entry.now) (gives (decoded F pack.entry.now))) n
    ends.entry.now ends.exit.now defined.entry.now defined.exit.now counts.entry.now counts.exit.now
