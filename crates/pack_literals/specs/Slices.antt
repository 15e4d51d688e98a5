-- The words of the contracts for two slices that a literal's entries are read into, as they were and as they are. Assumes nothing.
-- For inner steps alone: no entry point's contract cites it.
use Rattle.std.specs.Prelude.{◌≡◌, List, ℕ, ℤ}
use Rattle.ink_list.specs.declared.entries_mut.EntriesMut.{EntriesMut}
use Rattle.ink_list.specs.Entries.{Entry}
use Rattle.ink_list.specs.Lists.{Same}
use Rattle.slices.specs.Every.{table}
use Rattle.slices.specs.Filled.{fill}
use Rattle.slices.specs.Slices.{Slice}
use Rattle.pack.specs.Read.{item_from, value_from, EntriesRead}

-- the items and the values of n entries, which stand from `at` on in a pack, are written from a place on of two slices
abbrev pub CopiesInto : ℕ → ℕ → Slice ℕ → ℕ → ℕ → List ℕ → List ℕ → List ℤ → List ℤ → Type 0
CopiesInto wide n p at from is after_is vs after_vs =
    (after_is ≡ fill from (table n (item_from wide p.entry.now at)) is) × (after_vs ≡ fill from (table n (value_from wide p.entry.now at)) vs)

-- the same of two slices side by side
abbrev pub Copies : ℕ → ℕ → Slice ℕ → ℕ → ℕ → EntriesMut → EntriesMut → Type 0
Copies wide n p at from before after =
    CopiesInto wide n p at from before.items.now after.items.now before.values.now after.values.now × Same before after

-- entries are written from a place on of two slices, and how many there are is returned
abbrev pub EntriesReadIn : List Entry → ℕ → ℕ → EntriesMut → EntriesMut → Type 0
EntriesReadIn es from count before after =
    EntriesRead es from count before.items.now after.items.now before.values.now after.values.now × Same before after
