-- The words of the contracts for lent lists, and for the two slices that entries are written into: as they were and as they are.
use Rattle.std.specs.Prelude.{◌≡◌, List, ℕ}
use Rattle.ink_list.specs.declared.entries.Entries.{Entries}
use Rattle.ink_list.specs.declared.entries_mut.EntriesMut.{EntriesMut}
use Rattle.ink_list.specs.Entries.{Entry, entries, room, Stored, Wrote}

-- a lent list's entries
abbrev pub list_of : Entries → List Entry
list_of a = entries a.items.now a.values.now

-- how many entries there are places for
abbrev pub places : EntriesMut → ℕ
places out = room out.items.now out.values.now

-- they are the same two slices still
abbrev pub Same : EntriesMut → EntriesMut → Type 0
Same before after = (after.items.ghost_name ≡ before.items.ghost_name) × (after.values.ghost_name ≡ before.values.ghost_name)

-- the answer's count is returned, and its entries are written from the start of the slices, which are else as they were
abbrev pub Fills : List Entry → ℕ → EntriesMut → EntriesMut → Type 0
Fills answer count before after =
    Wrote answer count before.items.now after.items.now before.values.now after.values.now × Same before after

-- entries are written from place `at` on, and the next place is returned
abbrev pub AppendsTo : ℕ → List Entry → ℕ → EntriesMut → EntriesMut → Type 0
AppendsTo at es next before after =
    Stored at es next before.items.now after.items.now before.values.now after.values.now × Same before after
