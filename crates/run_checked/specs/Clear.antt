-- The work slices cleared after a run. Assumes nothing.
-- For inner steps alone: no entry point's contract cites it.
use Rattle.std.specs.Prelude.{◌≡◌, List, ℕ, zero, suc, pos, get_or, replicate}
use Rattle.slices.specs.Filled.{fill}
use Rattle.slices.specs.Slices.{Slice}
use Rattle.ink_list.specs.Lists.{Same}
use Rattle.ink_list.specs.declared.entries_mut.EntriesMut.{EntriesMut}
use Rattle.operating.specs.Stacked.{start_at}
use Rattle.pack.specs.declared.format.Format.{Format}
use Rattle.machine.specs.Machine.{stack_limit}

-- n entries from a place on are zero in two slices, which are else as they were
abbrev pub Zeroed : ℕ → ℕ → EntriesMut → EntriesMut → Type 0
Zeroed from n before after =
    (after.items.now ≡ fill from (replicate n 0) before.items.now)
    × (after.values.now ≡ fill from (replicate n (pos 0)) before.values.now)
    × Same before after

-- what the places below n of the stack have used, cleared
unfoldable pub cleared : {X : Type 0} → Format → X → List ℕ → ℕ → List X → List X
cleared F d used zero l = l
cleared F d used (suc n) l = fill (start_at F n) (replicate (get_or used n 0) d) (cleared F d used n l)

-- the places of the work slices that `used` has are zero
abbrev pub ClearedIn : Format → Slice ℕ → EntriesMut → EntriesMut → Type 0
ClearedIn F used before after =
    (after.items.now ≡ cleared F 0 used.entry.now stack_limit before.items.now)
    × (after.values.now ≡ cleared F (pos 0) used.entry.now stack_limit before.values.now)
    × Same before after
