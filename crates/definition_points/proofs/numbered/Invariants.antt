-- `definition_points::numbered` meets its contract: where the ends from the cursor on number the items from `low` on, all of them number
-- the items. Assumes nothing.
use Rattle.std.proofs.Common.{ℕ, ◌<◌, drop}
use Rattle.ink_list.specs.Entries.{item_numbers}
use Rattle.list_definitions.specs.Defs.{Ends}
use Rattle.definition_points.proofs.numbered.Given as goal

abbrev pub invariant-loop-end : goal.invariant-loop-end
invariant-loop-end l = (l.low < item_numbers) × ((total : ℕ) → Ends l.low total (drop l.end-index l.tables.items.now) → Ends 0 total l.tables.items.now)
