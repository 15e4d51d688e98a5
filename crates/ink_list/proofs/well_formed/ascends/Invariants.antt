-- `ink_list::well_formed::ascends` meets its contract: from each place on, with `low` one past the last item, the test is that of the
-- whole. Assumes nothing.
use Rattle.std.proofs.Common.{◌≡◌, ◌≤◌, drop}
use Rattle.ink_list.specs.Entries.{ascends, item_numbers}
use Rattle.ink_list.proofs.well_formed.ascends.Given as goal

abbrev pub invariant-loop-item : goal.invariant-loop-item
invariant-loop-item l =
    (l.low ≤ item_numbers) × (ascends 0 l.limit l.items ≡ ascends l.low l.limit (drop l.item-index l.items))
