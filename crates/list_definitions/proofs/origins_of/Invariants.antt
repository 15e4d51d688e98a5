-- `list_definitions::origins_of` meets its contract: the bits of the definitions before d are set, and those from d on are the origins of
-- the items that are left. Assumes nothing.
use Rattle.std.proofs.Common.{◌≡◌, ◌+◌, ◌*◌, ◌^◌, ◌<◌, drop}
use Rattle.ink_list.specs.Entries.{Ascends, item_numbers}
use Rattle.list_definitions.specs.Defs.{origins_of}
use Rattle.list_definitions.proofs.origins_of.Given as goal

abbrev pub invariant-loop-d : goal.invariant-loop-d
invariant-loop-d l = record {
  ascends : Ascends 0 item_numbers l.left;
  below : l.set < 2 ^ l.d;
  whole : origins_of l.ends l.a ≡ l.set + 2 ^ l.d * origins_of (drop l.d l.ends) l.left;
}
