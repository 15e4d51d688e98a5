-- `list_increment::increment` meets its contract: what is left to store are the targets from the first item of the definition at place
-- end-index on, those of the entries that are left. Assumes nothing.
use Rattle.std.proofs.Common.{◌≤◌, length, drop}
use Rattle.ink_list.specs.Entries.{item_numbers, entries, RisingFrom}
use Rattle.ink_list.specs.Lists.{Same}
use Rattle.ink_list.proofs.Output.{Writing}
use Rattle.list_definitions.specs.Defs.{Ends, retarget}
use Rattle.list_definitions.specs.Search.{raised}
use Rattle.list_definitions.proofs.DefLaws.{onward}
use Rattle.list_definitions.proofs.TargetLaws.{target_from}
use Rattle.list_increment.proofs.increment.Given as goal

abbrev pub invariant-loop-end : goal.invariant-loop-end
invariant-loop-end l = record {
  few : l.n ≤ l.low;
  numbered : Ends l.low (length l.definitions.defined.now) (drop l.end-index l.definitions.ends.now);
  rising : RisingFrom l.low item_numbers (entries l.left.items.now (raised l.by l.left.values.now));
  same : Same l.initial.out l.out;
  writing : Writing 0 (retarget l.definitions.ends.now l.definitions.defined.now l.set (entries l.a.items.now (raised l.by l.a.values.now))) l.n
      (onward l.low (length l.definitions.defined.now)
      (target_from l.low (drop l.end-index l.definitions.ends.now) l.definitions.defined.now l.s (entries l.left.items.now (raised l.by l.left.values.now))))
      l.initial.out.items.now l.out.items.now l.initial.out.values.now l.out.values.now;
}
