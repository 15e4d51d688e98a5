-- `list_definitions::invert` meets its contract: what is left to store are the items from `low` on that a has not, in the definitions from
-- place end-index on, whose set is s. Assumes nothing.
use Rattle.std.proofs.Common.{◌≡◌, ℕ, ◌≤◌, length, drop}
use Rattle.ink_list.specs.Entries.{Ascends, item_numbers, member}
use Rattle.ink_list.specs.Lists.{Same}
use Rattle.ink_list.proofs.Output.{Writing}
use Rattle.list_definitions.specs.Defs.{Ends, unheld, invert}
use Rattle.list_definitions.proofs.DefLaws.{onward}
use Rattle.list_definitions.proofs.invert.Given as goal

abbrev pub invariant-loop-end : goal.invariant-loop-end
invariant-loop-end l = record {
  ascends : Ascends 0 item_numbers l.left;
  agrees : (j : ℕ) → l.low ≤ j → member l.left j ≡ member l.a j;
  numbered : Ends l.low (length l.definitions.defined.now) (drop l.end-index l.definitions.ends.now);
  same : Same l.initial.out l.out;
  writing : Writing 0 (invert l.definitions.ends.now l.definitions.defined.now l.set l.a) l.n
      (onward l.low (length l.definitions.defined.now) (unheld (drop l.end-index l.definitions.ends.now) l.definitions.defined.now l.s l.a))
      l.initial.out.items.now l.out.items.now l.initial.out.values.now l.out.values.now;
}
