-- `list_definitions::push_missing` meets its contract: what is left to store are the items from k on that a has not, and those are the
-- ones that what is left of a has not. Assumes nothing.
use Rattle.std.proofs.Common.{◌≡◌, ℕ, ◌-◌, ◌≤◌}
use Rattle.ink_list.specs.Entries.{Ascends, item_numbers, gather_from, member}
use Rattle.ink_list.specs.Lists.{Same}
use Rattle.ink_list.proofs.Output.{Writing}
use Rattle.list_definitions.specs.Defs.{missing}
use Rattle.list_definitions.proofs.DefLaws.{onward}
use Rattle.list_definitions.proofs.push_missing.Given as goal

abbrev pub invariant-loop-k : goal.invariant-loop-k
invariant-loop-k l = record {
  ascends : Ascends 0 item_numbers l.left;
  agrees : (j : ℕ) → l.k ≤ j → member l.left j ≡ member l.a j;
  same : Same l.initial.out l.out;
  writing : Writing l.at (gather_from l.first (l.end - l.first) (missing l.defined l.a)) l.n (onward l.k l.end (missing l.defined l.a))
      l.initial.out.items.now l.out.items.now l.initial.out.values.now l.out.values.now;
}
