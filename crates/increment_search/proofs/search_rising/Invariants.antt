-- `increment_search::search_rising` meets its contract: what is left to store are the definition's values from cursor k on that are
-- among the entries' from cursor i on. Assumes nothing.
use Rattle.std.proofs.Common.{◌≡◌, true, ◌+◌, ◌-◌, ◌≤◌, length, drop}
use Rattle.ink_list.specs.Lists.{Same}
use Rattle.ink_list.proofs.Output.{Writing}
use Rattle.list_definitions.specs.Search.{raised, rises}
use Rattle.list_definitions.proofs.IncrementSearch.{matched}
use Rattle.increment_search.specs.Chosen.{chosen_of}
use Rattle.increment_search.proofs.search_rising.Given as goal

abbrev pub invariant-loop-k : goal.invariant-loop-k
invariant-loop-k l = record {
  places : (l.k ≤ length l.definition.values.now) × (l.i ≤ length l.raised.values.now);
  rising : (rises (drop l.k l.definition.values.now) ≡ true) × (rises (raised l.raised.by (drop l.i l.raised.values.now)) ≡ true);
  same : Same l.initial.out l.out;
  writing : Writing l.at (chosen_of l.definition l.raised) l.n (matched (l.definition.first + l.k) (drop l.k l.definition.values.now) (raised l.raised.by (drop l.i l.raised.values.now)))
      l.initial.out.items.now l.out.items.now l.initial.out.values.now l.out.values.now;
}

abbrev pub decreases-loop-k : goal.decreases-loop-k
decreases-loop-k l = (length l.definition.values.now - l.k) + (length l.raised.values.now - l.i)
