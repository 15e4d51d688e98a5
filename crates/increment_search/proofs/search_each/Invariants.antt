-- `increment_search::search_each` meets its contract: what is left to store is what is chosen of the definition's values from place k on,
-- those before it being the first k. Assumes nothing.
use Rattle.std.proofs.Common.{◌≡◌, ◌+◌, pos, take, drop}
use Rattle.ink_list.specs.Lists.{Same}
use Rattle.ink_list.proofs.Output.{Writing}
use Rattle.list_definitions.specs.Search.{raised, chosen}
use Rattle.increment_search.specs.Chosen.{values_of, chosen_of}
use Rattle.increment_search.proofs.search_each.Given as goal

abbrev pub invariant-loop-k : goal.invariant-loop-k
invariant-loop-k l = record {
  ints : raised (pos 0) (take l.k l.definition.values.now) ≡ take l.k l.definition.values.now;
  same : Same l.initial.out l.out;
  writing : Writing l.at (chosen_of l.definition l.raised) l.n (chosen (l.definition.first + l.k) (take l.k l.definition.values.now) (drop l.k l.definition.values.now) (values_of l.raised))
      l.initial.out.items.now l.out.items.now l.initial.out.values.now l.out.values.now;
}
