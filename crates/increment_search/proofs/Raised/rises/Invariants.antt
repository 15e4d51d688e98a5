-- `increment_search::Raised::rises` meets its contract: the values before the cursor rise, the last of them being `last`, and are Ints.
-- Assumes nothing.
use Rattle.std.proofs.Common.{◌≡◌, pos, take, drop}
use Rattle.list_definitions.specs.Search.{raised, rises_above, rises}
use Rattle.increment_search.proofs.Raised.rises.Given as goal

abbrev pub invariant-loop-value : goal.invariant-loop-value
invariant-loop-value l = record {
  told : rises (raised l.self.by l.self.values.now) ≡ rises_above l.last (raised l.self.by (drop l.value-index l.rest));
  ints : raised (pos 0) (take l.value-index l.rest) ≡ take l.value-index l.rest;
}
