-- `increment_search::Raised::hits` meets its contract: the value is not among those before the cursor. Assumes nothing.
use Rattle.std.proofs.Common.{◌≡◌, drop}
use Rattle.list_definitions.specs.Search.{among, raised}
use Rattle.increment_search.proofs.Raised.hits.Given as goal

abbrev pub invariant-loop-value : goal.invariant-loop-value
invariant-loop-value l = among (raised l.self.by l.self.values.now) l.v ≡ among (raised l.self.by (drop l.value-index l.self.values.now)) l.v
