-- `list_extremes::extreme_at` meets its contract: of the values before place i the first extreme one is at `best`. Assumes nothing.
use Rattle.ink_list.proofs.TestLaws.{BestBefore}
use Rattle.list_extremes.proofs.extreme_at.Given as goal

abbrev pub invariant-loop-i : goal.invariant-loop-i
invariant-loop-i l = BestBefore l.least l.vs l.best l.i
