-- `ink_list::cursor::skip_below` meets its contract: all numbers before those that are left are below x. Assumes nothing.
use Rattle.std.proofs.Common.{◌≡◌, length}
use Rattle.ink_list.specs.Steps.{drop_below}
use Rattle.ink_list.proofs.cursor.skip_below.Given as goal

abbrev pub invariant-loop-y : goal.invariant-loop-y
invariant-loop-y l = drop_below l.x l.left ≡ drop_below l.x l.is

abbrev pub decreases-loop-y : goal.decreases-loop-y
decreases-loop-y l = length l.left
