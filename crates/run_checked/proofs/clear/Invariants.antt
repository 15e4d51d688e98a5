-- `run_checked::clear` meets its contract. The invariant: the places passed are zero as far as they were used, and the others as they were.
-- Assumes nothing.
use mathlib.Core.Path.{◌≡◌}
use lib.IntN.{pos}
use Rattle.ink_list.specs.Lists.{Same}
use Rattle.run_checked.specs.Clear.{cleared}
use Rattle.run_checked.proofs.clear.Given as goal

abbrev pub invariant-loop-q : goal.invariant-loop-q
invariant-loop-q l =
    (l.work.items.now ≡ cleared l.format 0 l.used l.q l.initial.work.items.now)
    × (l.work.values.now ≡ cleared l.format (pos 0) l.used l.q l.initial.work.values.now)
    × Same l.initial.work l.work
