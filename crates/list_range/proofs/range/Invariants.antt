-- `list_range::range` meets its contract: what is left of the answer is the range of the entries that are left. Assumes nothing.
use Rattle.ink_list.specs.Lists.{list_of, places, Same}
use Rattle.ink_list.specs.Ops.{sift, within}
use Rattle.ink_list.proofs.Rests.{rest}
use Rattle.ink_list.proofs.Output.{Writing}
use Rattle.list_range.proofs.range.Given as goal

abbrev pub invariant-loop-i : goal.invariant-loop-i
invariant-loop-i l =
    record {
      same : Same l.initial.out l.out;
      writing :
          Writing 0 (sift (places l.initial.out) (λ e. within l.lower l.upper e.1) (list_of l.a)) l.n
          (sift (places l.initial.out) (λ e. within l.lower l.upper e.1) (rest l.i l.a.items.now l.a.values.now))
          l.initial.out.items.now l.out.items.now l.initial.out.values.now l.out.values.now;
    }
