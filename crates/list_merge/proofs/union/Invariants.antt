-- `list_merge::union` meets its contract: what is left of the answer is the union of what is left of the two. Assumes nothing.
use Rattle.std.proofs.Common.{◌+◌, ◌-◌, ◌≤◌, length}
use Rattle.ink_list.specs.Lists.{list_of, places, Same}
use Rattle.ink_list.specs.Ops.{union}
use Rattle.ink_list.proofs.Rests.{rest}
use Rattle.list_merge.proofs.Merging.{Merging}
use Rattle.list_merge.proofs.union.Given as goal

abbrev pub invariant-loop-i : goal.invariant-loop-i
invariant-loop-i l =
    record {
      inside : (l.i ≤ length l.a.items.now) × (l.j ≤ length l.b.items.now);
      same : Same l.initial.out l.out;
      merging :
          Merging (places l.initial.out) (union (places l.initial.out) (list_of l.a) (list_of l.b)) l.n (rest l.i l.a.items.now l.a.values.now) (rest l.j l.b.items.now l.b.values.now)
          l.initial.out.items.now l.out.items.now l.initial.out.values.now l.out.values.now;
    }

abbrev pub decreases-loop-i : goal.decreases-loop-i
decreases-loop-i l = (length l.a.items.now - l.i) + (length l.b.items.now - l.j)
