-- `list_sift::matching` meets its contract: what is left of the answer are the entries that are left whose items are among those that
-- are left of b, or are not. Assumes nothing.
use Rattle.std.specs.Bool.{beq}
use Rattle.ink_list.specs.Entries.{Ascends, member}
use Rattle.ink_list.specs.Lists.{list_of, places, Same}
use Rattle.ink_list.specs.Ops.{sift}
use Rattle.ink_list.proofs.Rests.{rest}
use Rattle.ink_list.proofs.Output.{Writing}
use Rattle.list_sift.proofs.matching.Given as goal

abbrev pub invariant-loop-i : goal.invariant-loop-i
invariant-loop-i l =
    record {
      same : Same l.initial.out l.out;
      rising : Ascends 0 (places l.initial.out) l.left;
      writing :
          Writing 0 (sift (places l.initial.out) (λ e. beq (member l.b e.0) l.want) (list_of l.a)) l.n
          (sift (places l.initial.out) (λ e. beq (member l.left e.0) l.want) (rest l.i l.a.items.now l.a.values.now))
          l.initial.out.items.now l.out.items.now l.initial.out.values.now l.out.values.now;
    }
