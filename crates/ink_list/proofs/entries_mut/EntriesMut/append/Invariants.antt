-- `ink_list::entries_mut::EntriesMut::append` meets its contract: what is left to be stored are the entries from place i on. Assumes nothing.
use Rattle.ink_list.specs.Lists.{list_of, Same}
use Rattle.ink_list.proofs.Rests.{rest}
use Rattle.ink_list.proofs.Output.{Writing}
use Rattle.ink_list.proofs.entries_mut.EntriesMut.append.Given as goal

abbrev pub invariant-loop-i : goal.invariant-loop-i
invariant-loop-i l =
    record {
      same : Same l.initial.self l.self;
      writing :
          Writing l.n (list_of l.a) l.next (rest l.i l.a.items.now l.a.values.now)
          l.initial.self.items.now l.self.items.now l.initial.self.values.now l.self.values.now;
    }
