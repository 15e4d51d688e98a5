-- `ink_list::entries_mut::EntriesMut::copy` meets its contract: stored from the start on, the whole list. Assumes nothing.
use Rattle.ink_list.proofs.Output.{wrote}
use Rattle.ink_list.proofs.entries_mut.EntriesMut.copy.Goals as goal

pub returns : goal.returns
returns c = (wrote c.append.ensures.0, c.append.ensures.1)
