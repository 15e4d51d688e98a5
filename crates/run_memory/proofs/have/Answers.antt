-- `run_memory::have` meets its contract: the first slice that is too short decides. Assumes nothing.
use borrow.Author.Tests.{le-leb, lt-leb}
use Rattle.slices.specs.Every.{◌and◌}
use Rattle.run_memory.proofs.have.Goals as goal

pub returns-then-n-lists : goal.returns-then-n-lists
unfolding ◌and◌
returns-then-n-lists c = rw (le-leb _ _ c.if-n-lists.true)

pub returns-else-n-lists : goal.returns-else-n-lists
unfolding ◌and◌
returns-else-n-lists c = rw (lt-leb _ _ c.if-n-lists.false)
