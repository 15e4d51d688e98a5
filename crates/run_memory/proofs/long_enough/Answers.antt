-- `run_memory::long_enough` meets its contract: the first pair of slices that is too short decides. Assumes nothing.
use mathlib.Core.Path.{sym, ◌∙◌}
use Rattle.slices.specs.Every.{◌and◌}
use Rattle.run_memory.proofs.long_enough.Goals as goal

pub returns-then-have : goal.returns-then-have
unfolding ◌and◌
returns-then-have c = c.have-then-have.ensures ∙ rw (sym c.have.ensures ∙ c.if-have.true)

pub returns-else-have : goal.returns-else-have
unfolding ◌and◌
returns-else-have c = c.if-have.false ∙ rw (sym c.have.ensures ∙ c.if-have.false)
