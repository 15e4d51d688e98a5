-- `ink_operators::ink_run` meets its contract: the answer of `run_bytes::run` on the slots that the words hold. Assumes nothing.
use Rattle.std.proofs.Common.{rules}
use Rattle.pack.proofs.Formats.{runnable1}
use Rattle.ink_operators.proofs.Ending.{run_says, runs_small}
use Rattle.ink_operators.proofs.ink_run.Goals as goal

pub ran-requires : goal.ran-requires
ran-requires c = runs_small runnable1 _ _ _ _ _ _ _ _ _ _ _ _ _ _ c.run-ran.ensures.0

pub returns : goal.returns
returns c =
    run_says _ _ _ _ _ _ _ _ _ _ _ _ _ _ _ _ _ c.slots_in.ensures c.run-ran.ensures.0 c.ran.ensures (search rules) (search rules) (search rules) (search rules)
