-- `run_bytes::run` meets its contract: questions 1 to 5, and then the run of a pack that has passed. Assumes nothing.
use mathlib.Core.Path.{refl, sym}
use native.Mathlib.Omega.{arith}
use Rattle.std.proofs.lemmas.Result.{err_from_is_err_and}
use Rattle.pack.proofs.Formats.{runnable1}
use Rattle.pack.proofs.Judged.{passed}
use Rattle.machine.proofs.Whole.{opened_refused, opened_passed}
use Rattle.run_memory.proofs.Opening.{runs_stopped, runs_is}
use Rattle.run_bytes.proofs.run.Goals as goal

pub run_passed-requires : goal.run_passed-requires
run_passed-requires c =
    (passed _ c.args.pack.now (rw c.in_ok-check.was at c.check.ensures), runnable1, omega arith)

pub returns : goal.returns
returns c =
    let r = c.run_passed.ensures in
    (runs_is _ _ _ _ _ _ _ _ _ _ _ _ _ (opened_passed _ c.args.pack.now c.args.sheet _ _ (sym (rw c.in_ok-check.was at c.check.ensures))) r.0, r.1, r.2)

pub returns-in_err-check : goal.returns-in_err-check
returns-in_err-check c =
    let p = err_from_is_err_and c.from_residual.result c.from_residual.ensures.1 in
    (rw (p.1, p.2) (runs_stopped _ _ _ _ _ _ _ _ (opened_refused _ c.args.pack.now c.args.sheet _ _ (sym (rw c.in_err-check.was at c.check.ensures)))), (refl, refl), (refl, refl))
