-- Demand 3 of the two answers: the promise of vetting, at the run that was made. Assumes nothing.
use Rattle.vet_and_run.proofs.Answered.{both}
use Rattle.vet_and_run.proofs.vet_and_run.Goals as goal

pub returns : goal.returns
returns c =
    let r = c.run-ran.ensures in
    (both _ _ _ _ _ _ _ _ _ _ _ _ _ _ _ _ _ _ c.vet-vetted.ensures r.0, r.1, r.2)
