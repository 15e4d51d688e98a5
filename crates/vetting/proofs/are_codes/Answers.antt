-- `vetting::are_codes` meets its contract. Assumes nothing.
use Rattle.std.proofs.Common.{rules, tests, ◌≤◌, ◌<◌}
use Rattle.std.proofs.lemmas.Iterator.{cases_from_all, YieldsList-from_slice}
use Rattle.vetting.proofs.Codes.{told}
use Rattle.vetting.proofs.are_codes.Goals as goal

pub returns : goal.returns
returns c =
    told c.args.codes.now c.all.result
    (cases_from_all _ _ _ (λ x. x ≤ 4) (λ x. 4 < x) c.all.ensures.ran (YieldsList-from_slice c.args.codes.now cc) (λ x q k. search (rules, tests)) (λ x q k. search (rules, tests)))
