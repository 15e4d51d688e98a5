-- `vetting::vet_sheet` meets its contract: the forecast is written where the sheet passed. Assumes nothing.
use mathlib.Core.Path.{sym, ◌∙◌}
use native.Mathlib.Omega.{arith}
use Rattle.pack.specs.Read.{program}
use Rattle.machine.specs.Machine.{vet}
use Rattle.vetting.proofs.Written.{passed_count, take_forecast, forecast_long}
use Rattle.vetting.proofs.vet_sheet.Goals as goal

pub returns : goal.returns
returns c =
    let p = program c.args.pack.now c.args.sheet in
    let n = c.in_ok-count.count in
    let e = c.in_ok-count.ensures in
    let sts = (vet p c.args.kinds).stacks in
    record {
      right = e.0;
      counted = sym e.1.0 ∙ passed_count p c.args.kinds e.0;
      written =
          rw (c.copy_from_slice.ensures.after, take_forecast c.vet_into.new.out sts n e.1.0 (omega (arith, e.2, e.1.1)) e.1.2)
          (forecast_long sts n c.args.forecast.now e.1.0);
    }
