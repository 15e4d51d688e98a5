-- `pack_points::report` is safe: where `check` passes a pack, the pack is sound. Assumes nothing.
use Rattle.pack.proofs.Judged.{passed}
use Rattle.pack_points.proofs.report.Goals as goal

pub invariant_of-show : goal.invariant_of-show
invariant_of-show c = record { passed = passed _ c.args.p.now c.in-Ok.ensures }
