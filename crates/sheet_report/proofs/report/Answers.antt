-- `sheet_report::report` is safe: where `check` passes a pack, the pack is sound. Assumes nothing.
use Rattle.pack.proofs.Judged.{passed}
use Rattle.sheet_report.proofs.report.Goals as goal

pub sheet_lines-requires : goal.sheet_lines-requires
sheet_lines-requires c =
    (passed _ c.args.pack.now c.in-Ok.ensures).contents.frame
