-- `run_bytes::run_passed` meets its contract: question 6, and then the sheet's run. Assumes nothing.
use mathlib.Core.Path.{refl}
use native.Mathlib.Omega.{arith}
use Rattle.pack.proofs.Tabled.{ends_front, defined_front}
use Rattle.pack.proofs.Values.{pack_tables, pack_bounded}
use Rattle.run_memory.proofs.Opening.{runs_stopped, runs_is, sheet_no, sheet_yes}
use Rattle.pack.proofs.Programs.{sheets_long}
use Rattle.run_bytes.proofs.run_passed.Goals as goal

pub returns-then-sheet_count-sheet : goal.returns-then-sheet_count-sheet
returns-then-sheet_count-sheet c =
    let p = c.args.bytes.now in
    (rw c.from.ensures (runs_stopped _ 6 _ _ _ _ _ _ (sheet_no c.args.format p c.args.sheet _ (omega (arith, c.sheet_count.ensures, c.if-sheet_count-sheet.true, sheets_long p c.args.format)))), (refl, refl), (refl, refl))

pub read_definitions-read-requires : goal.read_definitions-read-requires
read_definitions-read-requires c =
    let t = pack_tables c.args.format c.args.bytes.now c.requires.1.narrow c.requires.0 in
    record {
      p_in_bounds = t.ends_few;
      p_in_bounds_2 = omega (arith, t.defined_few, c.requires.2);
    }

pub invariant_of-tables : goal.invariant_of-tables
invariant_of-tables c =
    let t = c.read_definitions-read.ensures in
    record { tables = rw (ends_front t, defined_front t) (pack_tables c.args.format c.args.bytes.now c.requires.1.narrow c.requires.0).tables }

pub invariant_of-definitions : goal.invariant_of-definitions
invariant_of-definitions c =
    let t = c.read_definitions-read.ensures in
    record { bounded = rw (ends_front t, defined_front t) (pack_bounded c.args.format c.args.bytes.now c.requires.1 c.requires.0) }

pub returns : goal.returns
returns c =
    let p = c.args.bytes.now in
    let r = c.run_sheet.ensures in
    (runs_is _ _ _ _ _ _ _ _ _ _ _ _ _ (sheet_yes c.args.format p c.args.sheet _ (omega (arith, c.sheet_count.ensures, c.if-sheet_count-sheet.false, sheets_long p c.args.format))) r.0, r.1, r.2)
