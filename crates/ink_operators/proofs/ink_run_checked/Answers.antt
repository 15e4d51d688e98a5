-- `ink_operators::ink_run_checked` meets its contract: the answer of `run_ready` on the slots that the words hold. Assumes nothing.
use mathlib.Core.Path.{refl}
use Rattle.std.proofs.Common.{rules}
use Rattle.pack.proofs.Formats.{runnable1}
use Rattle.pack.proofs.Judged.{judged}
use Rattle.pack.proofs.Values.{pack_tables, pack_bounded}
use Rattle.ink_operators.proofs.Ending.{run_says, runs_small, kept_is}
use Rattle.ink_operators.proofs.ink_run_checked.Goals as goal

pub invariant_of-tables : goal.invariant_of-tables
invariant_of-tables c =
    let p = c.args.pack.now in
    let r = c.requires.0 in
    record { tables = rw (r.ends_are, r.defined_are) (pack_tables _ p runnable1.narrow (judged _ p _ r.passed).0).tables }

pub invariant_of-definitions : goal.invariant_of-definitions
invariant_of-definitions c =
    let p = c.args.pack.now in
    let r = c.requires.0 in
    record { bounded = rw (r.ends_are, r.defined_are) (pack_bounded _ p runnable1 (judged _ p _ r.passed).0) }

pub invariant_of-passed : goal.invariant_of-passed
invariant_of-passed c =
    let r = c.requires.0 in
    record { read = record { sound = (judged _ c.args.pack.now _ r.passed).0; ends_are = r.ends_are; defined_are = r.defined_are; limit_is = refl } }

pub run_ready-ran-requires : goal.run_ready-ran-requires
run_ready-ran-requires c = record { passed = (c.requires.0.passed, runnable1); clear = c.requires.1 }

pub ran-requires : goal.ran-requires
ran-requires c = runs_small runnable1 _ _ _ _ _ _ _ _ _ _ _ _ _ _ c.run_ready-ran.ensures.runs_any.0

pub returns : goal.returns
returns c =
    let r = c.run_ready-ran.ensures in
    record {
      run_says_any = run_says _ _ _ _ _ _ _ _ _ _ _ _ _ _ _ _ _ c.slots_in.ensures r.runs_any.0 c.ran.ensures (search rules) (search rules) (search rules) (search rules);
      kept = (kept_is r.kept.0 (search rules), kept_is r.kept.1 (search rules));
    }
