-- `calls::call_checked` meets its contract: what was read is a pack's definitions. Assumes nothing.
use Rattle.calls.proofs.Passed.{read_tables, read_bounded}
use Rattle.calls.proofs.call_checked.Goals as goal

pub invariant_of-tables : goal.invariant_of-tables
invariant_of-tables c = record { tables = read_tables _ _ _ _ _ _ _ _ c.requires.runnable c.args.pack.sound c.read_definitions-read.ensures }

pub invariant_of-definitions : goal.invariant_of-definitions
invariant_of-definitions c = record { bounded = read_bounded _ _ _ _ _ _ _ _ c.requires.runnable c.args.pack.sound c.read_definitions-read.ensures }
