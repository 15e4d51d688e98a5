-- `definition_tables::read_tables` meets its contract: question 7 of the slices, and then the tables that the pack's reader writes. Assumes
-- nothing.
use mathlib.Core.Path.{refl}
use native.Mathlib.Omega.{arith}
use Rattle.pack.proofs.Judged.{judged}
use Rattle.pack.proofs.Values.{pack_tables}
use Rattle.definition_tables.proofs.TablesRead.{reads_no_ends, reads_no_defined, reads_tables}
use Rattle.definition_tables.proofs.read_tables.Goals as goal

pub returns-then-ends-lt-DEFINITION_LIMIT : goal.returns-then-ends-lt-DEFINITION_LIMIT
returns-then-ends-lt-DEFINITION_LIMIT c = reads_no_ends _ c.args.pack.now c.args.ends.now c.args.defined.now _ c.if-ends-lt-DEFINITION_LIMIT.true

pub returns-then-defined-format : goal.returns-then-defined-format
returns-then-defined-format c = reads_no_defined _ c.args.pack.now c.args.ends.now c.args.defined.now _ c.if-defined-format.true

pub invariant_of-read_definitions-clause-sound : goal.invariant_of-read_definitions-clause-sound
invariant_of-read_definitions-clause-sound c = (judged _ c.args.pack.now _ c.requires.0).0

pub read_definitions-read-requires : goal.read_definitions-read-requires
read_definitions-read-requires c =
    let t = pack_tables _ c.args.pack.now c.requires.1 (judged _ c.args.pack.now _ c.requires.0).0 in
    record {
      p_in_bounds = omega (arith, t.ends_few, c.if-ends-lt-DEFINITION_LIMIT.false);
      p_in_bounds_2 = omega (arith, t.defined_few, c.if-defined-format.false);
    }

pub returns : goal.returns
returns c = reads_tables _ c.args.pack.now c.if-ends-lt-DEFINITION_LIMIT.false c.if-defined-format.false c.read_definitions-read.ensures refl
