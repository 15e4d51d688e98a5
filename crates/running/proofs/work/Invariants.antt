-- `running::work` meets its contract. The invariant (`Working`): what is left of the sheet, from the stack as it stands, ends as the whole
-- does. Assumes nothing.
use mathlib.Core.Path.{◌≡◌}
use lib.ListN.{drop}
use Rattle.pack.specs.Contents.{literal_count}
use Rattle.pack.specs.Instruction.{EachAllowed}
use Rattle.pack.specs.Read.{program}
use Rattle.ink_list.specs.Lists.{Same}
use Rattle.ink_value.specs.Held.{slot_values}
use Rattle.list_operators.specs.Lists.{definitions_of}
use Rattle.running.proofs.Working.{Working}
use Rattle.running.proofs.work.Given as goal

abbrev pub invariant-loop-instruction : goal.invariant-loop-instruction
invariant-loop-instruction l = record {
  working : Working l.pack.format l.pack.bytes.now l.sheet (definitions_of l.pack.definitions) (slot_values l.slots) l.initial.work.items.now
      l.initial.work.values.now l.used l.work.items.now l.work.values.now l.stack l.n l.i;
  same : Same l.initial.work l.work;
  left : l.instruction-iterator ≡ drop l.i (program l.pack.bytes.now l.sheet);
  allowed : EachAllowed (literal_count l.pack.bytes.now) l.instruction-iterator;
}
