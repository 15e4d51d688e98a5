-- `vet_program::vet_into` meets its contract. The invariant (proofs/Going.antt): what is left of vetting from the stack as it stands is the end of
-- vetting the sheet, and the bytes written are the forecast of the instructions passed. Assumes nothing.
use mathlib.Core.Path.{◌≡◌}
use lib.ListN.{drop}
use Rattle.pack.specs.Contents.{literal_count}
use Rattle.pack.specs.Instruction.{EachAllowed}
use Rattle.pack.specs.Read.{program}
use Rattle.vet_program.proofs.Going.{Going}
use Rattle.vet_program.proofs.vet_into.Given as goal

abbrev pub invariant-loop-instruction : goal.invariant-loop-instruction
invariant-loop-instruction l =
    Going (program l.pack l.sheet) l.kinds l.out l.stack l.n l.i
    × (l.instruction-iterator ≡ drop l.i (program l.pack l.sheet))
    × EachAllowed (literal_count l.pack) l.instruction-iterator
