-- The words of the contracts for vetting's lent slices. In an `ensures` a slice is what it was at entry and what it is at exit.
-- Assumes nothing.
use Rattle.std.specs.Prelude.{List, ℕ, Result}
use Rattle.slices.specs.Slices.{Slice, MutSlice}
use Rattle.pack.specs.Instruction.{Instr}
use Rattle.pack.specs.declared.format.Format.{Format}
use Rattle.vetting.specs.Vet.{VetsProgram, Vets}
use Rattle.ink_value.specs.declared.Kind.{Kind}
use Rattle.machine.specs.Ended.{end_of}
use Rattle.machine.specs.declared.Stop.{Stop}

-- the answer of a program that question 7 let through, and what it leaves in the forecast slice
abbrev pub VetsProgramIn : List Instr → List Kind → Result ℕ Stop → MutSlice ℕ → Type 0
VetsProgramIn program kinds v f = VetsProgram program kinds (end_of v) f.entry.now f.exit.now

-- the answer of a sheet of any bytes, and what it leaves in the forecast slice
abbrev pub VetsAny : Format → Slice ℕ → ℕ → List ℕ → Result ℕ Stop → MutSlice ℕ → Type 0
VetsAny F pack sheet codes v f = Vets F pack.entry.now sheet codes (end_of v) f.entry.now f.exit.now
