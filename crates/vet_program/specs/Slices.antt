-- The words of the contracts for the forecast's array. Assumes nothing.
use Rattle.std.specs.Prelude.{◌≡◌, List, ℕ, length, Result}
use Rattle.slices.specs.Slices.{MutSlice}
use Rattle.ink_value.specs.declared.Kind.{Kind}
use Rattle.pack.specs.Instruction.{Instr}
use Rattle.machine.specs.Foretold.{verdict}
use Rattle.machine.specs.Machine.{vet}
use Rattle.machine.specs.Ended.{end_of}
use Rattle.machine.specs.declared.Stop.{Stop}
use Rattle.vet_program.specs.Ending.{verdict_of, Forecasts}

-- the end of a program, and where it passed the array begins with the forecast
abbrev pub ForecastsIn : List Instr → List Kind → Result ℕ Stop → MutSlice ℕ → Type 0
ForecastsIn program kinds v out =
    (verdict_of (end_of v) ≡ verdict (vet program kinds).end)
    × Forecasts (end_of v) out.exit.now (vet program kinds).stacks
    × (length out.exit.now ≡ 2048)
