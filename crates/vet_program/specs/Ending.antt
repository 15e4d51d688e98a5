-- What vetting's answer stands for, and the forecast that is then written. Assumes nothing.
use Rattle.std.specs.Prelude.{◌≡◌, List, ℕ, ◌≤◌, length}
use Rattle.ink_value.specs.declared.Kind.{Kind}
use Rattle.pack.specs.Format.{instruction_limit}
use Rattle.machine.specs.Foretold.{Verdict, passed, turned, Begins}
use Rattle.machine.specs.Machine.{End, ended, stopped}

-- the verdict that an answer stands for
abbrev pub verdict_of : End ℕ → Verdict
verdict_of (ended n) = passed
verdict_of (stopped r k) = turned r k

-- where it passed, the array begins with the forecast of the stacks
abbrev pub Forecasts : End ℕ → List ℕ → List (List Kind) → Type 0
Forecasts (ended n) f sts = (length sts ≡ n) × (n ≤ instruction_limit) × Begins f sts
Forecasts (stopped r k) f sts = Unit {0}
