-- The words of the contracts for a stack of kinds in a lent array. Assumes nothing.
use Rattle.std.specs.Prelude.{List, ℕ}
use Rattle.ink_number.specs.Answer.{Answer}
use Rattle.slices.specs.Slices.{Slice}
use Rattle.ink_value.specs.declared.Kind.{Kind}
use Rattle.machine.specs.Stack.{stack_of}
use Rattle.machine.specs.declared.Top.{Top}
use Rattle.vet_steps.specs.Step.{kind_on, stepped}

-- the kinds on a stack of n, which stand in an array, from below
abbrev pub kinds_in : Slice Kind → ℕ → List Kind
kinds_in stack n = stack_of (kind_on stack.entry.now) n

-- the stack after a step, the kinds below being those of the array
abbrev pub stepped_in : Answer (Top Kind) → Slice Kind → Answer (List Kind)
stepped_in r stack = stepped r (kind_on stack.entry.now)
