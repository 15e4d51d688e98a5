-- A stack of kinds that stands in an array, and what a step does to it. Assumes nothing.
use Rattle.std.specs.Prelude.{List, ◌∷◌, ℕ, ◌<◌, ◌≤◌, get_or}
use Rattle.ink_number.specs.Answer.{Answer, gives, refuses}
use Rattle.ink_value.specs.declared.Kind.{Kind}
use Rattle.ink_value.specs.declared.Kind.TheVariants as K
use Rattle.machine.specs.Machine.{stack_limit}
use Rattle.machine.specs.Stack.{stack_of}
use Rattle.machine.specs.declared.Top.{Top}

-- the kind at place p
abbrev pub kind_on : List Kind → ℕ → Kind
kind_on ks p = get_or ks p K.Bool

-- the stack after a step, f giving the kinds below
abbrev pub stepped : Answer (Top Kind) → (ℕ → Kind) → Answer (List Kind)
stepped (gives t) f = gives (t.value ∷ stack_of f t.place)
stepped (refuses r) f = refuses r

-- a step on a stack of n puts a kind at a place of the array, no higher than n
abbrev pub Within : Answer (Top Kind) → ℕ → Type 0
Within (gives t) n = (t.place < stack_limit) × (t.place ≤ n)
Within (refuses r) n = Unit {0}
