-- A stack that is held in an array, from below. Assumes nothing.
-- For inner steps alone: no entry point's contract cites it.
use Rattle.std.specs.Prelude.{List, [], ◌∷◌, ℕ, zero, suc, ltb}
use Rattle.ink_number.specs.Answer.{Answer, gives, ask}
use Rattle.machine.specs.Machine.{stack_limit}
use Rattle.machine.specs.declared.Top.{Top}

-- the stack of n values whose p-th from below is f p, top first
abbrev pub stack_of : {X : Type 0} → (ℕ → X) → ℕ → List X
stack_of f zero = []
stack_of f (suc n) = f n ∷ stack_of f n

-- question 9 of a push on a stack of n: what is pushed stands at place n, which is then the top
abbrev pub top_pushed : {X : Type 0} → ℕ → X → Answer (Top X)
top_pushed n x = ask 9 (ltb n stack_limit) (gives (record { place = n; value = x }))
