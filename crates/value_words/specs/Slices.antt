-- The words of the contracts for a call at the boundary. In an `ensures` a slice is what it was at entry and what it is at exit. Assumes nothing.
use Rattle.std.specs.Prelude.{ℕ, ℤ}
use Rattle.ink_number.specs.Answer.{Answer}
use Rattle.slices.specs.Slices.{MutSlice}
use Rattle.ink_value.specs.Val.{Val}
use Rattle.value_words.specs.Calls.{Says, Calls}

-- the number n and the answer's words
abbrev pub SaysIn : Answer Val → ℕ → MutSlice ℕ → Type 0
SaysIn a n answer = Says a n answer.exit.now

-- the same, and what is left in the result slices
abbrev pub CallsIn : Answer Val → ℕ → MutSlice ℕ → MutSlice ℕ → MutSlice ℤ → Type 0
CallsIn a n answer oi ov = Calls a n answer.exit.now oi.entry.now oi.exit.now ov.entry.now ov.exit.now
