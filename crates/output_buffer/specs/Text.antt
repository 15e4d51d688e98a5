-- What the contracts of `output_buffer` say of an output: text is added at the end of what waits, and what leaves it leaves from the start.
-- Assumes nothing.
use Rattle.std.specs.Prelude.{◌≡◌, ◌≤◌, List, [], ◌++◌, ℕ, take, length, Option, Result, IsSome}
use Rattle.std.specs.declared.option.Option.TheVariants.{None, Some}
use Rattle.std.specs.declared.result.Result.TheVariants.{Ok, Err}
use Rattle.std.specs.declared.fmt.Error.{Error}

-- an output: the bytes that wait to be written, or `None` once a write has failed, and how many there is room for
pub record Gathered : Type 0 where
  pub text : Option (List ℕ)
  pub room : ℕ

-- the output that a buffer makes, and how many of its bytes wait
abbrev pub gathered : List ℕ → Result ℕ Error → Gathered
gathered buffer (Ok n) = record { text = Some (take n buffer); room = length buffer }
gathered buffer (Err e) = record { text = None; room = length buffer }

-- the bytes that wait to be written
abbrev pub waiting : Option (List ℕ) → List ℕ
waiting None = []
waiting (Some xs) = xs

abbrev pub text_of : Gathered → List ℕ
text_of o = waiting o.text

-- what waited before, and then xs, are what was handed over to be written, and then what waits; a failed write is not forgotten; and xs
-- waits whole, if there is room for it and no write has failed
pub record Adds (before : Gathered) (xs : List ℕ) (after : Gathered) : Type 0 where
  pub handed : List ℕ
  pub in_order : handed ++ text_of after ≡ text_of before ++ xs
  pub failed : IsSome after.text → IsSome before.text
  pub kept : IsSome after.text → length xs ≤ after.room → length handed ≤ length (text_of before)
  pub room : after.room ≡ before.room
