-- Demand 3 in the words of the boundary: what `ink_vet` returns and writes, said of what `ink_run` does. Assumes nothing.
use Rattle.std.specs.Prelude.{◌≡◌, ◌⊎◌, List, ℕ, zero, suc, ◌*◌, ◌-◌, ◌<◌, get_or}
use Rattle.machine.specs.Foretold.{ByValue}
use Rattle.value_words.specs.Calls.{index_words}

-- the number that `ink_run` returns, and the words that it writes
abbrev pub Said : Type 0
Said = ℕ × List ℕ

-- a refusal: its number, and the instruction's index in the words
abbrev pub refusal : ℕ → ℕ → Said
refusal r k = (r, index_words k)

-- of 0 and a count of instructions, with the forecast's bytes f: the run returns 0 and a value of the kind forecast last, or stops with 15. Of
-- another number and an index: the run stops before that index with 15, or exactly there with that number
abbrev pub ForetoldWords : ℕ → ℕ → List ℕ → Said → Type 0
ForetoldWords zero count f r = ((r.0 ≡ 0) × (get_or r.1 0 0 ≡ get_or f (2 * count - 1) 0)) ⊎ ByValue refusal (λ i. i < count) r
ForetoldWords (suc q) k f r = ByValue refusal (λ i. i < k) r ⊎ (r ≡ refusal (suc q) k)
