-- A part of a slice, and a lent slice after it was written. Assumes nothing.
use Rattle.std.specs.Prelude.{◌⊎◌, ℕ, ◌+◌, ◌≤◌, ◌<◌, List, ◌++◌, length, take, drop}

-- the n elements that stand from s on
abbrev pub part {ℓ} : {A : Type ℓ} → ℕ → ℕ → List A → List A
part s n xs = take n (drop s xs)

-- j is none of the n places from `at` on
abbrev pub Outside : ℕ → ℕ → ℕ → Type 0
Outside at n j = (j < at) ⊎ (at + n ≤ j)

-- the slice with the elements of xs from index `at` on, and the rest as it was
unfoldable pub fill : {A : Type 0} → ℕ → List A → List A → List A
fill at xs old = take at old ++ xs ++ drop (at + length xs) old

-- the same from the start
abbrev pub over {ℓ} : {A : Type ℓ} → List A → List A → List A
over xs old = xs ++ drop (length xs) old
