-- Words that are no value's, which question 7 refuses. Assumes nothing.
use mathlib.Core.Path.{◌≡◌}
use mathlib.Core.Bool.{false}
use mathlib.Core.List.{List}
use Prim.Native.Nat.{ℕ, ◌^◌, ◌<◌}
use lib.IntN.{ℤ}
use lib.ListN.{length}
use borrow.Author.Tests.{lt-leb}
use Rattle.slices.proofs.Every.{and_no_left}
use Rattle.ink_value.specs.Value.{formed_in}
use Rattle.words_in.specs.Words.{unheld}

-- question 7 says no to `unheld`, with any slices that a program can lend
pub unheld_no : (total d : ℕ) (is : List ℕ) (vs : List ℤ) → length is < 2 ^ 64 → formed_in total d is vs unheld ≡ false
unheld_no total d is vs h = and_no_left _ _ (and_no_left _ _ (lt-leb (2 ^ 64) (length is) h))
