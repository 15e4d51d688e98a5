-- Question 7 of result slices, as the code asks it. Assumes nothing.
use mathlib.Core.Path.{◌≡◌, sym}
use mathlib.Core.Bool.{Bool, false}
use Prim.Native.Nat.{ℕ, ◌≤◌, ◌<◌}
use lib.Dec.{leb}
use borrow.Author.Tests.{le-leb, lt-leb}
use Rattle.slices.specs.Every.{◌and◌}
use Rattle.slices.proofs.Every.{and_true, and_no_left, and_no_right}

-- question 7 of the operands, where the result slices are long enough
pub rooms : (f : Bool) (m n limit : ℕ) → limit ≤ m → limit ≤ n → f and (leb limit m and leb limit n) ≡ f
unfolding ◌and◌
rooms f m n limit h k = rw (le-leb limit m h, le-leb limit n k) (and_true f)

-- where the first is not
pub short_items : (f : Bool) (m n limit : ℕ) → m < limit → false ≡ f and (leb limit m and leb limit n)
short_items f m n limit h = sym (and_no_right _ _ (and_no_left _ _ (lt-leb limit m h)))

pub short_values : (f : Bool) (m n limit : ℕ) → n < limit → false ≡ f and (leb limit m and leb limit n)
short_values f m n limit h = sym (and_no_right _ _ (and_no_right _ _ (lt-leb limit n h)))
