-- Equality of two lists as ink_list.rs asks it, beside the definition of Ops.antt, on their items: a key of the Rust's map is an item.
-- proofs/EqualLaws.antt shows that the two are the same. Assumes nothing.
use Rattle.std.specs.Prelude.{Bool, List, ℕ, eqb, length}
use Rattle.slices.specs.Every.{◌and◌}
use Rattle.ink_list.specs.Ops.{subset}

-- "other.items.len() != self.items.len()" is no; so is a key of self that other does not contain
unfoldable pub eq_in_file : List ℕ → List ℕ → Bool
eq_in_file self other = eqb (length self) (length other) and subset other self
