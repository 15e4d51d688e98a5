-- Worked examples of the definitions: they compute. Assumes nothing.
use mathlib.Core.Path.{◌≡◌, refl}
use mathlib.Core.List.{List, [], ◌∷◌}
use Prim.Native.Nat.{ℕ}
use lib.IntN.{ℤ, pos, negsuc}
use Rattle.ink_number.specs.Int.{wrap, residue, signed}
use Rattle.list_definitions.specs.Defs.{all, invert, retarget, increment, decrement, origins_of}

-- two definitions, of items 0 to 2 and 3 to 4
ends : List ℕ
ends = 3 ∷ 5 ∷ []

defined : List ℤ
defined = pos 1 ∷ pos 2 ∷ pos 3 ∷ pos 2 ∷ pos 2 ∷ []

all_second : all ends defined 2 ≡ (3, pos 2) ∷ (4, pos 2) ∷ []
unfolding all ends defined
all_second = refl

invert_both : invert ends defined 3 (1 ∷ 4 ∷ []) ≡ (0, pos 1) ∷ (2, pos 3) ∷ (3, pos 2) ∷ []
unfolding invert ends defined
invert_both = refl

-- item 1 = 2, raised by 1, is item 2; item 4 = 1, raised by 1, is the first with 2 of its definition, item 3, if that is in the set
raise_both : increment ends defined 3 (pos 1) ((1, pos 2) ∷ (4, pos 1) ∷ []) ≡ (2, pos 3) ∷ (3, pos 2) ∷ []
unfolding retarget ends defined wrap residue signed
raise_both = refl

raise_first : increment ends defined 1 (pos 1) ((1, pos 2) ∷ (4, pos 1) ∷ []) ≡ (2, pos 3) ∷ []
unfolding retarget ends defined wrap residue signed
raise_first = refl

-- -2^31 less 2^31 - 1 wraps to 1
lower_wraps : decrement ends defined 3 (pos 2147483647) ((1, negsuc 2147483647) ∷ []) ≡ (0, pos 1) ∷ []
unfolding retarget ends defined wrap residue signed
lower_wraps = refl

origins_both : origins_of ends (1 ∷ 4 ∷ []) ≡ 3
unfolding ends
origins_both = refl
