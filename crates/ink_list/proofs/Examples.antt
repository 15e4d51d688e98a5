-- Worked examples of the definitions: each computes. Assumes nothing.
use mathlib.Core.Path.{◌≡◌, refl}
use mathlib.Core.Bool.{false}
use mathlib.Core.List.{List, [], ◌∷◌}
use lib.IntN.{pos, negsuc}
use Rattle.ink_list.specs.Entries.{Entry}
use Rattle.ink_list.specs.Ops.{union, sift, without, intersect, range, has, list_min, list_max}

a : List Entry
a = (0, pos 1) ∷ (2, pos 7) ∷ (5, negsuc 0) ∷ []

b : List Entry
b = (2, pos 9) ∷ (3, pos 9) ∷ []

union_ab : union 256 a b ≡ (0, pos 1) ∷ (2, pos 9) ∷ (3, pos 9) ∷ (5, negsuc 0) ∷ []
unfolding union a b
union_ab = refl

without_ab : without 256 a (2 ∷ 3 ∷ []) ≡ (0, pos 1) ∷ (5, negsuc 0) ∷ []
unfolding sift a
without_ab = refl

intersect_ab : intersect 256 a (2 ∷ 3 ∷ []) ≡ (2, pos 7) ∷ []
unfolding sift a
intersect_ab = refl

range_a : range 256 (pos 0) (pos 7) a ≡ (0, pos 1) ∷ (2, pos 7) ∷ []
unfolding sift a
range_a = refl

-- Has is no on an empty right side
has_empty : has (1 ∷ []) [] ≡ false
has_empty = refl

-- ties go to the smallest item
max_b : list_max b ≡ (2, pos 9) ∷ []
unfolding b
max_b = refl

min_a : list_min a ≡ (5, negsuc 0) ∷ []
unfolding a
min_a = refl
