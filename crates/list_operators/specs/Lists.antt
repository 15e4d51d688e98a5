-- The operators on Lists, by operator number, and the definitions that they go by. A number that is none of the operators listed gives no,
-- or an empty List. Assumes nothing.
use Rattle.std.specs.Prelude.{cond, List, [], ◌∷◌, ℕ, eqb, ℤ}
use Rattle.op.specs.Op.{op_add, op_subtract, op_list_min, op_list_max, op_all, op_invert}
use Rattle.slices.specs.Slices.{Slice}
use Rattle.ink_list.specs.Entries.{Entry, items}
use Rattle.ink_list.specs.Ops.{range, list_min, list_max}
use Rattle.list_definitions.specs.declared.definitions.PackDefinitions.{PackDefinitions}
use Rattle.list_definitions.specs.Defs.{ListDefinitions, all, invert, increment, decrement}
use Rattle.list_pairs.specs.Pairs.{merge_l}
use Rattle.ink_value.specs.Val.{Val, list, kind_of, is_list}
use Rattle.ink_value.specs.Convert.{as_int, entries_of, origins_in}
use Rattle.value_range.specs.Bounds.{lower_of, upper_of}
use Rattle.result_origins.specs.Origins.{origins_after}

-- ---- results that are Lists

-- a List and an Int, set being the List's origins
unfoldable pub shift_l : List ℕ → List ℤ → ℕ → ℕ → ℤ → List Entry → List Entry
shift_l ends defined o set n a =
    cond (eqb o op_add) (increment ends defined set n a)
    (cond (eqb o op_subtract) (decrement ends defined set n a)
    [])

-- one List, set being its origins
unfoldable pub unary_l : List ℕ → List ℤ → ℕ → ℕ → List Entry → List Entry
unary_l ends defined o set a =
    cond (eqb o op_list_min) (list_min a)
    (cond (eqb o op_list_max) (list_max a)
    (cond (eqb o op_all) (all ends defined set)
    (cond (eqb o op_invert) (invert ends defined set (items a))
    [])))

-- two Lists; or a List and an Int
unfoldable pub list_binary : ListDefinitions → ℕ → Val → Val → List Entry
list_binary u o a b =
    cond (is_list (kind_of b)) (merge_l u.limit o (entries_of a) (entries_of b))
    (shift_l u.ends u.defined o (origins_in a) (as_int b) (entries_of a))

-- three operands are range's: the list, the lower and the upper bound
abbrev pub entries_for : ListDefinitions → ℕ → List Val → List Entry
entries_for u o [] = []
entries_for u o (a ∷ []) = unary_l u.ends u.defined o (origins_in a) (entries_of a)
entries_for u o (a ∷ b ∷ []) = list_binary u o a b
entries_for u o (a ∷ b ∷ c ∷ []) = range u.limit (lower_of b) (upper_of c) (entries_of a)
entries_for u o (a ∷ b ∷ c ∷ d ∷ vs) = []

-- an operator's List
abbrev pub list_result : ListDefinitions → ℕ → List Val → Val
list_result u o vs = list (origins_after u.ends o vs (items (entries_for u o vs))) (entries_for u o vs)

-- ---- the definitions

abbrev pub definitions : List ℕ → List ℤ → ℕ → ListDefinitions
definitions ends defined limit = record { ends = ends; defined = defined; limit = limit }

-- the same of definitions that are held as one value
abbrev pub definitions_of : PackDefinitions → ListDefinitions
definitions_of d = definitions d.tables.ends.now d.tables.defined.now d.limit

-- the same of two lent slices
abbrev pub definitions_in : Slice ℕ → Slice ℤ → ℕ → ListDefinitions
definitions_in ends defined limit = definitions ends.entry.now defined.entry.now limit
