-- The operators on two Lists, by operator number. A number that is none of the operators listed gives no, or an empty List. Assumes nothing.
use Rattle.std.specs.Prelude.{Bool, false, cond, List, [], ℕ, eqb}
use Rattle.op.specs.Op.{op_add, op_subtract, op_equal, op_greater, op_less, op_greater_than_or_equals, op_less_than_or_equals, op_not_equals, op_has, op_hasnt, op_intersect}
use Rattle.ink_list.specs.Entries.{Entry, items, values}
use Rattle.ink_list.specs.Ops.{union, without, intersect, has, hasnt, equal, not_equals, greater, greater_or_equals, less, less_or_equals}

-- the tests on two Lists
unfoldable pub test_l : ℕ → List Entry → List Entry → Bool
test_l o a b =
    cond (eqb o op_equal) (equal (items a) (items b))
    (cond (eqb o op_greater) (greater (values a) (values b))
    (cond (eqb o op_less) (less (values a) (values b))
    (cond (eqb o op_greater_than_or_equals) (greater_or_equals (values a) (values b))
    (cond (eqb o op_less_than_or_equals) (less_or_equals (values a) (values b))
    (cond (eqb o op_not_equals) (not_equals (items a) (items b))
    (cond (eqb o op_has) (has (items a) (items b))
    (cond (eqb o op_hasnt) (hasnt (items a) (items b))
    false)))))))

-- results that are Lists
unfoldable pub merge_l : ℕ → ℕ → List Entry → List Entry → List Entry
merge_l limit o a b =
    cond (eqb o op_add) (union limit a b)
    (cond (eqb o op_subtract) (without limit a (items b))
    (cond (eqb o op_intersect) (intersect limit a (items b))
    []))
