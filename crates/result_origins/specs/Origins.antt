-- The origin set of an operator's List. Assumes nothing.
use Rattle.std.specs.Prelude.{cond, ◌&&◌, List, [], ◌∷◌, ℕ, eqb}
use Rattle.op.specs.Op.{op_subtract}
use Rattle.list_definitions.specs.Defs.{origins_of}
use Rattle.ink_value.specs.Val.{Val, kind_of, is_list}
use Rattle.ink_value.specs.Convert.{origins_in}

-- the set that a result without items keeps: "Subtract on two Lists with an empty result now keeps the left operand's origin set". Others keep
-- none, and a left operand that is no List has none
unfoldable pub origins_kept : ℕ → List Val → ℕ
origins_kept o [] = 0
origins_kept o (a ∷ []) = 0
origins_kept o (a ∷ b ∷ []) = cond (eqb o op_subtract && is_list (kind_of b)) (origins_in a) 0
origins_kept o (a ∷ b ∷ c ∷ vs) = 0

-- the origin set of a result with these items: "the origins of its items", or what it keeps without any
unfoldable pub origins_after : List ℕ → ℕ → List Val → List ℕ → ℕ
origins_after ends o vs [] = origins_kept o vs
origins_after ends o vs (k ∷ ks) = origins_of ends (k ∷ ks)
