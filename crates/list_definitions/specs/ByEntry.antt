-- Increment said entry by entry, as document 01 does: what an entry becomes. That the definition in Defs.antt is this is shown in
-- proofs/ByEntry.antt. Assumes nothing.
use Rattle.std.specs.Prelude.{◌≡◌, true, false, ◌⊎◌, List, [], ◌∷◌, ℕ, ◌<◌, ℤ, pos, length, get_or}
use Rattle.ink_list.specs.Entries.{Entry}
use Rattle.list_definitions.specs.Defs.{origin_of, in_set, any_from, alike}

-- the entry is one of a list's
abbrev pub Among : Entry → List Entry → Type 0
Among e [] = ⊥
Among e (x ∷ a) = (e ≡ x) ⊎ Among e a

-- an entry whose value was raised or lowered becomes item k: "the item of the same origin that is defined with that value, if the origin is in
-- a's set", and of several the one with the smallest number
pub record Becomes (ends : List ℕ) (defined : List ℤ) (set : ℕ) (e : Entry) (k : ℕ) : Type 0 where
  pub item : k < length defined
  pub same_origin : origin_of ends e.0 ≡ origin_of ends k
  pub defined_so : e.1 ≡ get_or defined k (pos 0)
  pub in_set_lem : in_set set (origin_of ends k) ≡ true
  pub smallest : any_from 0 k (alike ends defined k) ≡ false
