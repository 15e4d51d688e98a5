-- What the inner steps of the operators answer: a cursor over rising item numbers, and the place of an extreme value.
use Rattle.std.specs.Prelude.{◌≡◌, Bool, false, cond, List, [], ◌∷◌, ℕ, ◌<◌, eqb, ltb, ℤ, pos, length, get_or}
use Rattle.ink_list.specs.Entries.{entries}
use Rattle.ink_list.specs.Ops.{list_extreme, extreme_value}

-- the numbers from the first on that is not below x
abbrev pub drop_below : ℕ → List ℕ → List ℕ
drop_below x [] = []
drop_below x (k ∷ ks) = cond (ltb k x) (drop_below x ks) (k ∷ ks)

-- is x the first
abbrev pub head_is : ℕ → List ℕ → Bool
head_is x [] = false
head_is x (k ∷ ks) = eqb k x

-- the place of the first least (greatest) value: it has that value, and the entry there is that of the least (greatest)
pub record ExtremeAt (least : Bool) (vs : List ℤ) (place : ℕ) : Type 0 where
  pub inside : place < length vs
  pub value : extreme_value least vs ≡ get_or vs place (pos 0)
  pub entry : (is : List ℕ) → length is ≡ length vs → list_extreme least (entries is vs) ≡ (get_or is place 0, get_or vs place (pos 0)) ∷ []
