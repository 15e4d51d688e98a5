-- The pack's definitions, as two tables, and the list operators that go by them. `ends` has for each definition the number one past its
-- last item, and `defined` each item's value.
use Rattle.std.specs.Prelude.{◌≡◌, Bool, true, false, cond, List, [], ◌∷◌, ℕ, zero, suc, ◌+◌, ◌*◌, ◌/◌, ◌%◌, ◌<◌, ◌≤◌, eqb, ltb, ℤ, pos, ◌+ℤ◌, ◌-ℤ◌, length, get_or}
use Rattle.std.specs.Coded.{×_prop, le_prop}
use Rattle.std.proofs.Math.Nat.{ℕ_set}
use Rattle.std.proofs.Math.Option.{Option, none, some}
use Rattle.ink_number.specs.Int.{eq_z, wrap, bit_of}
use Rattle.ink_list.specs.Entries.{item_numbers, Entry, member, gather}

-- the pack's definitions by item number, and the most items that a pack may have
pub record ListDefinitions : Type 0 where
  pub ends : List ℕ
  pub defined : List ℤ
  pub limit : ℕ

-- "Items are numbered on from 0 across definitions": the ends rise from low, so that each definition has an item, and the last is the total
abbrev pub Ends : ℕ → ℕ → List ℕ → Type 0
Ends low total [] = low ≡ total
Ends low total (e ∷ es) = (low < e) × Ends e total es

-- two tables of one pack
pub record Tables (ends : List ℕ) (defined : List ℤ) : Type 0 where
  pub numbered : Ends 0 (length defined) ends
  pub few : length defined < item_numbers

-- two tables are of one pack in one way, so that a struct may hold that they are
Ends-prop : (low total : ℕ) (es : List ℕ) → IsProp (Ends low total es)
Ends-prop low total [] = ℕ_set low total
Ends-prop low total (e ∷ es) = ×_prop le_prop (Ends-prop e total es)

pub Tables-prop : (ends : List ℕ) (defined : List ℤ) → IsProp (Tables ends defined)
Tables-prop ends defined p q = λ i. record {
  numbered = Ends-prop 0 (length defined) ends p.numbered q.numbered i;
  few = le_prop p.few q.few i;
}

-- "definitions D (at most 64)", and items at most as many as the format allows, of which each has a number
pub record Bounded (ends : List ℕ) (defined : List ℤ) (limit : ℕ) : Type 0 where
  pub few : length ends ≤ 64
  pub within : length defined ≤ limit
  pub some : 1 ≤ limit
  pub small : limit < item_numbers

-- in one way
pub Bounded-prop : (ends : List ℕ) (defined : List ℤ) (limit : ℕ) → IsProp (Bounded ends defined limit)
Bounded-prop ends defined limit p q = λ i. record {
  few = le_prop p.few q.few i;
  within = le_prop p.within q.within i;
  some = le_prop p.some q.some i;
  small = le_prop p.small q.small i;
}

-- the definition of an item, its origin: how many definitions end at or before it
abbrev pub origin_of : List ℕ → ℕ → ℕ
origin_of [] k = 0
origin_of (e ∷ es) k = cond (ltb k e) 0 (suc (origin_of es k))

-- "a u64 origin set (bit i is definition i)": is definition d in the set
abbrev pub in_set : ℕ → ℕ → Bool
in_set set zero = eqb (set % 2) 1
in_set set (suc d) = in_set (set / 2) d

-- ---- "All and Invert use the origin set's definitions."

-- all items of the set's definitions, with their defined values
unfoldable pub all : List ℕ → List ℤ → ℕ → List Entry
all ends defined set = gather (length defined) (λ k. cond (in_set set (origin_of ends k)) (some (get_or defined k (pos 0))) none)

-- item k's defined value, where k is not among the items
abbrev pub missing : List ℤ → List ℕ → ℕ → Option ℤ
missing defined is k = cond (member is k) none (some (get_or defined k (pos 0)))

-- item k's defined value, where its definition is in the set and k is not among the items
abbrev pub unheld : List ℕ → List ℤ → ℕ → List ℕ → ℕ → Option ℤ
unheld ends defined set is k = cond (in_set set (origin_of ends k)) (missing defined is k) none

-- all items of the set's definitions that the list has not
unfoldable pub invert : List ℕ → List ℤ → ℕ → List ℕ → List Entry
invert ends defined set is = gather (length defined) (unheld ends defined set is)

-- ---- "the origins of its items"

-- has the list an item of definition d
abbrev pub reached : List ℕ → List ℕ → ℕ → Bool
reached ends [] d = false
reached ends (k ∷ ks) d = cond (eqb (origin_of ends k) d) true (reached ends ks d)

-- the set of the n lowest definitions for which f holds
abbrev pub set_of : ℕ → (ℕ → Bool) → ℕ
set_of zero f = 0
set_of (suc n) f = bit_of (f 0) + 2 * set_of n (λ d. f (suc d))

-- the set of the origins of some items
abbrev pub origins_of : List ℕ → List ℕ → ℕ
origins_of ends is = set_of (length ends) (reached ends is)

-- ---- "Increment adds or takes the Int (wrapping) from each value and keeps the item of the same origin that is defined with that value,
-- if the origin is in a's set." "Ties .. among a definition's equal values go to the smallest item number"

-- each value with an Int added, wrapping; or taken
abbrev pub raise : ℤ → List Entry → List Entry
raise by [] = []
raise by (e ∷ es) = (e.0, wrap (e.1 +ℤ by)) ∷ raise by es

abbrev pub lower : ℤ → List Entry → List Entry
lower by [] = []
lower by (e ∷ es) = (e.0, wrap (e.1 -ℤ by)) ∷ lower by es

-- has the list an entry of item k's origin whose value is k's defined one
abbrev pub aimed : List ℕ → List ℤ → List Entry → ℕ → Bool
aimed ends defined [] k = false
aimed ends defined (e ∷ es) k =
    cond (eqb (origin_of ends e.0) (origin_of ends k))
    (cond (eq_z e.1 (get_or defined k (pos 0))) true (aimed ends defined es k))
    (aimed ends defined es k)

-- does p hold of one of the n numbers from low on
abbrev pub any_from : ℕ → ℕ → (ℕ → Bool) → Bool
any_from low zero p = false
any_from low (suc n) p = cond (p low) true (any_from (suc low) n p)

-- have items i and k one origin and one defined value
abbrev pub alike : List ℕ → List ℤ → ℕ → ℕ → Bool
alike ends defined k i = cond (eqb (origin_of ends i) (origin_of ends k)) (eq_z (get_or defined i (pos 0)) (get_or defined k (pos 0))) false

-- item k's defined value, where its origin is in the set, an entry aims at it, and no item before it is alike
abbrev pub target : List ℕ → List ℤ → ℕ → List Entry → ℕ → Option ℤ
target ends defined set a k =
    cond (in_set set (origin_of ends k)) (cond (aimed ends defined a k) (cond (any_from 0 k (alike ends defined k)) none (some (get_or defined k (pos 0)))) none) none

-- each entry's item replaced by the first item of its origin that is defined with the entry's value, if the origin is in the set
unfoldable pub retarget : List ℕ → List ℤ → ℕ → List Entry → List Entry
retarget ends defined set a = gather (length defined) (target ends defined set a)

abbrev pub increment : List ℕ → List ℤ → ℕ → ℤ → List Entry → List Entry
increment ends defined set by a = retarget ends defined set (raise by a)

abbrev pub decrement : List ℕ → List ℤ → ℕ → ℤ → List Entry → List Entry
decrement ends defined set by a = retarget ends defined set (lower by a)
