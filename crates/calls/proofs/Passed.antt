-- What is known of a pack that passed questions 1 to 5: its tables, as they were read, and an operand to which question 7 says yes. Assumes
-- nothing.
use mathlib.Core.Path.{◌≡◌}
use mathlib.Core.Bool.{true}
use mathlib.Core.List.{List, [], ◌∷◌}
use Prim.Native.Nat.{ℕ, ◌≤◌}
use native.Mathlib.Omega.{arith}
use lib.IntN.{ℤ}
use lib.ListN.{length, take}
use Rattle.slices.proofs.Every.{and_left, and_right}
use Rattle.list_definitions.specs.Defs.{Tables, Bounded}
use Rattle.ink_number.specs.Answer.{gives}
use Rattle.ink_value.specs.Value.{all_formed, Formed}
use Rattle.ink_value.specs.declared.Value.{Value}
use Rattle.ink_value.proofs.Forming.{formed_yes}
use Rattle.pack.specs.Bodies.{decoded, item_count}
use Rattle.pack.specs.Format.{format1, Runnable}
use Rattle.pack.specs.declared.format.Format.{Format}
use Rattle.pack.specs.Judge.{judge, Sound}
use Rattle.pack.specs.Read.{ends_of, defined_of, Tabled}
use Rattle.pack.proofs.Judged.{passed}
use Rattle.pack.proofs.Tabled.{ends_front, defined_front}
use Rattle.pack.proofs.Values.{few_items, defined_count, pack_tables}

-- `check` said yes
pub sound1 : (p : List ℕ) → gives (decoded format1 p) ≡ judge format1 p → Sound format1 p
sound1 p e = passed format1 p e

-- there is room for its values
pub items_fit : (F : Format) (p : List ℕ) → Sound F p → item_count F p ≤ F.limit
items_fit F p s = omega (arith, few_items F p s, defined_count F p)

-- its tables, read into two slices
module _ (F : Format) (p : List ℕ) (n m : ℕ) (oe oe' : List ℕ) (od od' : List ℤ) (runs : Runnable F) (s : Sound F p) (t : Tabled (decoded F p) n m oe oe' od od') where
  pub read_tables : Tables (take n oe') (take m od')
  read_tables = rw (ends_front t, defined_front t) (pack_tables F p runs.narrow s).tables

  pub read_bounded : Bounded (take n oe') (take m od') F.limit
  read_bounded =
      let q = pack_tables F p runs.narrow s in
      rw (ends_front t, defined_front t)
      (record {
        few = omega (arith, q.ends_few, q.ends_long);
        within = omega (arith, q.defined_few, q.defined_long);
        some = runs.some;
        small = omega (arith, runs.few);
      })

-- an operand to which question 7 says yes
pub one_formed : (F : Format) (p is : List ℕ) (vs : List ℤ) (v : Value) (m : ℕ) → Sound F p
    → all_formed (length (defined_of (decoded F p))) (length (ends_of (decoded F p))) is vs (v ∷ []) ≡ true → F.limit ≤ m → Formed m is vs v
one_formed F p is vs v m s e h =
    formed_yes (length (defined_of (decoded F p))) (length (ends_of (decoded F p))) is vs v m (omega (arith, few_items F p s, h)) (and_left _ _ (and_right _ _ e))
