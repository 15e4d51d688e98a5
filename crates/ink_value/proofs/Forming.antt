-- Question 7 of one value, as the code asks it; and what a yes gives. Assumes nothing.
use mathlib.Core.Path.{◌≡◌, sym, ◌∙◌}
use mathlib.Core.Bool.{true, false}
use mathlib.Core.List.{List}
use Prim.Native.Nat.{ℕ, ◌+◌, ◌≤◌, ◌<◌}
use native.Mathlib.Omega.{arith}
use lib.IntN.{ℤ}
use lib.ListN.{length}
use borrow.Author.Tests.{le-leb, lt-leb, eq-eqb, leb-true}
use Rattle.slices.specs.Every.{◌and◌}
use Rattle.ink_list.specs.Entries.{formed, formed_lent}
use Rattle.slices.proofs.Every.{and_left, and_right, and_no_left, and_no_right}
use Rattle.ink_list.proofs.Formed.{ascends_sound}
use Rattle.ink_list.proofs.Wrote.{ascends_limit}
use Rattle.slices.specs.Filled.{part}
use Rattle.ink_value.specs.Value.{start_of, len_of, set_in, Formed, formed_in}
use Rattle.ink_value.specs.declared.Value.{Value}
use Rattle.slices.proofs.Filled.{length_part}

module _ (total d : ℕ) (is : List ℕ) (vs : List ℤ) (v : Value) where
  pub past_items : length is < start_of v + len_of v → formed_in total d is vs v ≡ false
  past_items h = and_no_left _ _ (and_no_left _ _ (lt-leb (start_of v + len_of v) (length is) h))

  pub past_values : length vs < start_of v + len_of v → formed_in total d is vs v ≡ false
  past_values h = and_no_left _ _ (and_no_right _ _ (lt-leb (start_of v + len_of v) (length vs) h))

  -- the same, as the code has the numbers
  pub past_end : (start len : ℕ) → start ≡ start_of v → len ≡ len_of v → length vs < start + len → false ≡ formed_in total d is vs v
  past_end start len p q h = sym (past_values (omega arith))

  module _ (hi : start_of v + len_of v ≤ length is) (hv : start_of v + len_of v ≤ length vs) where
    pub inside : formed_in total d is vs v ≡ formed total d (set_in v) (part (start_of v) (len_of v) is)
    unfolding ◌and◌
    inside = rw (le-leb (start_of v + len_of v) (length is) hi, le-leb (start_of v + len_of v) (length vs) hv)

    same_long : length (part (start_of v) (len_of v) is) ≡ length (part (start_of v) (len_of v) vs)
    same_long = length_part (start_of v) (len_of v) is hi ∙ sym (length_part (start_of v) (len_of v) vs hv)

    -- the two parts are equally long
    pub lent_alike : formed_lent total d (set_in v) (part (start_of v) (len_of v) is) (part (start_of v) (len_of v) vs)
        ≡ formed total d (set_in v) (part (start_of v) (len_of v) is)
    unfolding ◌and◌ formed_lent
    lent_alike = rw (eq-eqb _ _ same_long)

  -- a yes says that the value is formed below any limit that the items keep
  pub formed_yes : (limit : ℕ) → total ≤ limit → formed_in total d is vs v ≡ true → Formed limit is vs v
  unfolding formed
  formed_yes limit h e =
      let hi = leb-true _ _ (and_left _ _ (and_left _ _ e)) in
      let hv = leb-true _ _ (and_right _ _ (and_left _ _ e)) in
      let up = ascends_sound 0 total (part (start_of v) (len_of v) is) (and_right _ _ (and_right _ _ e)) in
      record {
        items_in = hi;
        values_in = hv;
        lent = record { long = same_long hi hv; rising = ascends_limit 0 total limit (part (start_of v) (len_of v) is) h up };
      }
