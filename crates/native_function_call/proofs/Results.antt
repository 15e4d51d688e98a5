-- Results are well formed: formed as literals of the pack are, so that a List has at most as many entries as the pack has items. Assumes nothing.
use mathlib.Core.Path.{◌≡◌, refl}
use mathlib.Core.Bool.{true}
use mathlib.Core.List.{List, [], ◌∷◌, map}
use Prim.Native.Nat.{ℕ, ◌≤◌}
use native.Mathlib.Nat.{le_refl}
use native.Mathlib.Omega.{arith}
use borrow.Author.Tests.{le-leb}
use lib.Dec.{leb}
use lib.IntN.{ℤ, pos}
use lib.ListN.{length}
use Rattle.slices.proofs.Every.{and_right}
use Rattle.ink_list.specs.Entries.{items}
use Rattle.ink_list.proofs.Formed.{formed_both}
use Rattle.ink_value.specs.Val.{Val, bool, int, float, void, kind_of}
use Rattle.ink_value.specs.declared.Kind.{Kind}
use Rattle.ink_value.specs.declared.Kind.TheVariants as K
use Rattle.ink_value.specs.Convert.{as_int}
use Rattle.ink_number.specs.Answer.{Answer, gives, refuses, ask}
use Rattle.operator_kinds.specs.Kinds.{kind_apply}
use Rattle.list_definitions.specs.Defs.{ListDefinitions}
use Rattle.number_operators.specs.Numbers.{arith_z, whole_unary}
use Rattle.result_origins.specs.Origins.{origins_after}
use Rattle.result_origins.proofs.Rule.{after_below}
use Rattle.list_operators.specs.Lists.{entries_for, list_result}
use Rattle.list_operators.proofs.Listing.{entries_rise}
use Rattle.native_function_call.specs.Apply.{compute, guarded, apply_op, of_int, whole, test, real}
use Rattle.ink_value.specs.Value.{val_of, written, all_formed, InPack, AllInPack, GivesInPack}
use Rattle.ink_value.specs.declared.Value.{Value}
use Rattle.ink_value.proofs.ReadBack.{each_in_pack, plain_in_pack, all_rise, gives_few}

module _ (u : ListDefinitions) where
  -- how many items, and how many definitions
  abbrev total : ℕ
  total = length u.defined

  abbrev count : ℕ
  count = length u.ends

  -- an operator's List: its items are in the pack, and its origin bits below D
  list_formed : (o : ℕ) (vs : List Val) → AllInPack total count vs → InPack total count (list_result u o vs)
  list_formed o vs h =
      let es = entries_for u o vs in
      formed_both total count (origins_after u.ends o vs (items es)) (items es)
      (after_below total u.ends o vs (items es) h) (entries_rise u total (le_refl total) o vs (all_rise total count vs h))

  int_formed : (a : Answer ℤ) → GivesInPack total count (of_int a)
  int_formed (gives z) = plain_in_pack total count (int z) refl refl
  int_formed (refuses r) = tt

  whole_formed : (o : ℕ) (vs : List Val) → GivesInPack total count (whole o vs)
  whole_formed o [] = plain_in_pack total count (int (pos 0)) refl refl
  whole_formed o (a ∷ []) = plain_in_pack total count (int (whole_unary o a)) refl refl
  whole_formed o (a ∷ b ∷ []) = int_formed (arith_z o (as_int a) (as_int b))
  whole_formed o (a ∷ b ∷ c ∷ vs) = plain_in_pack total count (int (pos 0)) refl refl

  compute_formed : (o : ℕ) (vs : List Val) (k : Kind) → AllInPack total count vs → GivesInPack total count (compute u o vs k)
  unfolding compute
  compute_formed o vs K.Bool h = plain_in_pack total count (bool (test o vs)) refl refl
  compute_formed o vs K.Int h = whole_formed o vs
  compute_formed o vs K.Float h = plain_in_pack total count (float (real o vs)) refl refl
  compute_formed o vs K.List h = list_formed o vs h
  compute_formed o vs K.Void h = plain_in_pack total count void refl refl

  guarded_formed : (o : ℕ) (vs : List Val) (q : Answer Kind) → AllInPack total count vs → GivesInPack total count (guarded q (compute u o vs))
  guarded_formed o vs (gives k) h = compute_formed o vs k h
  guarded_formed o vs (refuses r) h = tt

  -- an operator on values that are formed as literals
  pub apply_formed : (o : ℕ) (vs : List Val) → AllInPack total count vs → GivesInPack total count (apply_op u o vs)
  unfolding apply_op
  apply_formed o vs h = guarded_formed o vs (kind_apply o (map kind_of vs)) h

  -- on operands to which question 7 says yes
  pub result_formed : (o : ℕ) (is : List ℕ) (vs : List ℤ) (operands : List Value) → all_formed total count is vs operands ≡ true
      → GivesInPack total count (apply_op u o (map (val_of is vs) operands))
  result_formed o is vs operands e = apply_formed o (map (val_of is vs) operands) (each_in_pack total count is vs operands (and_right _ _ e))

  module _ (within : total ≤ u.limit) (o : ℕ) (is : List ℕ) (vs : List ℤ) (operands : List Value) (e : all_formed total count is vs operands ≡ true) where
    -- "Items in a pack are at most 256 and a list holds an item once, so a result cannot be longer": for any item limit
    pub result_few : length (written (apply_op u o (map (val_of is vs) operands))) ≤ u.limit
    result_few =
        omega (arith, gives_few total count (apply_op u o (map (val_of is vs) operands)) (result_formed o is vs operands e))

    -- so a question n that asks it, as 16 did, would say yes and leave every answer as it is
    pub asked_idle : (n : ℕ)
        → ask n (leb (length (written (apply_op u o (map (val_of is vs) operands)))) u.limit) (apply_op u o (map (val_of is vs) operands))
        ≡ apply_op u o (map (val_of is vs) operands)
    asked_idle n = rw (le-leb (length (written (apply_op u o (map (val_of is vs) operands)))) u.limit result_few)
