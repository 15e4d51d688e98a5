-- A direct call of Equal or NotEquals on two Lists: it answers the Bool that ink_list.rs's tests give of their items as these stand in the
-- lent slices, and by its contract returns it and writes nothing. Assumes nothing.
use mathlib.Core.Path.{◌≡◌, refl, ap, ◌∙◌}
use mathlib.Core.Bool.{Bool, true, not}
use mathlib.Core.List.{List, [], ◌∷◌}
use Prim.Native.Nat.{ℕ, ◌≤◌}
use native.Mathlib.Nat.{le_refl}
use borrow.Author.Tests.{le-leb}
use lib.IntN.{ℤ}
use lib.ListN.{length}
use lib.Pow.{pow_pos}
use Rattle.op.specs.Op.{op_equal, op_not_equals}
use Rattle.ink_number.specs.Answer.{Answer, gives}
use Rattle.slices.specs.Every.{◌and◌}
use Rattle.slices.specs.Filled.{part}
use Rattle.slices.proofs.Every.{and_left, and_right}
use Rattle.slices.proofs.Lists.{ap2}
use Rattle.ink_list.specs.Entries.{items, Rising}
use Rattle.ink_list.specs.ByFile.{eq_in_file}
use Rattle.ink_list.proofs.Formed.{formed_both}
use Rattle.ink_list.proofs.Rests.{items_entries}
use Rattle.list_definitions.specs.Defs.{ListDefinitions}
use Rattle.ink_value.specs.Val.{Val, bool}
use Rattle.ink_value.specs.Value.{val_of, entries_at, formed_in}
use Rattle.ink_value.specs.declared.Value.{Value}
use Rattle.ink_value.specs.declared.Value.TheVariants as Is
use Rattle.ink_value.proofs.Forming.{formed_yes}
use Rattle.ink_value.proofs.ReadBack.{in_pack, pack_rises}
use Rattle.operator_kinds.specs.Kinds.{known, unary, arity}
use Rattle.native_function_call.specs.Apply.{apply_op}
use Rattle.native_function_call.proofs.Equality.{equals_as_file, not_equals_as_file}
use Rattle.pack.specs.Bodies.{Pack}
use Rattle.pack.specs.Judge.{judge}
use Rattle.pack.specs.Read.{defined_of, ends_of, definitions_of}
use Rattle.pack.specs.declared.format.Format.{Format}
use Rattle.call_memory.specs.Lent.{operands_ok, results_ok}
use Rattle.calls.specs.Call.{called, on_pack, Returned}
use Rattle.calls.proofs.Answered.{answered, returned}

-- a List to which question 7 says yes: its items are those that stand in the slice, and they rise
module _ (total d : ℕ) (is : List ℕ) (vs : List ℤ) (o s n : ℕ) (e : formed_in total d is vs (Is.List o s n) ≡ true) where
  items_stand : items (entries_at is vs s n) ≡ part s n is
  items_stand = items_entries (part s n is) (part s n vs) (formed_yes total d is vs (Is.List o s n) total (le_refl total) e).lent.long

  items_rise : Rising total (entries_at is vs s n)
  items_rise = pack_rises total d (val_of is vs (Is.List o s n)) (in_pack total d is vs (Is.List o s n) e)

module _ (F : Format) (p is : List ℕ) (vs : List ℤ) (oi : List ℕ) (ov : List ℤ) (d : Pack) (o s n o' s' n' : ℕ) (c : Value) where
  abbrev u : ListDefinitions
  u = definitions_of d F

  abbrev left : Value
  left = Is.List o s n

  abbrev right : Value
  right = Is.List o' s' n'

  -- the answer of a call with two operands, in the contracts of `call` and `ink_call`
  abbrev answer : ℕ → Answer Val
  answer op = on_pack F p (called is vs oi ov op 2 (left ∷ right ∷ c ∷ []))

  module _ (passed : judge F p ≡ gives d) (operands : operands_ok u is vs (left ∷ right ∷ []) ≡ true) (results : results_ok u oi ov ≡ true) where
    applied : (op : ℕ) → known op ≡ true → arity op ≡ 2 → answer op ≡ apply_op u op (val_of is vs left ∷ val_of is vs right ∷ [])
    applied op is_Known two = answered F p is vs oi ov d op 2 (left ∷ right ∷ c ∷ []) passed operands results is_Known two

    -- 7, of each of the two
    first : formed_in (length (defined_of d)) (length (ends_of d)) is vs left ≡ true
    first = and_left _ _ (and_right _ _ operands)

    second : formed_in (length (defined_of d)) (length (ends_of d)) is vs right ≡ true
    second = and_left _ _ (and_right _ _ (and_right _ _ operands))

    -- the tests of the items as they stand in the slices
    stand : eq_in_file (items (entries_at is vs s n)) (items (entries_at is vs s' n')) ≡ eq_in_file (part s n is) (part s' n' is)
    stand = ap2 eq_in_file (items_stand _ _ is vs o s n first) (items_stand _ _ is vs o' s' n' second)

    rise : Rising (length (defined_of d)) (entries_at is vs s n) × Rising (length (defined_of d)) (entries_at is vs s' n')
    rise = (items_rise _ _ is vs o s n first, items_rise _ _ is vs o' s' n' second)

    pub equal_answered : answer op_equal ≡ gives (bool (eq_in_file (part s n is) (part s' n' is)))
    unfolding known unary arity
    equal_answered =
        applied op_equal refl refl ∙ equals_as_file u o o' _ _ _ rise.0 rise.1 ∙ ap (λ (t : Bool). gives (bool t)) stand

    pub not_equals_answered : answer op_not_equals ≡ gives (bool (not (eq_in_file (part s n is) (part s' n' is))))
    unfolding known unary arity
    not_equals_answered =
        applied op_not_equals refl refl ∙ not_equals_as_file u o o' _ _ _ rise.0 rise.1 ∙ ap (λ (t : Bool). gives (bool (not t))) stand

    -- what `call` returns, by its contract: the Bool, and the result slices are as they were
    module _ (r : Answer Value) (oi' : List ℕ) (ov' : List ℤ) where
      abbrev Returns : Bool → Type 0
      Returns t = (r ≡ gives (Is.Bool t)) × (oi' ≡ oi) × (ov' ≡ ov)

      pub equal_returned : Returned (answer op_equal) r oi oi' ov ov' → Returns (eq_in_file (part s n is) (part s' n' is))
      equal_returned = returned _ equal_answered refl

      pub not_equals_returned : Returned (answer op_not_equals) r oi oi' ov ov' → Returns (not (eq_in_file (part s n is) (part s' n' is)))
      not_equals_returned = returned _ not_equals_answered refl

-- what question 7 is to say yes to can be met: by two empty Lists, in every pack, with result slices that are long enough
pub two_empty : (u : ListDefinitions) (oi : List ℕ) (ov : List ℤ) → u.limit ≤ length oi → u.limit ≤ length ov
    → (operands_ok u [] [] (Is.List 0 0 0 ∷ Is.List 0 0 0 ∷ []) ≡ true) × (results_ok u oi ov ≡ true)
unfolding ◌and◌
two_empty u oi ov h k =
    (rw (formed_both (length u.defined) (length u.ends) 0 [] (pow_pos (length u.ends)) tt) refl, rw (le-leb u.limit (length oi) h, le-leb u.limit (length ov) k) refl)
