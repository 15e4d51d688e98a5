-- The answers of a call and of a conversion, by what its questions say. Assumes nothing.
use mathlib.Core.Path.{◌≡◌, ap, ◌∙◌}
use mathlib.Core.Bool.{true, false}
use mathlib.Core.List.{List, [], ◌∷◌, map}
use Prim.Native.Nat.{ℕ, ◌≤◌, ◌<◌}
use native.Mathlib.Omega.{arith}
use lib.Dec.{leb}
use borrow.Author.Tests.{le-leb, lt-leb, leb-true}
use lib.IntN.{ℤ}
use lib.ListN.{length, take}
use Rattle.slices.proofs.Lists.{map_take}
use Rattle.slices.specs.Every.{◌and◌}
use Rattle.slices.proofs.Every.{and_left, and_right, and_both, and_no_left, and_no_right}
use Rattle.ink_value.specs.Val.{Val}
use Rattle.ink_list.specs.Entries.{room}
use Rattle.ink_value.specs.Value.{val_of, first_of, all_formed}
use Rattle.ink_value.specs.declared.Kind.{Kind}
use Rattle.ink_value.specs.declared.Value.{Value}
use Rattle.ink_number.specs.Answer.{Answer, gives, refuses}
use Rattle.list_definitions.specs.Defs.{ListDefinitions}
use Rattle.list_operators.specs.Lists.{definitions}
use Rattle.native_function_call.specs.Apply.{call}
use Rattle.call_memory.specs.Lent.{operands_ok, results_ok}
use Rattle.calls.specs.Call.{called, cast_to, coerced, on_pack}
use Rattle.value_conversions.specs.Convert.{cast}
use Rattle.pack.specs.Bodies.{decoded}
use Rattle.pack.specs.declared.format.Format.{Format}
use Rattle.pack.specs.Judge.{judge}
use Rattle.pack.specs.Read.{definitions_of}

-- questions 1 to 5
pub pack_passed : (F : Format) (p : List ℕ) (f : ListDefinitions → Answer Val) → judge F p ≡ gives (decoded F p) → on_pack F p f ≡ f (definitions_of (decoded F p) F)
pack_passed F p f e = rw e

-- ---- the answer of a call

module _ (is : List ℕ) (vs : List ℤ) (oi : List ℕ) (ov : List ℤ) (o n : ℕ) (l : List Value) (u : ListDefinitions) where
  pub ill_lent : (operands_ok u is vs (take n l) and results_ok u oi ov) ≡ false → called is vs oi ov o n l u ≡ refuses 7
  unfolding called
  ill_lent e = rw e

  pub goes_on : operands_ok u is vs (take n l) ≡ true → results_ok u oi ov ≡ true → called is vs oi ov o n l u ≡ call u o n (map (val_of is vs) (take n l))
  unfolding called
  goes_on e f = rw (and_both _ _ e f)

-- the same with a pack's tables at hand, and three operands
module _ (is : List ℕ) (vs : List ℤ) (oi : List ℕ) (ov : List ℤ) (o n : ℕ) (a b c : Value) (ends : List ℕ) (defined : List ℤ) (limit : ℕ) where
  pub ill_used : (all_formed (length defined) (length ends) is vs (take n (a ∷ b ∷ c ∷ [])) and (leb limit (length oi) and leb limit (length ov))) ≡ false
      → called is vs oi ov o n (a ∷ b ∷ c ∷ []) (definitions ends defined limit) ≡ refuses 7
  ill_used e = ill_lent is vs oi ov o n (a ∷ b ∷ c ∷ []) (definitions ends defined limit) e

  pub goes_used : all_formed (length defined) (length ends) is vs (take n (a ∷ b ∷ c ∷ [])) ≡ true → limit ≤ room oi ov
      → called is vs oi ov o n (a ∷ b ∷ c ∷ []) (definitions ends defined limit) ≡ call (definitions ends defined limit) o n (first_of is vs n a b c)
  goes_used e h =
      goes_on is vs oi ov o n (a ∷ b ∷ c ∷ []) (definitions ends defined limit) e (and_both _ _ (le-leb limit (length oi) (omega (arith, h))) (le-leb limit (length ov) (omega (arith, h))))
      ∙ ap (call (definitions ends defined limit) o n) (map_take (val_of is vs) n (a ∷ b ∷ c ∷ []))

-- what a yes of question 7 says
module _ (total d limit : ℕ) (is : List ℕ) (vs : List ℤ) (l : List Value) (oi : List ℕ) (ov : List ℤ)
    (e : (all_formed total d is vs l and (leb limit (length oi) and leb limit (length ov))) ≡ true) where
  pub yes_formed : all_formed total d is vs l ≡ true
  yes_formed = and_left _ _ e

  pub yes_room : limit ≤ room oi ov
  yes_room =
      let h = leb-true limit (length oi) (and_left _ _ (and_right _ _ e)) in
      let k = leb-true limit (length ov) (and_right _ _ (and_right _ _ e)) in
      omega (arith, h, k)

-- ---- the answers of the conversions

module _ (is : List ℕ) (vs : List ℤ) (oi : List ℕ) (ov : List ℤ) (to : Kind) (v : Value) (ends : List ℕ) (defined : List ℤ) (limit : ℕ) where
  abbrev casts : Answer Val
  casts = cast_to is vs oi ov to v (definitions ends defined limit)

  refused : (all_formed (length defined) (length ends) is vs (v ∷ []) and (leb limit (length oi) and leb limit (length ov))) ≡ false → casts ≡ refuses 7
  unfolding cast_to
  refused e = rw e

  pub cast_ill : all_formed (length defined) (length ends) is vs (v ∷ []) ≡ false → casts ≡ refuses 7
  cast_ill e = refused (and_no_left _ _ e)

  pub cast_no_items : length oi < limit → casts ≡ refuses 7
  cast_no_items h = refused (and_no_right _ _ (and_no_left _ _ (lt-leb limit (length oi) h)))

  pub cast_no_values : length ov < limit → casts ≡ refuses 7
  cast_no_values h = refused (and_no_right _ _ (and_no_right _ _ (lt-leb limit (length ov) h)))

  pub cast_goes : all_formed (length defined) (length ends) is vs (v ∷ []) ≡ true → limit ≤ length oi → limit ≤ length ov
      → casts ≡ cast to (val_of is vs v)
  unfolding cast_to
  cast_goes e h k = rw (and_both _ _ e (and_both _ _ (le-leb limit (length oi) h) (le-leb limit (length ov) k)))

module _ (F : Format) (p is : List ℕ) (vs : List ℤ) (f : Val → Answer Val) (v : Value) where
  pub coerce_ill : judge F p ≡ gives (decoded F p) → operands_ok (definitions_of (decoded F p) F) is vs (v ∷ []) ≡ false
      → on_pack F p (coerced is vs f v) ≡ refuses 7
  unfolding coerced
  coerce_ill j e = pack_passed F p (coerced is vs f v) j ∙ rw e

  pub coerce_goes : judge F p ≡ gives (decoded F p) → operands_ok (definitions_of (decoded F p) F) is vs (v ∷ []) ≡ true
      → on_pack F p (coerced is vs f v) ≡ f (val_of is vs v)
  unfolding coerced
  coerce_goes j e = pack_passed F p (coerced is vs f v) j ∙ rw e
