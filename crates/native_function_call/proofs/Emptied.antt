-- A List that Subtract empties still knows its origins: what the operators answer, and what Invert and All then give. Assumes nothing.
use mathlib.Core.Path.{◌≡◌, refl, ap, ◌∙◌}
use mathlib.Core.List.{List, [], ◌∷◌}
use Prim.Native.Nat.{ℕ}
use native.Mathlib.Omega.{arith}
use lib.IntN.{ℤ}
use Rattle.op.specs.Op.{op_subtract, op_intersect, op_all, op_invert}
use Rattle.ink_number.specs.Answer.{Answer, gives}
use Rattle.ink_list.specs.Entries.{Entry, items}
use Rattle.ink_list.specs.Ops.{without, intersect}
use Rattle.ink_list.proofs.SiftLaws.{without_self}
use Rattle.list_definitions.specs.Defs.{ListDefinitions, origins_of, all, decrement}
use Rattle.list_definitions.proofs.DefLaws.{all_is}
use Rattle.ink_value.specs.Val.{Val, int, list}
use Rattle.ink_value.specs.declared.Kind.TheVariants as K
use Rattle.list_operators.specs.Lists.{list_binary, unary_l, shift_l}
use Rattle.list_pairs.specs.Pairs.{merge_l}
use Rattle.operator_kinds.specs.Kinds.{unary, arity, kind_unary, kind_binary, kind_apply}
use Rattle.result_origins.specs.Origins.{origins_kept, origins_after}
use Rattle.result_origins.proofs.Rule.{other_operator, other_right}
use Rattle.native_function_call.specs.Apply.{apply_op, compute}
use Rattle.native_function_call.proofs.Calling.{apply_gives}

module _ (u : ListDefinitions) (p : ℕ) (a : List Entry) where
  -- a List with the origins of its items
  abbrev listed : List Entry → Val
  listed es = list (origins_of u.ends (items es)) es

  -- a result, by its entries
  abbrev result : ℕ → List Val → List Entry → Answer Val
  result o vs es = gives (list (origins_after u.ends o vs (items es)) es)

  module _ (q : ℕ) (b : List Entry) where
    abbrev lists : List Val
    lists = list p a ∷ list q b ∷ []

    subtracts : apply_op u op_subtract lists ≡ result op_subtract lists (without u.limit a (items b))
    unfolding compute unary arity kind_binary kind_apply list_binary merge_l
    subtracts = apply_gives u op_subtract lists K.List refl

    -- "Subtract on two Lists with an empty result now keeps the left operand's origin set."
    pub subtract_none : without u.limit a (items b) ≡ [] → apply_op u op_subtract lists ≡ gives (list p [])
    unfolding origins_after origins_kept
    subtract_none e = subtracts ∙ ap (result op_subtract lists) e

    -- with something left it has the origins of its items
    pub subtract_some : (x : Entry) (es : List Entry) → without u.limit a (items b) ≡ x ∷ es → apply_op u op_subtract lists ≡ gives (listed (x ∷ es))
    unfolding origins_after
    subtract_some x es e = subtracts ∙ ap (result op_subtract lists) e

    -- so has Intersect, empty or not
    pub intersects : apply_op u op_intersect lists ≡ gives (listed (intersect u.limit a (items b)))
    unfolding compute unary arity kind_binary kind_apply list_binary merge_l
    intersects =
        let es = intersect u.limit a (items b) in
        apply_gives u op_intersect lists K.List refl
        ∙ ap (λ (o : ℕ). gives (list o es)) (other_operator u.ends op_intersect lists (items es) (λ e. omega arith))

  -- and Subtract of a List and an Int
  pub subtracts_int : (n : ℤ) → apply_op u op_subtract (list p a ∷ int n ∷ []) ≡ gives (listed (decrement u.ends u.defined p n a))
  unfolding compute unary arity kind_binary kind_apply list_binary shift_l
  subtracts_int n =
      let es = decrement u.ends u.defined p n a in
      apply_gives u op_subtract (list p a ∷ int n ∷ []) K.List refl
      ∙ ap (λ (o : ℕ). gives (list o es)) (other_right u.ends op_subtract (list p a) (int n) (items es) refl)

  -- a List less itself
  pub subtract_self : apply_op u op_subtract (list p a ∷ list p a ∷ []) ≡ gives (list p [])
  subtract_self = subtract_none p a (without_self u.limit a)

  -- All, and Invert of an empty List, go by the set: all items of its definitions
  pub alls : apply_op u op_all (list p a ∷ []) ≡ gives (listed (all u.ends u.defined p))
  unfolding compute unary arity kind_unary kind_apply unary_l
  alls =
      let es = all u.ends u.defined p in
      apply_gives u op_all (list p a ∷ []) K.List refl
      ∙ ap (λ (o : ℕ). gives (list o es)) (other_operator u.ends op_all (list p a ∷ []) (items es) (λ e. omega arith))

  pub inverts_none : apply_op u op_invert (list p [] ∷ []) ≡ gives (listed (all u.ends u.defined p))
  unfolding compute unary arity kind_unary kind_apply unary_l
  inverts_none =
      let es = all u.ends u.defined p in
      apply_gives u op_invert (list p [] ∷ []) K.List refl
      ∙ ap (result op_invert (list p [] ∷ [])) (all_is u.ends u.defined p)
      ∙ ap (λ (o : ℕ). gives (list o es)) (other_operator u.ends op_invert (list p [] ∷ []) (items es) (λ e. omega arith))
