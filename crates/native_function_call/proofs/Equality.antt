-- Equal and NotEquals of two Lists: whether they have the same items, by ink_list.rs's two tests, whatever their values and their origin sets
-- are. Assumes nothing.
use mathlib.Core.Path.{◌≡◌, refl, ap, ◌∙◌}
use mathlib.Core.Bool.{Bool, not}
use mathlib.Core.List.{List, [], ◌∷◌}
use Prim.Native.Nat.{ℕ}
use Rattle.op.specs.Op.{op_equal, op_not_equals}
use Rattle.ink_number.specs.Answer.{gives}
use Rattle.ink_list.specs.Entries.{Entry, items, Rising}
use Rattle.ink_list.specs.Ops.{equal}
use Rattle.ink_list.specs.ByFile.{eq_in_file}
use Rattle.ink_list.proofs.EqualLaws.{equal_as_file}
use Rattle.list_definitions.specs.Defs.{ListDefinitions}
use Rattle.ink_value.specs.Val.{Val, bool, list}
use Rattle.ink_value.specs.declared.Kind.TheVariants as K
use Rattle.list_pairs.specs.Pairs.{test_l}
use Rattle.operator_kinds.specs.Kinds.{unary, arity, kind_binary, kind_apply}
use Rattle.native_function_call.specs.Apply.{apply_op, compute, test_lists}
use Rattle.native_function_call.proofs.Calling.{apply_gives}

module _ (u : ListDefinitions) (p q : ℕ) (a b : List Entry) where
  abbrev lists : List Val
  lists = list p a ∷ list q b ∷ []

  -- "The handbook's meaning is the same items on both sides"
  pub equals : apply_op u op_equal lists ≡ gives (bool (equal (items a) (items b)))
  unfolding compute unary arity kind_binary kind_apply test_lists test_l
  equals = apply_gives u op_equal lists K.Bool refl

  pub not_equals_lem : apply_op u op_not_equals lists ≡ gives (bool (not (equal (items a) (items b))))
  unfolding compute unary arity kind_binary kind_apply test_lists test_l
  not_equals_lem = apply_gives u op_not_equals lists K.Bool refl

  -- "as the equality in ink_list.rs answers": as many items, and each of the left among the right's
  module _ (limit : ℕ) (ra : Rising limit a) (rb : Rising limit b) where
    pub equals_as_file : apply_op u op_equal lists ≡ gives (bool (eq_in_file (items a) (items b)))
    equals_as_file = equals ∙ ap (λ (t : Bool). gives (bool t)) (equal_as_file limit (items a) (items b) ra rb)

    pub not_equals_as_file : apply_op u op_not_equals lists ≡ gives (bool (not (eq_in_file (items a) (items b))))
    not_equals_as_file = not_equals_lem ∙ ap (λ (t : Bool). gives (bool (not t))) (equal_as_file limit (items a) (items b) ra rb)
