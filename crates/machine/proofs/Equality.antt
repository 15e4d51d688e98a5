-- Two slots' Lists compared by a sheet: what vetting forecasts, and how the run ends. Assumes nothing.
use mathlib.Core.Path.{◌≡◌, refl, ◌∙◌}
use mathlib.Core.Bool.{Bool, true, not}
use mathlib.Core.List.{List, [], ◌∷◌}
use Prim.Native.Nat.{ℕ}
use native.Mathlib.Omega.{arith}
use lib.ListN.{get_or}
use Rattle.op.specs.Op.{op_equal, op_not_equals}
use Rattle.ink_number.specs.Answer.{gives}
use Rattle.ink_list.specs.Entries.{Entry, items}
use Rattle.ink_list.specs.Ops.{equal}
use Rattle.ink_value.specs.Val.{Val, bool, list, void}
use Rattle.ink_value.specs.declared.Kind.{Kind}
use Rattle.ink_value.specs.declared.Kind.TheVariants as K
use Rattle.operator_kinds.specs.Kinds.{known, unary, arity, kind_binary, kind_apply}
use Rattle.native_function_call.proofs.Equality.{equals, not_equals_lem}
use Rattle.pack.specs.Bodies.{Pack}
use Rattle.pack.specs.Bytes.{number}
use Rattle.pack.specs.Read.{definitions_of, sheet_of}
use Rattle.pack.specs.declared.format.Format.{Format}
use Rattle.pack.specs.Instruction.{instruction, instructions}
use Rattle.pack.proofs.OneSheet.{one_sheet, pack_of}
use Rattle.machine.specs.Machine.{ended, vet}
use Rattle.machine.specs.Whole.{opened, sheet_run}
use Rattle.machine.proofs.Slots.{of_slots, slots_vetted, slots_run, one_opens}

module _ (j k : ℕ) where
  -- "vetting forecasts Bool for them"
  pub equal_vetted : (kinds : List Kind) → get_or kinds j K.Void ≡ K.List → get_or kinds k K.Void ≡ K.List
      → ((vet (of_slots j k op_equal) kinds).end ≡ ended K.Bool) × ((vet (of_slots j k op_not_equals) kinds).end ≡ ended K.Bool)
  unfolding known unary arity kind_binary kind_apply
  equal_vetted kinds left right =
      (slots_vetted op_equal refl refl j k kinds ∙ rw (left, right) refl, slots_vetted op_not_equals refl refl j k kinds ∙ rw (left, right) refl)

  -- a call for a run, of any pack that is opened
  module _ (F : Format) (bytes : List ℕ) (s : ℕ) (memory : Pack → Bool) (slots : List Val) (d : Pack) (opens : opened F bytes s memory ≡ gives d) where
    module _ (p q : ℕ) (a b : List Entry) (left : get_or slots j void ≡ list p a) (right : get_or slots k void ≡ list q b) where
      -- the Bool that says whether two Lists have the same items, or have not, whatever their values and origin sets are
      pub equal_call : sheet_of d s ≡ of_slots j k op_equal → (sheet_run F bytes s memory slots).end ≡ ended (bool (equal (items a) (items b)))
      unfolding known unary arity
      equal_call e =
          slots_run op_equal refl F bytes s memory slots d opens refl j k e
          ∙ rw (left, right, equals (definitions_of d F) p q a b)

      pub not_equals_call : sheet_of d s ≡ of_slots j k op_not_equals → (sheet_run F bytes s memory slots).end ≡ ended (bool (not (equal (items a) (items b))))
      unfolding known unary arity
      not_equals_call e =
          slots_run op_not_equals refl F bytes s memory slots d opens refl j k e
          ∙ rw (left, right, not_equals_lem (definitions_of d F) p q a b)

-- the conditions can be met, in every format: by a pack of that sheet alone, for all Lists in slots 0 and 1
abbrev code : List ℕ
code = 36 ∷ 0 ∷ 36 ∷ 1 ∷ op_equal ∷ []

pub equal_met : (F : Format) (memory : Pack → Bool) → memory (pack_of (of_slots 0 1 op_equal)) ≡ true → (p q : ℕ) (a b : List Entry) (slots : List Val)
    → (sheet_run F (one_sheet F code) 0 memory (list p a ∷ list q b ∷ slots)).end ≡ ended (bool (equal (items a) (items b)))
unfolding number instruction instructions
equal_met F memory enough p q a b slots =
    let program = of_slots 0 1 op_equal in
    equal_call 0 1 F (one_sheet F code) 0 memory (list p a ∷ list q b ∷ slots) (pack_of program)
    (one_opens F code program memory (omega arith) refl enough) p q a b refl refl refl
