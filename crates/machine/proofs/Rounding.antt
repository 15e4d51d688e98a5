-- A slot rounded by a sheet: what vetting forecasts, and how the run ends. Assumes nothing.
use mathlib.Core.Path.{◌≡◌, refl, ◌∙◌}
use mathlib.Core.Bool.{Bool, true}
use mathlib.Core.List.{List, [], ◌∷◌}
use Prim.Native.Nat.{ℕ}
use native.Mathlib.Omega.{arith}
use lib.ListN.{get_or}
use lib.Ieee.{Float}
use Rattle.op.specs.Op.{op_floor, op_ceiling}
use Rattle.ink_number.specs.Answer.{Answer, gives, refuses}
use Rattle.binary32.specs.Binary32.{Binary32, Exactly}
use Rattle.binary32.specs.Operations.{Floor, Ceiling}
use Rattle.binary32.specs.Real.{floor_f, ceiling_f}
use Rattle.binary32.proofs.Meets.{floor_meets, ceiling_meets}
use Rattle.ink_value.specs.Val.{Val, float, void}
use Rattle.ink_value.specs.declared.Kind.{Kind}
use Rattle.ink_value.specs.declared.Kind.TheVariants as K
use Rattle.operator_kinds.specs.Kinds.{known, unary, arity, kind_unary, kind_apply}
use Rattle.native_function_call.specs.Rounding.{rounded}
use Rattle.native_function_call.proofs.Rounding.{floors, ceilings}
use Rattle.pack.specs.Bodies.{Pack}
use Rattle.pack.specs.Bytes.{number}
use Rattle.pack.specs.Read.{definitions_of, sheet_of}
use Rattle.pack.specs.declared.format.Format.{Format}
use Rattle.pack.specs.Instruction.{instruction, instructions}
use Rattle.pack.proofs.OneSheet.{one_sheet, pack_of}
use Rattle.machine.specs.Machine.{ended, vet}
use Rattle.machine.specs.Whole.{opened, sheet_run}
use Rattle.machine.proofs.Slots.{of_slot, end_at, slot_vetted, slot_run, one_opens}

-- the kind of what is rounded: a Float's is kept, and a Bool goes by its Int
abbrev pub rounded_kind : Kind → Answer Kind
rounded_kind K.Bool = gives K.Int
rounded_kind K.Int = gives K.Int
rounded_kind K.Float = gives K.Float
rounded_kind K.List = refuses 13
rounded_kind K.Void = refuses 11

of_kind : (k : Kind) → (kind_apply op_floor (k ∷ []) ≡ rounded_kind k) × (kind_apply op_ceiling (k ∷ []) ≡ rounded_kind k)
unfolding unary arity kind_unary kind_apply
of_kind K.Bool = (refl, refl)
of_kind K.Int = (refl, refl)
of_kind K.Float = (refl, refl)
of_kind K.List = (refl, refl)
of_kind K.Void = (refl, refl)

module _ (j : ℕ) where
  -- "vetting covers both operators as it covers the rest"
  pub rounding_vetted : (kinds : List Kind)
      → ((vet (of_slot j op_floor) kinds).end ≡ end_at 1 (rounded_kind (get_or kinds j K.Void)))
      × ((vet (of_slot j op_ceiling) kinds).end ≡ end_at 1 (rounded_kind (get_or kinds j K.Void)))
  unfolding known unary arity
  rounding_vetted kinds =
      let e = of_kind (get_or kinds j K.Void) in
      (slot_vetted op_floor refl refl j kinds ∙ rw e.0, slot_vetted op_ceiling refl refl j kinds ∙ rw e.1)

  -- a call for a run, of any pack that is opened
  module _ (F : Format) (p : List ℕ) (s : ℕ) (memory : Pack → Bool) (slots : List Val) (d : Pack) (opens : opened F p s memory ≡ gives d) where
    pub floor_call : sheet_of d s ≡ of_slot j op_floor → (sheet_run F p s memory slots).end ≡ end_at 1 (rounded floor_f (get_or slots j void))
    unfolding known unary arity
    floor_call e = slot_run op_floor refl F p s memory slots d opens refl j e ∙ rw (floors (definitions_of d F) (get_or slots j void))

    pub ceiling_call : sheet_of d s ≡ of_slot j op_ceiling → (sheet_run F p s memory slots).end ≡ end_at 1 (rounded ceiling_f (get_or slots j void))
    unfolding known unary arity
    ceiling_call e = slot_run op_ceiling refl F p s memory slots d opens refl j e ∙ rw (ceilings (definitions_of d F) (get_or slots j void))

-- the conditions can be met, in every format: by a pack of that sheet alone, for every Float in slot 0, and the run ends in the integral
-- value nearest from below, or above
abbrev code : ℕ → List ℕ
code o = 36 ∷ 0 ∷ o ∷ []

module _ (F : Format) (memory : Pack → Bool) (x : Float) (fits : Binary32 x) (slots : List Val) where
  abbrev EndsIn : ℕ → (Float → Type 0) → Type 0
  EndsIn o P = (y : Float) × Exactly P y × ((sheet_run F (one_sheet F (code o)) 0 memory (float x ∷ slots)).end ≡ ended (float y))

  pub floor_met : memory (pack_of (of_slot 0 op_floor)) ≡ true → EndsIn op_floor (Floor x)
  unfolding number instruction instructions
  floor_met enough =
      let program = of_slot 0 op_floor in
      let opens = one_opens F (code op_floor) program memory (omega arith) refl enough in
      (floor_f x, floor_meets x fits, floor_call 0 F (one_sheet F (code op_floor)) 0 memory (float x ∷ slots) (pack_of program) opens refl)

  pub ceiling_met : memory (pack_of (of_slot 0 op_ceiling)) ≡ true → EndsIn op_ceiling (Ceiling x)
  unfolding number instruction instructions
  ceiling_met enough =
      let program = of_slot 0 op_ceiling in
      let opens = one_opens F (code op_ceiling) program memory (omega arith) refl enough in
      (ceiling_f x, ceiling_meets x fits, ceiling_call 0 F (one_sheet F (code op_ceiling)) 0 memory (float x ∷ slots) (pack_of program) opens refl)
