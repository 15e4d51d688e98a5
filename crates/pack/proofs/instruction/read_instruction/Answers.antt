-- `pack::instruction::read_instruction` meets its contract: a whole instruction stands there, so the bytes of its operand do too. Assumes
-- nothing.
use Prim.Native.Nat.{ℕ, ◌+◌, ◌≤◌}
use mathlib.Core.List.{List}
use mathlib.Core.Option.{some}
use mathlib.Core.Path.{◌≡◌, sym, ap, ◌∙◌}
use native.Mathlib.Omega.{arith}
use lib.Dec.{ltb, eqb}
use lib.IntN.{ℤ}
use lib.ListN.{length}
use mir.Facts.{to_z-of_z}
use mir.Syntax.{w32}
use Rattle.pack.specs.Bytes.{byte}
use Rattle.pack.specs.Contents.{literal_count}
use Rattle.pack.specs.Format.{slot_limit}
use Rattle.pack.specs.Instruction.{push, push_bool, push_int, push_float, push_list, push_slot, instruction}
use Rattle.pack.specs.Read.{Whole}
use Rattle.pack.proofs.Programs.{reads}
use Rattle.pack.proofs.Steps.{is_op, is_bool_lem, is_int_lem, is_float_lem, is_list_lem, is_slot, is_void_lem, is_none, room, room_some, room_given, not_none}
use Rattle.pack.proofs.instruction.read_instruction.Goals as goal

-- an instruction with a tested byte: what it is, and that its two bytes stand
module _ {p : List ℕ} {at : ℕ} (w : Whole p at) where
  a_bool : byte p at ≡ 32 → (instruction (literal_count p) p at ≡ some (push (push_bool (eqb (byte p (at + 1)) 1)))) × (at + 2 ≤ length p)
  a_bool e =
      room_given at (length p) w.stands w.within (ltb (byte p (at + 1)) 2) (push_bool (eqb (byte p (at + 1)) 1)) (is_bool_lem (literal_count p) p at e)

  a_list : byte p at ≡ 35 → (instruction (literal_count p) p at ≡ some (push (push_list (byte p (at + 1))))) × (at + 2 ≤ length p)
  a_list e =
      room_given at (length p) w.stands w.within (ltb (byte p (at + 1)) (literal_count p)) (push_list (byte p (at + 1))) (is_list_lem (literal_count p) p at e)

  a_slot : byte p at ≡ 36 → (instruction (literal_count p) p at ≡ some (push (push_slot (byte p (at + 1))))) × (at + 2 ≤ length p)
  a_slot e =
      room_given at (length p) w.stands w.within (ltb (byte p (at + 1)) slot_limit) (push_slot (byte p (at + 1))) (is_slot (literal_count p) p at e)

  -- one of the codes that there are
  known : 38 ≤ byte p at → ⊥
  known h = not_none at (length p) w.stands w.within (is_none (literal_count p) p at h)

pub bounds-p-at : goal.bounds-p-at
bounds-p-at c = room_some c.args.at (length c.args.p.now) c.requires.stands c.requires.within

pub bounds-p-at-in-32 : goal.bounds-p-at-in-32
bounds-p-at-in-32 c = omega (arith, (a_bool c.requires c.in-32.is).1)

pub returns-in-32 : goal.returns-in-32
returns-in-32 c = reads c.args.p.now c.args.at _ (a_bool c.requires c.in-32.is).0

pub i32_at-requires : goal.i32_at-requires
i32_at-requires c =
    let a = c.args in
    let p = a.p.now in
    omega (arith, room a.at (length p) c.requires.stands c.requires.within _ (is_int_lem (literal_count p) p a.at c.in-33.is))

pub returns-in-33 : goal.returns-in-33
returns-in-33 c =
    let p = c.args.p.now in
    reads p c.args.at _
    (is_int_lem (literal_count p) p c.args.at c.in-33.is ∙ ap (λ (z : ℤ). some (push (push_int z))) (sym (to_z-of_z {w = w32} (record { sfits = c.i32_at.type_inv }) ∙ c.i32_at.ensures)))

pub u32_at-requires : goal.u32_at-requires
u32_at-requires c =
    let a = c.args in
    let p = a.p.now in
    omega (arith, room a.at (length p) c.requires.stands c.requires.within _ (is_float_lem (literal_count p) p a.at c.in-34.is))

pub returns-in-34 : goal.returns-in-34
returns-in-34 c =
    let p = c.args.p.now in
    reads p c.args.at _
    (is_float_lem (literal_count p) p c.args.at c.in-34.is ∙ ap (λ (n : ℕ). some (push (push_float n))) (sym c.u32_at.ensures))

pub bounds-p-at-in-35 : goal.bounds-p-at-in-35
bounds-p-at-in-35 c = omega (arith, (a_list c.requires c.in-35.is).1)

pub returns-in-35 : goal.returns-in-35
returns-in-35 c = reads c.args.p.now c.args.at _ (a_list c.requires c.in-35.is).0

pub bounds-p-at-in-36 : goal.bounds-p-at-in-36
bounds-p-at-in-36 c = omega (arith, (a_slot c.requires c.in-36.is).1)

pub returns-in-36 : goal.returns-in-36
returns-in-36 c = reads c.args.p.now c.args.at _ (a_slot c.requires c.in-36.is).0

pub returns-then-code-lt-BOOL : goal.returns-then-code-lt-BOOL
returns-then-code-lt-BOOL c =
    let p = c.args.p.now in
    rw c.from.ensures (reads p c.args.at _ (is_op (literal_count p) p c.args.at (omega arith)))

pub returns-in_default : goal.returns-in_default
returns-in_default c =
    let p = c.args.p.now in
    let high = known c.requires in
    reads p c.args.at _ (is_void_lem (literal_count p) p c.args.at (omega arith))
