-- `pack_sheets::checked_width` meets its contract, by the first byte. Assumes nothing.
use Prim.Native.Nat.{ℕ, ◌+◌, ◌≤◌}
use mathlib.Core.Bool.{cond}
use mathlib.Core.List.{List}
use mathlib.Core.Logic.{⊎_elim}
use mathlib.Core.Path.{◌≡◌, refl, sym, ◌∙◌}
use native.Mathlib.Nat.{eq-or-lt_of_le}
use native.Mathlib.Omega.{arith}
use lib.Dec.{leb, ltb, eqb}
use Rattle.std.specs.Prelude.{Some, None}
use borrow.Author.Tests.{le-leb}
use Rattle.pack.specs.Bytes.{byte}
use Rattle.pack.specs.Format.{slot_limit}
use Rattle.pack.specs.Instruction.{push_bool, push_list, push_slot, taken, instruction}
use Rattle.pack.proofs.Steps.{tested, is_op, is_bool_lem, is_int_lem, is_float_lem, is_list_lem, is_slot, is_void_lem, is_none}
use Rattle.pack_sheets.proofs.checked_width.Goals as goal

-- an Int or a Float
of_four : (L : ℕ) (p : List ℕ) (at end : ℕ) → 33 ≤ byte p at → byte p at ≤ 34 → taken at end (instruction L p at) ≡ cond (leb (at + 5) end) (Some 5) None
of_four L p at end low high =
    ⊎_elim (λ e. rw (is_int_lem L p at (sym e))) (λ l. rw (is_float_lem L p at (omega arith))) (eq-or-lt_of_le low)

pub returns-then-code-lt-BOOL : goal.returns-then-code-lt-BOOL
returns-then-code-lt-BOOL c =
    let a = c.args in
    rw (is_op a.literals a.p.now a.at (omega arith), le-leb (a.at + 1) a.end (omega arith))

pub returns-in-32 : goal.returns-in-32
returns-in-32 c =
    let a = c.args in
    let p = a.p.now in
    rw (is_bool_lem a.literals p a.at c.in-32.is) (c.with_byte.ensures ∙ tested a.at a.end (ltb (byte p (a.at + 1)) 2) (push_bool (eqb (byte p (a.at + 1)) 1)) refl)

pub returns-in-33 : goal.returns-in-33
returns-in-33 c =
    let a = c.args in
    let p = a.p.now in
    let low : 33 ≤ byte p a.at = omega arith in
    let high : byte p a.at ≤ 34 = omega arith in
    c.with_four.ensures ∙ sym (of_four a.literals p a.at a.end low high)

pub returns-in-35 : goal.returns-in-35
returns-in-35 c =
    let a = c.args in
    let p = a.p.now in
    rw (is_list_lem a.literals p a.at c.in-35.is) (c.with_byte-in-35.ensures ∙ tested a.at a.end (ltb (byte p (a.at + 1)) a.literals) (push_list (byte p (a.at + 1))) refl)

pub returns-in-36 : goal.returns-in-36
returns-in-36 c =
    let a = c.args in
    let p = a.p.now in
    rw (is_slot a.literals p a.at c.in-36.is) (c.with_byte-in-36.ensures ∙ tested a.at a.end (ltb (byte p (a.at + 1)) slot_limit) (push_slot (byte p (a.at + 1))) refl)

pub returns-in-37 : goal.returns-in-37
returns-in-37 c =
    let a = c.args in
    rw (is_void_lem a.literals a.p.now a.at c.in-37.is, le-leb (a.at + 1) a.end (omega arith))

pub returns-in_default : goal.returns-in_default
returns-in_default c =
    let a = c.args in
    rw (is_none a.literals a.p.now a.at (omega arith))

pub returns-in_default-2 : goal.returns-in_default-2
returns-in_default-2 c =
    let a = c.args in
    rw (is_none a.literals a.p.now a.at (omega arith))
