-- An instruction that stands in a pack has an operand within its limit. Assumes nothing.
use mathlib.Core.Path.{◌≡◌, refl, subst}
use mathlib.Core.Bool.{Bool, true, false, cond}
use mathlib.Core.List.{List}
use mathlib.Core.Option.{Option, some}
use Prim.Native.Nat.{ℕ, ◌+◌}
use native.Mathlib.Omega.{arith}
use lib.Dec.{ltb, eqb}
use borrow.Author.Tests.{ltb-true}
use Rattle.pack.specs.Bytes.{byte, u32, i32}
use Rattle.pack.specs.Format.{slot_limit}
use Rattle.pack.specs.Instruction.{Push, push_bool, push_int, push_float, push_list, push_slot, push_void, Instr, op, push, given, instruction, Allowed}

module _ (L : ℕ) (i : Instr) where
  -- the instruction that a test picks
  choose : (t : Bool) (x y : Option Instr) → (t ≡ true → x ≡ some i → Allowed L i) → (y ≡ some i → Allowed L i) → cond t x y ≡ some i → Allowed L i
  choose true x y f g e = f refl e
  choose false x y f g e = g e

  is : (j : Instr) → Allowed L j → some j ≡ some i → Allowed L i
  is j h e = let q : j ≡ i = cc in subst (Allowed L) q h

  -- one whose operand is tested
  tested : (t : Bool) (v : Push) → (t ≡ true → Allowed L (push v)) → given t v ≡ some i → Allowed L i
  tested true v h e = is (push v) (h refl) e
  tested false v h e = let z : ◌≡◌ {A = ℕ} 0 1 = cc in absurd (omega arith)

pub allowed : (L : ℕ) (p : List ℕ) (at : ℕ) (i : Instr) → instruction L p at ≡ some i → Allowed L i
unfolding instruction
allowed L p at i =
    choose L i (ltb (byte p at) 32) _ _ (λ t. is L i (op (byte p at)) (ltb-true _ _ t))
    (choose L i (eqb (byte p at) 32) _ _ (λ t. tested L i (ltb (byte p (at + 1)) 2) (push_bool (eqb (byte p (at + 1)) 1)) (λ u. tt))
    (choose L i (eqb (byte p at) 33) _ _ (λ t. is L i (push (push_int (i32 p (at + 1)))) tt)
    (choose L i (eqb (byte p at) 34) _ _ (λ t. is L i (push (push_float (u32 p (at + 1)))) tt)
    (choose L i (eqb (byte p at) 35) _ _ (λ t. tested L i (ltb (byte p (at + 1)) L) (push_list (byte p (at + 1))) (λ u. ltb-true _ _ u))
    (choose L i (eqb (byte p at) 36) _ _ (λ t. tested L i (ltb (byte p (at + 1)) slot_limit) (push_slot (byte p (at + 1))) (λ u. ltb-true _ _ u))
    (choose L i (eqb (byte p at) 37) _ _ (λ t. is L i (push push_void) tt)
    (λ e. let z : ◌≡◌ {A = ℕ} 0 1 = cc in absurd (omega arith))))))))
