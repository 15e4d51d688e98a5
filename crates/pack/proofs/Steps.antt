-- Instructions: what each first byte makes of one, and how the instructions from a position go on after the first. Assumes nothing.
use Prim.Native.Nat.{ℕ, zero, suc, ◌+◌, ◌-◌, ◌≤◌, ◌<◌}
use mathlib.Core.Bool.{Bool, true, false, cond}
use mathlib.Core.List.{List, []}
use mathlib.Core.Option.{Option, some, none}
use mathlib.Core.Path.{◌≡◌, refl, sym, ap, ◌∙◌, subst}
use native.Mathlib.Omega.{arith}
use lib.Dec.{leb, ltb, eqb}
use borrow.Author.Tests.{lt-ltb, le-ltb, leb-true, eq-eqb, ne_eqb}
use Rattle.std.specs.Prelude.{Some, None}
use Rattle.pack.specs.Bytes.{byte, u32, i32}
use Rattle.pack.specs.Format.{slot_limit}
use Rattle.pack.specs.Instruction.{Push, push_bool, push_int, push_float, push_list, push_slot, push_void, Instr, op, push, width, given, taken, instruction, instructions, onward, before, is_some}

-- an operand that is tested and an instruction of two bytes
pub tested : (at end : ℕ) (t : Bool) (v : Push) → width (push v) ≡ 2 → cond t (cond (leb (at + 2) end) (Some 2) None) None ≡ taken at end (given t v)
tested at end true v e = rw e
tested at end false v e = refl

module _ (L : ℕ) (p : List ℕ) (at : ℕ) where
  pub is_op : byte p at < 32 → instruction L p at ≡ some (op (byte p at))
  unfolding instruction
  is_op h = rw (lt-ltb _ _ h)

  pub is_bool_lem : byte p at ≡ 32 → instruction L p at ≡ given (ltb (byte p (at + 1)) 2) (push_bool (eqb (byte p (at + 1)) 1))
  unfolding instruction
  is_bool_lem h = rw h

  pub is_int_lem : byte p at ≡ 33 → instruction L p at ≡ some (push (push_int (i32 p (at + 1))))
  unfolding instruction
  is_int_lem h = rw h

  pub is_float_lem : byte p at ≡ 34 → instruction L p at ≡ some (push (push_float (u32 p (at + 1))))
  unfolding instruction
  is_float_lem h = rw h

  pub is_list_lem : byte p at ≡ 35 → instruction L p at ≡ given (ltb (byte p (at + 1)) L) (push_list (byte p (at + 1)))
  unfolding instruction
  is_list_lem h = rw h

  pub is_slot : byte p at ≡ 36 → instruction L p at ≡ given (ltb (byte p (at + 1)) slot_limit) (push_slot (byte p (at + 1)))
  unfolding instruction
  is_slot h = rw h

  pub is_void_lem : byte p at ≡ 37 → instruction L p at ≡ some (push push_void)
  unfolding instruction
  is_void_lem h = rw h

  pub is_none : 38 ≤ byte p at → instruction L p at ≡ none
  unfolding instruction
  is_none h =
      rw (
        le-ltb (byte p at) 32 (omega arith),
        ne_eqb (byte p at) 32 (λ e. omega arith),
        ne_eqb (byte p at) 33 (λ e. omega arith),
        ne_eqb (byte p at) 34 (λ e. omega arith),
        ne_eqb (byte p at) 35 (λ e. omega arith),
        ne_eqb (byte p at) 36 (λ e. omega arith),
        ne_eqb (byte p at) 37 (λ e. omega arith),
      )

pub wide_some : (i : Instr) → 0 < width i
wide_some (op n) = omega arith
wide_some (push (push_bool b)) = omega arith
wide_some (push (push_int z)) = omega arith
wide_some (push (push_float n)) = omega arith
wide_some (push (push_list l)) = omega arith
wide_some (push (push_slot s)) = omega arith
wide_some (push push_void) = omega arith

-- ---- the instructions from a position

some_where : (t : Bool) → is_some {A = List Instr} (cond t (some []) none) ≡ t
some_where true = refl
some_where false = refl

pub some_before : (o : Option (List Instr)) (i : Instr) → is_some (before o i) ≡ is_some o
some_before none i = refl
some_before (some l) i = refl

module _ (at end : ℕ) (rest : ℕ → Option (List Instr)) where
  stop : (i : Instr) (t : Bool) → cond t (Some (width i)) None ≡ None → cond t (before (rest (at + width i)) i) none ≡ none
  stop i true e = absurd (cc)
  stop i false e = refl

  go : (i : Instr) (t : Bool) (n : ℕ) → cond t (Some (width i)) None ≡ Some n → (n ≡ width i) × (t ≡ true)
  go i true n e = ((cc), refl)
  go i false n e = absurd (cc)

  -- no instruction that ends in time: no list
  pub stops : (o : Option Instr) → taken at end o ≡ None → onward at end rest o ≡ none
  stops none e = refl
  stops (some i) e = stop i (leb (at + width i) end) e

  -- an instruction of n bytes, which ends in time, and the rest after it
  pub goes : (o : Option Instr) (n : ℕ) → taken at end o ≡ Some n → (i : Instr) × (o ≡ some i) × (n ≡ width i) × (at + n ≤ end) × (onward at end rest o ≡ before (rest (at + n)) i)
  goes none n e = absurd (cc)
  goes (some i) n e =
      let w = go i (leb (at + width i) end) n e in
      (i, refl, w.0, subst (λ (k : ℕ). at + k ≤ end) (sym w.0) (leb-true _ _ w.1), rw (w.1, w.0))

module _ (L : ℕ) (p : List ℕ) where
  pub at_end : (n at : ℕ) → instructions L p n at at ≡ some []
  unfolding instructions
  at_end zero at = rw (eq-eqb at at refl)
  at_end (suc n) at = rw (eq-eqb at at refl)

  pub none_left : (at end : ℕ) → at < end → instructions L p 0 at end ≡ none
  unfolding instructions
  none_left at end h = rw (ne_eqb at end (λ e. omega arith))

  pub one_more : (n at end : ℕ) → at < end → 0 < n → instructions L p n at end ≡ onward at end (λ a. instructions L p (n - 1) a end) (instruction L p at)
  unfolding instructions
  one_more zero at end h k = absurd (omega arith)
  one_more (suc n) at end h k = let m : suc n - 1 ≡ n = omega arith in rw (ne_eqb at end (λ e. omega arith), m)

-- a loop's turn at a position before the end: the instruction there is not well formed, or takes k bytes
module _ (L : ℕ) (p : List ℕ) (n at end : ℕ) (more : at < end) where
  pub ill : 0 < n → taken at end (instruction L p at) ≡ None → is_some (instructions L p n at end) ≡ false
  ill h e =
      ap is_some (one_more L p n at end more h ∙ stops at end (λ a. instructions L p (n - 1) a end) (instruction L p at) e)

  pub well : 0 < n → (k : ℕ) → taken at end (instruction L p at) ≡ Some k → (at + k ≤ end) × (is_some (instructions L p (n - 1) (at + k) end) ≡ is_some (instructions L p n at end))
  well h k e =
      let g = goes at end (λ a. instructions L p (n - 1) a end) (instruction L p at) k e in (
        g.3,
        sym (some_before (instructions L p (n - 1) (at + k) end) g.0) ∙ sym (ap is_some (one_more L p n at end more h ∙ g.4)),
      )

pub ended : (L : ℕ) (p : List ℕ) (n at end : ℕ) → at ≤ end → end ≤ at → is_some (instructions L p n at end) ≡ true
ended L p n at end h k =
    let e : end ≡ at = omega arith in
    rw e (ap is_some (at_end L p n at))

-- where no more may follow: whether this is the end
pub spent : (L : ℕ) (p : List ℕ) (at end : ℕ) → is_some (instructions L p 0 at end) ≡ eqb at end
unfolding instructions
spent L p at end = some_where (eqb at end)

-- what is known where the instruction i stands, and ends in time
module _ (at end : ℕ) {o : Option Instr} {i : Instr} (stands : o ≡ some i) (whole : at + width i ≤ end) where
  pub room_some : at < end
  room_some = omega (arith, wide_some i)

  pub room : (j : Instr) → o ≡ some j → at + width j ≤ end
  room j e = let s : i ≡ j = cc in rw (← s) whole

  -- its operand was tested
  pub room_given : (t : Bool) (v : Push) → o ≡ given t v → (o ≡ some (push v)) × (at + width (push v) ≤ end)
  room_given true v e = (e, room (push v) e)
  room_given false v e = absurd (let z : ◌≡◌ {A = ℕ} 0 1 = cc in omega arith)

  pub not_none : o ≡ none → ⊥
  not_none e = let z : ◌≡◌ {A = ℕ} 0 1 = cc in omega arith
