-- A step on a stack of values that are formed as literals of the pack leaves one, and so a run ends in one. Assumes nothing.
use mathlib.Core.Path.{refl}
use mathlib.Core.Bool.{Bool, true, false}
use mathlib.Core.List.{List, [], ◌∷◌}
use mathlib.Core.Option.{Option, none, some}
use Prim.Native.Nat.{ℕ, zero, suc, ◌+◌}
use lib.Dec.{ltb}
use lib.ListN.{length, get_or}
use Rattle.ink_number.specs.Answer.{Answer, gives, refuses, ask}
use Rattle.ink_value.specs.Val.{Val, bool, int, float, list, void}
use Rattle.ink_value.specs.Value.{InPack, AllInPack, GivesInPack}
use Rattle.ink_value.proofs.ReadBack.{plain_in_pack}
use Rattle.binary32.specs.Real.{of_bits32}
use Rattle.operator_kinds.specs.Kinds.{known, arity}
use Rattle.list_definitions.specs.Defs.{ListDefinitions}
use Rattle.native_function_call.specs.Apply.{apply_op}
use Rattle.native_function_call.proofs.Results.{apply_formed}
use Rattle.pack.specs.Bodies.{Literal}
use Rattle.pack.specs.Instruction.{Push, push_bool, push_int, push_float, push_list, push_slot, push_void, Instr, op, push}
use Rattle.machine.specs.Machine.{End, ended, stopped, Run, stack_limit, popped, topped, worked, finish, onward, step, run_from, value_pushed, run}

module _ (total d : ℕ) where
  abbrev StepFormed : Answer (List Val) → Type 0
  StepFormed (gives st) = AllInPack total d st
  StepFormed (refuses r) = Unit {0}

  abbrev PoppedFormed : Option (List Val × List Val) → Type 0
  PoppedFormed none = Unit {0}
  PoppedFormed (some p) = AllInPack total d p.0 × AllInPack total d p.1

  popped_formed : (n : ℕ) (xs st : List Val) → AllInPack total d xs → AllInPack total d st → PoppedFormed (popped n xs st)
  popped_formed zero xs st hx hs = (hx, hs)
  popped_formed (suc n) xs [] hx hs = tt
  popped_formed (suc n) xs (x ∷ st) hx hs = popped_formed n (x ∷ xs) st (hs.0, hx) hs.1

  topped_formed : (st : List Val) (a : Answer Val) → AllInPack total d st → GivesInPack total d a → StepFormed (topped st a)
  topped_formed st (gives v) h w = (w, h)
  topped_formed st (refuses r) h w = tt

  ask_formed : (n : ℕ) (t : Bool) (a : Answer (List Val)) → StepFormed a → StepFormed (ask n t a)
  ask_formed n true a p = p
  ask_formed n false a p = tt

  -- the value in which a run ends is formed as a literal
  abbrev pub EndFormed : End Val → Type 0
  EndFormed (ended v) = InPack total d v
  EndFormed (stopped r k) = Unit {0}

  finish_formed : (i : ℕ) (st : List Val) → AllInPack total d st → EndFormed (finish i st)
  finish_formed i [] h = tt
  finish_formed i (x ∷ []) h = h.0
  finish_formed i (x ∷ y ∷ st) h = tt

  onward_formed : (i : ℕ) (a : Answer (List Val)) (k : List Val → Run Val) → StepFormed a → ((st : List Val) → AllInPack total d st → EndFormed (k st).end)
      → EndFormed (onward i a k).end
  onward_formed i (gives st) k h f = f st h
  onward_formed i (refuses r) k h f = tt

  slot_formed : (slots : List Val) → AllInPack total d slots → (n : ℕ) → InPack total d (get_or slots n void)
  slot_formed [] h n = plain_in_pack total d void refl refl
  slot_formed (v ∷ vs) h zero = h.0
  slot_formed (v ∷ vs) h (suc n) = slot_formed vs h.1 n

module _ (u : ListDefinitions) (literals : ℕ → Literal) (slots : List Val)
    (hl : (k : ℕ) → InPack (length u.defined) (length u.ends) (list (literals k).origins (literals k).entries))
    (hs : AllInPack (length u.defined) (length u.ends) slots) where
  -- how many items, and how many definitions
  abbrev total : ℕ
  total = length u.defined

  abbrev count : ℕ
  count = length u.ends

  worked_formed : (o : ℕ) (p : Option (List Val × List Val)) → PoppedFormed total count p → StepFormed total count (worked (apply_op u o) p)
  worked_formed o none h = tt
  worked_formed o (some p) h = topped_formed total count p.1 (apply_op u o p.0) h.1 (apply_formed u o p.0 h.0)

  pushed_formed : (p : Push) → InPack total count (value_pushed literals slots p)
  pushed_formed (push_bool b) = plain_in_pack total count (bool b) refl refl
  pushed_formed (push_int z) = plain_in_pack total count (int z) refl refl
  pushed_formed (push_float n) = plain_in_pack total count (float (of_bits32 n)) refl refl
  pushed_formed (push_list l) = hl l
  pushed_formed (push_slot s) = slot_formed total count slots hs s
  pushed_formed push_void = plain_in_pack total count void refl refl

  step_formed : (x : Instr) (st : List Val) → AllInPack total count st → StepFormed total count (step (value_pushed literals slots) (apply_op u) x st)
  unfolding step
  step_formed (op o) st h = ask_formed total count 8 (known o) _ (worked_formed o (popped (arity o) [] st) (popped_formed total count (arity o) [] st tt h))
  step_formed (push p) st h = ask_formed total count 9 (ltb (length st) stack_limit) _ (pushed_formed p, h)

  from_formed : (i : ℕ) (xs : List Instr) (st : List Val) → AllInPack total count st
      → EndFormed total count (run_from (value_pushed literals slots) (apply_op u) i xs st).end
  unfolding run_from
  from_formed i [] st h = finish_formed total count i st h
  from_formed i (x ∷ xs) st h =
      onward_formed total count i (step (value_pushed literals slots) (apply_op u) x st) (run_from (value_pushed literals slots) (apply_op u) (i + 1) xs)
      (step_formed x st h) (from_formed (i + 1) xs)

  -- a run ends in a value that is formed as a literal of the pack
  pub run_formed : (program : List Instr) → EndFormed total count (run u program literals slots).end
  run_formed program = from_formed 0 program [] tt
