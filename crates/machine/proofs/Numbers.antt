-- Every refusal has a number in use: it is above 0, so that 0 can stand for an answer that is none, and never one that is retired. Each
-- question's number is, and the machine adds none. Assumes nothing.
use mathlib.Core.Path.{◌≡◌, refl}
use mathlib.Core.Bool.{Bool, true, false, cond, ◌||◌}
use mathlib.Core.List.{List, [], ◌∷◌, map}
use mathlib.Core.Option.{Option, none, some}
use Prim.Native.Nat.{ℕ, ◌+◌}
use lib.Dec.{eqb, ltb}
use lib.ListN.{length}
use Rattle.ink_number.specs.Answer.{Answer, gives, refuses, in_use, ask, and_then}
use Rattle.ink_value.specs.Val.{Val, kind_of, is_list}
use Rattle.ink_value.specs.declared.Kind.{Kind}
use Rattle.ink_value.specs.declared.Kind.TheVariants as K
use Rattle.operator_kinds.specs.Kinds.{known, arity, is_void, common, available, result_kind, mixed, mixes, kind_unary, kind_binary, kind_range, kind_apply}
use Rattle.list_definitions.specs.Defs.{ListDefinitions}
use Rattle.native_function_call.specs.Apply.{apply_op, Agree}
use Rattle.native_function_call.proofs.Agree.{agree}
use Rattle.pack.specs.Bodies.{Pack, decoded}
use Rattle.pack.specs.Instruction.{Push, Instr, op, push}
use Rattle.pack.specs.Judge.{question1, question2, question3, question4, question5, judge}
use Rattle.pack.specs.Read.{definitions_of, literal_of, sheet_of}
use Rattle.pack.specs.declared.format.Format.{Format}
use Rattle.machine.specs.Machine.{End, ended, stopped, Run, stack_limit, popped, topped, worked, finish, onward, step, run_from, value_pushed, kind_pushed, run, vet}
use Rattle.machine.specs.Whole.{opened, asked_seven, asked_six, started, sheet_run, sheet_vet}

-- a refusal's number is in use
abbrev pub Numbered : {X : Type 0} → Answer X → Type 0
Numbered (gives x) = Unit {0}
Numbered (refuses r) = in_use r ≡ true

abbrev pub NumberedEnd : {X : Type 0} → End X → Type 0
NumberedEnd (ended x) = Unit {0}
NumberedEnd (stopped r k) = in_use r ≡ true

pub asks : {X : Type 0} (n : ℕ) (b : Bool) (a : Answer X) → in_use n ≡ true → Numbered a → Numbered (ask n b a)
asks n true a h w = w
asks n false a h w = h

pub chosen : {X : Type 0} (b : Bool) (x y : Answer X) → Numbered x → Numbered y → Numbered (cond b x y)
chosen true x y h k = h
chosen false x y h k = k

-- ---- questions 8 to 13, on kinds

unary_numbered : (o : ℕ) (a : Kind) → Numbered (kind_unary o a)
unfolding kind_unary
unary_numbered o a =
    chosen (is_void a) (refuses 11) _ refl
    (chosen (available o (common a a)) (gives (result_kind o (common a a))) (refuses 13) tt refl)

binary_numbered : (o : ℕ) (a b : Kind) → Numbered (kind_binary o a b)
unfolding kind_binary
binary_numbered o a b =
    chosen (is_void a || is_void b) (refuses 11) _ refl
    (chosen (mixed a b) _ _
    (chosen (mixes o a b) (gives (result_kind o K.List)) (refuses 12) tt refl)
    (chosen (available o (common a b)) (gives (result_kind o (common a b))) (refuses 13) tt refl))

range_numbered : (a b c : Kind) → Numbered (kind_range a b c)
unfolding kind_range
range_numbered a b c =
    chosen (is_void a || is_void b || is_void c) (refuses 11) _ refl (chosen (is_list a) (gives K.List) (refuses 13) tt refl)

apply_numbered : (o : ℕ) (ks : List Kind) → Numbered (kind_apply o ks)
unfolding kind_apply
apply_numbered o [] = refl
apply_numbered o (a ∷ []) = chosen (eqb (arity o) 1) (kind_unary o a) (refuses 10) (unary_numbered o a) refl
apply_numbered o (a ∷ b ∷ []) = chosen (eqb (arity o) 2) (kind_binary o a b) (refuses 10) (binary_numbered o a b) refl
apply_numbered o (a ∷ b ∷ c ∷ []) = chosen (eqb (arity o) 3) (kind_range a b c) (refuses 10) (range_numbered a b c) refl
apply_numbered o (a ∷ b ∷ c ∷ d ∷ ks) = refl

-- ---- and on values: the same, and 15

agreed_numbered : (a : Answer Kind) (b : Answer Val) → Agree a b → Numbered a → Numbered b
agreed_numbered (gives k) (gives v) h n = tt
agreed_numbered (gives k) (refuses r) h n = rw h refl
agreed_numbered (refuses r) (gives v) h n = absurd h
agreed_numbered (refuses r) (refuses q) h n = rw h n

pub operator_numbered : (u : ListDefinitions) (o : ℕ) (vs : List Val) → Numbered (apply_op u o vs)
operator_numbered u o vs = agreed_numbered (kind_apply o (map kind_of vs)) (apply_op u o vs) (agree u o vs) (apply_numbered o (map kind_of vs))

-- ---- the machine

topped_numbered : {X : Type 0} (st : List X) (a : Answer X) → Numbered a → Numbered (topped st a)
topped_numbered st (gives x) h = tt
topped_numbered st (refuses r) h = h

finish_numbered : {X : Type 0} (i : ℕ) (st : List X) → NumberedEnd (finish i st)
finish_numbered i [] = refl
finish_numbered i (x ∷ []) = tt
finish_numbered i (x ∷ y ∷ st) = refl

onward_numbered : {X : Type 0} (i : ℕ) (a : Answer (List X)) (k : List X → Run X) → Numbered a → ((st : List X) → NumberedEnd (k st).end)
    → NumberedEnd (onward i a k).end
onward_numbered i (gives st) k h w = w st
onward_numbered i (refuses r) k h w = h

module _ {X : Type 0} (value : Push → X) (apply : ℕ → List X → Answer X) (numbered : (o : ℕ) (xs : List X) → Numbered (apply o xs)) where
  worked_numbered : (o : ℕ) (w : Option (List X × List X)) → Numbered (worked (apply o) w)
  worked_numbered o none = refl
  worked_numbered o (some w) = topped_numbered w.1 (apply o w.0) (numbered o w.0)

  step_numbered : (i : Instr) (st : List X) → Numbered (step value apply i st)
  unfolding step
  step_numbered (op o) st = asks 8 (known o) (worked (apply o) (popped (arity o) [] st)) refl (worked_numbered o (popped (arity o) [] st))
  step_numbered (push v) st = asks 9 (ltb (length st) stack_limit) (gives (value v ∷ st)) refl tt

  from_numbered : (i : ℕ) (xs : List Instr) (st : List X) → NumberedEnd (run_from value apply i xs st).end
  unfolding run_from
  from_numbered i [] st = finish_numbered i st
  from_numbered i (x ∷ xs) st =
      onward_numbered i (step value apply x st) (run_from value apply (i + 1) xs) (step_numbered x st) (from_numbered (i + 1) xs)

-- ---- questions 1 to 7

pub judge_numbered : (F : Format) (p : List ℕ) → Numbered (judge F p)
unfolding judge
judge_numbered F p =
    asks 1 (question1 F p) _ refl
    (asks 2 (question2 p) _ refl
    (asks 3 (question3 F p) _ refl
    (asks 4 (question4 F p) _ refl
    (asks 5 (question5 p) (gives (decoded F p)) refl tt))))

pub then_numbered : {X Y : Type 0} (a : Answer X) (f : X → Answer Y) → Numbered a → ((d : X) → Numbered (f d)) → Numbered (and_then a f)
then_numbered (gives d) f h w = w d
then_numbered (refuses r) f h w = h

started_numbered : {X : Type 0} (a : Answer Pack) (f : Pack → Run X) → Numbered a → ((d : Pack) → NumberedEnd (f d).end) → NumberedEnd (started a f).end
started_numbered (gives d) f h w = w d
started_numbered (refuses r) f h w = h

module _ (F : Format) (p : List ℕ) (s : ℕ) (memory : Pack → Bool) where
  opened_numbered : Numbered (opened F p s memory)
  unfolding opened
  opened_numbered =
      then_numbered (judge F p) (asked_six s memory) (judge_numbered F p)
      (λ d. asks 6 (ltb s (length d.sheets)) (asked_seven memory d) refl (asks 7 (memory d) (gives d) refl tt))

  -- vetting of any bytes
  pub vet_numbered : (kinds : List Kind) → NumberedEnd (sheet_vet F p s memory kinds).end
  vet_numbered kinds =
      started_numbered (opened F p s memory) (λ d. vet (sheet_of d s) kinds) opened_numbered
      (λ d. from_numbered (kind_pushed kinds) kind_apply apply_numbered 0 (sheet_of d s) [])

  -- and a run of them
  pub run_numbered : (slots : List Val) → NumberedEnd (sheet_run F p s memory slots).end
  run_numbered slots =
      started_numbered (opened F p s memory) (λ d. run (definitions_of d F) (sheet_of d s) (literal_of d) slots) opened_numbered
      (λ d. from_numbered (value_pushed (literal_of d) slots) (apply_op (definitions_of d F)) (operator_numbered (definitions_of d F)) 0 (sheet_of d s) [])
