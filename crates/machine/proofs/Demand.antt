-- Demand 3: by induction over the instructions, the stack of kinds is the kinds of the stack. Assumes nothing.
use mathlib.Core.Path.{◌≡◌, refl, sym, ◌∙◌, ap, subst}
use mathlib.Core.Logic.{◌⊎◌, inl, inr}
use mathlib.Core.Bool.{Bool, true, false}
use mathlib.Core.List.{List, [], ◌∷◌, map}
use mathlib.Core.Option.{Option, none, some}
use Prim.Native.Nat.{ℕ, zero, suc, ◌+◌, ◌*◌, ◌-◌, ◌<◌, ◌≤◌}
use native.Mathlib.Omega.{arith}
use native.Mathlib.Nat.{le_of_suc-le-suc, not-suc-le-zero}
use lib.Dec.{ltb}
use lib.ListN.{length, get_or, length-map, get_or-map}
use Rattle.ink_number.specs.Answer.{Answer, gives, refuses, ask}
use Rattle.ink_number.specs.Int.{divisor_question}
use Rattle.ink_value.specs.Val.{Val, void, kind_of, code_of}
use Rattle.ink_value.specs.declared.Kind.{Kind}
use Rattle.operator_kinds.specs.Kinds.{known, arity, kind_apply}
use Rattle.native_function_call.specs.Apply.{apply_op, Agree}
use Rattle.list_definitions.specs.Defs.{ListDefinitions}
use Rattle.native_function_call.proofs.Agree.{agree}
use Rattle.pack.specs.Bodies.{Literal}
use Rattle.pack.specs.Instruction.{Push, push_bool, push_int, push_float, push_list, push_slot, push_void, Instr, op, push}
use Rattle.machine.specs.Machine.{End, ended, stopped, Run, stack_limit, popped, topped, worked, finish, onward, step, run_from, value_pushed, kind_pushed, run, vet}
use Rattle.machine.specs.Foretold.{verdict, top_code, forecast, Begins, StopsByValue, Foretold}

-- ---- one instruction

abbrev StepAgree : Answer (List Kind) → Answer (List Val) → Type 0
StepAgree (gives ks) (gives st) = ks ≡ map kind_of st
StepAgree (gives ks) (refuses r) = r ≡ divisor_question
StepAgree (refuses q) (gives st) = ⊥
StepAgree (refuses q) (refuses r) = r ≡ q

abbrev kinded : List Val × List Val → List Kind × List Kind
kinded p = (map kind_of p.0, map kind_of p.1)

abbrev kinded? : Option (List Val × List Val) → Option (List Kind × List Kind)
kinded? none = none
kinded? (some p) = some (kinded p)

popped_kinds : (n : ℕ) (xs st : List Val) → popped n (map kind_of xs) (map kind_of st) ≡ kinded? (popped n xs st)
popped_kinds zero xs st = refl
popped_kinds (suc n) xs [] = refl
popped_kinds (suc n) xs (x ∷ st) = popped_kinds n (x ∷ xs) st

topped_agree : (st : List Val) (a : Answer Kind) (b : Answer Val) → Agree a b → StepAgree (topped (map kind_of st) a) (topped st b)
topped_agree st (gives k) (gives v) h = rw (← h)
topped_agree st (gives k) (refuses r) h = h
topped_agree st (refuses q) (gives v) h = h
topped_agree st (refuses q) (refuses r) h = h

worked_agree : (u : ListDefinitions) (o : ℕ) (p : Option (List Val × List Val)) → StepAgree (worked (kind_apply o) (kinded? p)) (worked (apply_op u o) p)
worked_agree u o none = refl
worked_agree u o (some p) = topped_agree p.1 (kind_apply o (map kind_of p.0)) (apply_op u o p.0) (agree u o p.0)

ask_agree : (n : ℕ) (t : Bool) (a : Answer (List Kind)) (b : Answer (List Val)) → StepAgree a b → StepAgree (ask n t a) (ask n t b)
ask_agree n true a b h = h
ask_agree n false a b h = refl

module _ (u : ListDefinitions) (lits : ℕ → Literal) (slots : List Val) where
  pushed_kind : (p : Push) → kind_pushed (map kind_of slots) p ≡ kind_of (value_pushed lits slots p)
  pushed_kind (push_bool b) = refl
  pushed_kind (push_int z) = refl
  pushed_kind (push_float x) = refl
  pushed_kind (push_list n) = refl
  pushed_kind (push_slot n) = get_or-map kind_of slots n void
  pushed_kind push_void = refl

  step_agree : (x : Instr) (st : List Val)
      → StepAgree (step (kind_pushed (map kind_of slots)) kind_apply x (map kind_of st)) (step (value_pushed lits slots) (apply_op u) x st)
  unfolding step
  step_agree (op o) st =
      ask_agree 8 (known o) _ _
      (subst (λ (p : Option (List Kind × List Kind)). StepAgree (worked (kind_apply o) p) (worked (apply_op u o) (popped (arity o) [] st)))
      (sym (popped_kinds (arity o) [] st))
      (worked_agree u o (popped (arity o) [] st)))
  step_agree (push p) st =
      subst (λ (n : ℕ). StepAgree (ask 9 (ltb n stack_limit) (gives (kind_pushed (map kind_of slots) p ∷ map kind_of st)))
      (ask 9 (ltb (length st) stack_limit) (gives (value_pushed lits slots p ∷ st))))
      (sym (length-map st kind_of))
      (ask_agree 9 (ltb (length st) stack_limit) _ _ (ap (λ (k : Kind). k ∷ map kind_of st) (pushed_kind p)))

-- ---- whole runs

-- each stack of the run has the kinds of vetting's stack there
abbrev Follows : List (List Kind) → List (List Val) → Type 0
Follows ks [] = Unit {0}
Follows [] (st ∷ sts) = ⊥
Follows (k ∷ ks) (st ∷ sts) = (k ≡ map kind_of st) × Follows ks sts

-- the two ends, of instructions that end before index lim
abbrev EndAgree : ℕ → End Kind → End Val → Type 0
EndAgree lim (ended k) (ended v) = kind_of v ≡ k
EndAgree lim (ended k) (stopped r j) = (r ≡ divisor_question) × (j < lim)
EndAgree lim (stopped q k) (ended v) = ⊥
EndAgree lim (stopped q k) (stopped r j) = ((r ≡ divisor_question) × (j < k)) ⊎ ((r ≡ q) × (j ≡ k))

abbrev Sim : ℕ → Run Kind → Run Val → Type 0
Sim lim a b = Follows a.stacks b.stacks × EndAgree lim a.end b.end

-- vetting ends at an index i or later
abbrev NotBefore : ℕ → End Kind → Type 0
NotBefore i (ended k) = Unit {0}
NotBefore i (stopped q k) = i ≤ k

module _ (value : Push → Kind) where
  abbrev later : (i : ℕ) (e : End Kind) → NotBefore (i + 1) e → NotBefore i e
  later i (ended k) h = tt
  later i (stopped q k) h = omega arith

  finish_not_before : (i : ℕ) (st : List Kind) → NotBefore i (finish i st)
  finish_not_before i [] = omega arith
  finish_not_before i (k ∷ []) = tt
  finish_not_before i (k ∷ l ∷ st) = omega arith

  onward_not_before : (i : ℕ) (a : Answer (List Kind)) (f : List Kind → Run Kind) → ((st : List Kind) → NotBefore (i + 1) (f st).end)
      → NotBefore i (onward i a f).end
  onward_not_before i (gives st) f h = later i (f st).end (h st)
  onward_not_before i (refuses r) f h = omega arith

  not_before : (i : ℕ) (xs : List Instr) (st : List Kind) → NotBefore i (run_from value kind_apply i xs st).end
  unfolding run_from
  not_before i [] st = finish_not_before i st
  not_before i (x ∷ xs) st = onward_not_before i (step value kind_apply x st) (run_from value kind_apply (i + 1) xs) (not_before (i + 1) xs)

finish_agree : (lim i : ℕ) (st : List Val) → EndAgree lim (finish i (map kind_of st)) (finish i st)
finish_agree lim i [] = inr (refl, refl)
finish_agree lim i (v ∷ []) = refl
finish_agree lim i (v ∷ w ∷ st) = inr (refl, refl)

-- the run stops by a value at i, where vetting goes on and ends later
stops : (lim i r : ℕ) (e : End Kind) → i < lim → r ≡ divisor_question → NotBefore (i + 1) e → EndAgree lim e (stopped r i)
stops lim i r (ended k) l h n = (h, l)
stops lim i r (stopped q k) l h n = inl (h, omega arith)

onward_agree : (lim i : ℕ) (a : Answer (List Kind)) (b : Answer (List Val)) (f : List Kind → Run Kind) (g : List Val → Run Val)
    → i < lim → StepAgree a b → ((st : List Kind) → NotBefore (i + 1) (f st).end) → ((st : List Val) → Sim lim (f (map kind_of st)) (g st))
    → Sim lim (onward i a f) (onward i b g)
onward_agree lim i (gives ks) (gives st) f g l h n s = (
  (h, subst (λ (x : List Kind). Follows (f x).stacks (g st).stacks) (sym h) (s st).0),
  subst (λ (x : List Kind). EndAgree lim (f x).end (g st).end) (sym h) (s st).1,
)
onward_agree lim i (gives ks) (refuses r) f g l h n s = (tt, stops lim i r (f ks).end l h (n ks))
onward_agree lim i (refuses q) (gives st) f g l h n s = absurd h
onward_agree lim i (refuses q) (refuses r) f g l h n s = (tt, inr (h, refl))

module _ (u : ListDefinitions) (lits : ℕ → Literal) (slots : List Val) where
  sim : (lim i : ℕ) (xs : List Instr) (st : List Val) → i + length xs ≡ lim
      → Sim lim (run_from (kind_pushed (map kind_of slots)) kind_apply i xs (map kind_of st)) (run_from (value_pushed lits slots) (apply_op u) i xs st)
  unfolding run_from
  sim lim i [] st h = (tt, finish_agree lim i st)
  sim lim i (x ∷ xs) st h =
      onward_agree lim i (step (kind_pushed (map kind_of slots)) kind_apply x (map kind_of st)) (step (value_pushed lits slots) (apply_op u) x st)
      (run_from (kind_pushed (map kind_of slots)) kind_apply (i + 1) xs) (run_from (value_pushed lits slots) (apply_op u) (i + 1) xs)
      (omega arith)
      (step_agree u lits slots x st)
      (not_before (kind_pushed (map kind_of slots)) (i + 1) xs)
      (λ st'. sim lim (i + 1) xs st' (omega arith))

-- ---- what an ended run's stacks are

module _ {X : Type 0} (value : Push → X) (apply : ℕ → List X → Answer X) where
  never_ended : {A : Type 0} (r i : ℕ) (x : X) → ◌≡◌ {A = End X} (stopped r i) (ended x) → A
  never_ended r i x e = let z : ◌≡◌ {A = ℕ} 0 1 = cc in absurd (omega arith)

  onward_length : (i n : ℕ) (x : X) (a : Answer (List X)) (f : List X → Run X)
      → ((st : List X) → (f st).end ≡ ended x → length (f st).stacks ≡ n) → (onward i a f).end ≡ ended x → length (onward i a f).stacks ≡ suc n
  onward_length i n x (gives st) f h e = ap suc (h st e)
  onward_length i n x (refuses r) f h e = never_ended r i x e

  -- an ended run has a stack for each instruction
  pub whole_length : (i : ℕ) (x : X) (ps : List Instr) (st : List X) → (run_from value apply i ps st).end ≡ ended x
      → length (run_from value apply i ps st).stacks ≡ length ps
  unfolding run_from
  whole_length i x [] st e = refl
  whole_length i x (p ∷ ps) st e = onward_length i (length ps) x (step value apply p st) (run_from value apply (i + 1) ps) (whole_length (i + 1) x ps) e

  finished : (i : ℕ) (x : X) (st : List X) → finish i st ≡ ended x → st ≡ x ∷ []
  finished i x [] e = never_ended 17 i x e
  finished i x (y ∷ []) e = cc
  finished i x (y ∷ z ∷ st) e = never_ended 17 i x e

  onward_last : (i n : ℕ) (x : X) (a : Answer (List X)) (f : List X → Run X)
      → ((st : List X) → (f st).end ≡ ended x → get_or (f st).stacks n [] ≡ x ∷ []) → (onward i a f).end ≡ ended x
      → get_or (onward i a f).stacks (suc n) [] ≡ x ∷ []
  onward_last i n x (gives st) f h e = h st e
  onward_last i n x (refuses r) f h e = never_ended r i x e

  onward_only : (i : ℕ) (x : X) (a : Answer (List X)) → (onward i a (run_from value apply (i + 1) [])).end ≡ ended x
      → get_or (onward i a (run_from value apply (i + 1) [])).stacks 0 [] ≡ x ∷ []
  unfolding run_from
  onward_only i x (gives st) e = finished (i + 1) x st e
  onward_only i x (refuses r) e = never_ended r i x e

  -- the last of its stacks holds the value alone
  whole_last : (i : ℕ) (x : X) (p : Instr) (ps : List Instr) (st : List X) → (run_from value apply i (p ∷ ps) st).end ≡ ended x
      → get_or (run_from value apply i (p ∷ ps) st).stacks (length ps) [] ≡ x ∷ []
  unfolding run_from
  whole_last i x p [] st e = onward_only i x (step value apply p st) e
  whole_last i x p (q ∷ qs) st e =
      onward_last i (length qs) x (step value apply p st) (run_from value apply (i + 1) (q ∷ qs)) (whole_last (i + 1) x q qs) e

-- ---- the forecast's bytes

double_suc : (j : ℕ) → 2 * suc j ≡ suc (suc (2 * j))
double_suc j = omega arith

pub forecast_count : (sts : List (List Kind)) (j : ℕ) → j < length sts → get_or (forecast sts) (2 * j) 0 ≡ length (get_or sts j [])
forecast_count [] j h = absurd (not-suc-le-zero h)
forecast_count (st ∷ sts) zero h = refl
forecast_count (st ∷ sts) (suc j) h = rw (double_suc j) (forecast_count sts j (le_of_suc-le-suc h))

pub forecast_top : (sts : List (List Kind)) (j : ℕ) → j < length sts → get_or (forecast sts) (2 * j + 1) 0 ≡ top_code (get_or sts j [])
forecast_top [] j h = absurd (not-suc-le-zero h)
forecast_top (st ∷ sts) zero h = refl
forecast_top (st ∷ sts) (suc j) h =
    let e : 2 * suc j + 1 ≡ suc (suc (2 * j + 1)) = omega arith in
    rw e (forecast_top sts j (le_of_suc-le-suc h))

follows_at : (ks : List (List Kind)) (sts : List (List Val)) → Follows ks sts → (j : ℕ) → j < length sts
    → (j < length ks) × (get_or ks j [] ≡ map kind_of (get_or sts j []))
follows_at ks [] f j h = absurd (not-suc-le-zero h)
follows_at [] (st ∷ sts) f j h = absurd f
follows_at (k ∷ ks) (st ∷ sts) f zero h = (omega arith, f.0)
follows_at (k ∷ ks) (st ∷ sts) f (suc j) h =
    let r = follows_at ks sts f.1 j (le_of_suc-le-suc h) in
    (omega arith, r.1)

follows_count : (ks : List (List Kind)) (sts : List (List Val)) → Follows ks sts → (j : ℕ) → j < length sts
    → (get_or (forecast ks) (2 * j) 0 ≡ length (get_or sts j [])) × (get_or (forecast ks) (2 * j + 1) 0 ≡ top_code (map kind_of (get_or sts j [])))
follows_count ks sts f j h =
    let r = follows_at ks sts f j h in
    (forecast_count ks j r.0 ∙ (ap length r.1 ∙ length-map (get_or sts j []) kind_of), forecast_top ks j r.0 ∙ ap top_code r.1)

-- ---- demand 3

by_value : (P : ℕ → Type 0) (r j : ℕ) (e : End Val) → e ≡ stopped r j → r ≡ divisor_question → P j → StopsByValue P e
by_value P r j e q h p = (j, p, q ∙ ap (λ (x : ℕ). stopped x j) h)

module _ (n : ℕ) (f : List ℕ) (a : Run Kind) (b : Run Val) (fol : Follows a.stacks b.stacks) where
  counts : Begins f a.stacks → (j : ℕ) → j < length b.stacks
      → (get_or f (2 * j) 0 ≡ length (get_or b.stacks j [])) × (get_or f (2 * j + 1) 0 ≡ top_code (map kind_of (get_or b.stacks j [])))
  counts w j h =
      let r = follows_at a.stacks b.stacks fol j h in
      let l : j < length a.stacks = r.0 in
      let c = follows_count a.stacks b.stacks fol j h in
      (w (2 * j) (omega arith) ∙ c.0, w (2 * j + 1) (omega arith) ∙ c.1)

  final : (x : End Kind) (y : End Val) → b.end ≡ y → EndAgree n x y
      → ((k : Kind) → x ≡ ended k → Begins f a.stacks × (code_of k ≡ get_or f (2 * n - 1) 0))
      → ((v : Val) → y ≡ ended v → length b.stacks ≡ n) → Foretold n (verdict x) f b
  final (ended k) (ended v) q h w l =
      (counts (w k refl).0, inl (v, q, l v refl, ap code_of h ∙ (w k refl).1))
  final (ended k) (stopped r j) q h w l = (counts (w k refl).0, inr (by_value (λ i. i < n) r j b.end q h.0 h.1))
  final (stopped s k) (ended v) q h w l = absurd h
  final (stopped s k) (stopped r j) q (inl h) w l = inl (by_value (λ i. i < k) r j b.end q h.0 h.1)
  final (stopped s k) (stopped r j) q (inr h) w l = inr (cc)

-- the kind of an ended vetting is the one forecast last
last_forecast : (f : List ℕ) (ps : List Instr) (kinds : List Kind) (k : Kind) → (vet ps kinds).end ≡ ended k → Begins f (vet ps kinds).stacks
    → code_of k ≡ get_or f (2 * length ps - 1) 0
unfolding run_from
last_forecast f [] kinds k e w = never_ended (kind_pushed kinds) kind_apply 17 0 k e
last_forecast f (p ∷ ps) kinds k e w =
    let r = vet (p ∷ ps) kinds in
    let l : length r.stacks ≡ suc (length ps) = whole_length (kind_pushed kinds) kind_apply 0 k (p ∷ ps) [] e in
    let t = whole_last (kind_pushed kinds) kind_apply 0 k p ps [] e in
    let i : 2 * suc (length ps) - 1 ≡ 2 * length ps + 1 = omega arith in
    rw i (sym (w (2 * length ps + 1) (omega arith) ∙ (forecast_top r.stacks (length ps) (omega arith) ∙ ap top_code t)))

-- for every sheet, every kinds of slots and every slot values of those kinds; f is what stands in the forecast slice
pub demand3 : (u : ListDefinitions) (f : List ℕ) (prog : List Instr) (lits : ℕ → Literal) (slots : List Val)
    → ((k : Kind) → (vet prog (map kind_of slots)).end ≡ ended k → Begins f (vet prog (map kind_of slots)).stacks)
    → Foretold (length prog) (verdict (vet prog (map kind_of slots)).end) f (run u prog lits slots)
demand3 u f prog lits slots w =
    let a = vet prog (map kind_of slots) in
    let b = run u prog lits slots in
    let s : Sim (length prog) a b = sim u lits slots (length prog) 0 prog [] (omega arith) in
    final (length prog) f a b s.0 a.end b.end refl s.1
    (λ k e. (w k e, last_forecast f prog (map kind_of slots) k e (w k e)))
    (λ v e. whole_length (value_pushed lits slots) (apply_op u) 0 v prog [] e)
