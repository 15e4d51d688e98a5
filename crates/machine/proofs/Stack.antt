-- Stacks that are held in an array, from below. Assumes nothing.
use mathlib.Core.Path.{◌≡◌, refl, ap, ap₂}
use mathlib.Core.Bool.{Bool, true, false, cond}
use mathlib.Core.List.{List, [], ◌∷◌}
use mathlib.Core.Option.{none, some}
use Prim.Native.Nat.{ℕ, zero, suc, ◌+◌, ◌-◌, ◌≤◌, ◌<◌}
use native.Mathlib.Omega.{arith}
use native.Mathlib.Numerals.{add-one}
use lib.ListN.{length, get_or, drop}
use lib.Seq.{drop-cons}
use native.Mathlib.Nat.{le_of_suc-le-suc}
use lib.Dec.{eqb}
use Rattle.ink_number.specs.Answer.{Answer, gives, refuses, ask}
use Rattle.operator_kinds.specs.Kinds.{known, unary, arity, operand_count}
use Rattle.operator_kinds.proofs.Counting.{takes}
use Rattle.pack.specs.Instruction.{Push, push_void, Instr, push}
use Rattle.machine.specs.Stack.{stack_of}
use Rattle.machine.specs.Machine.{topped, worked, popped, step, step_op, stopped, finish, onward, run_from}

module _ {X : Type 0} where
  pub stack_length : (f : ℕ → X) (n : ℕ) → length (stack_of f n) ≡ n
  stack_length f zero = refl
  stack_length f (suc n) = ap suc (stack_length f n)

  -- two arrays that agree below n hold the same stack
  pub stack_same : (f g : ℕ → X) (n : ℕ) → ((p : ℕ) → p < n → f p ≡ g p) → stack_of f n ≡ stack_of g n
  stack_same f g zero h = refl
  stack_same f g (suc n) h = ap₂ (λ (x : X) (l : List X). x ∷ l) (h n (omega arith)) (stack_same f g n (λ p l. h p (omega arith)))

  pub pop_none : (f : ℕ → X) (k n : ℕ) (xs : List X) → n < k → popped k xs (stack_of f n) ≡ none
  pop_none f zero n xs h = absurd (omega arith)
  pop_none f (suc k) zero xs h = refl
  pop_none f (suc k) (suc n) xs h = pop_none f k n (f n ∷ xs) (omega arith)

  pub pop1 : (f : ℕ → X) (n : ℕ) → 1 ≤ n → popped 1 [] (stack_of f n) ≡ some (f (n - 1) ∷ [], stack_of f (n - 1))
  pop1 f zero h = absurd (omega arith)
  pop1 f (suc n) h =
      let e : suc n - 1 ≡ n = omega arith in
      rw e

  pub pop2 : (f : ℕ → X) (n : ℕ) → 2 ≤ n → popped 2 [] (stack_of f n) ≡ some (f (n - 2) ∷ f (n - 1) ∷ [], stack_of f (n - 2))
  pop2 f zero h = absurd (omega arith)
  pop2 f (suc zero) h = absurd (omega arith)
  pop2 f (suc (suc n)) h =
      let e : suc (suc n) - 2 ≡ n = omega arith in
      let e1 : suc (suc n) - 1 ≡ suc n = omega arith in
      rw (e, e1)

  pub pop3 : (f : ℕ → X) (n : ℕ) → 3 ≤ n
      → popped 3 [] (stack_of f n) ≡ some (f (n - 3) ∷ f (n - 2) ∷ f (n - 1) ∷ [], stack_of f (n - 3))
  pop3 f zero h = absurd (omega arith)
  pop3 f (suc zero) h = absurd (omega arith)
  pop3 f (suc (suc zero)) h = absurd (omega arith)
  pop3 f (suc (suc (suc n))) h =
      let e : suc (suc (suc n)) - 3 ≡ n = omega arith in
      let e2 : suc (suc (suc n)) - 2 ≡ suc n = omega arith in
      let e1 : suc (suc (suc n)) - 1 ≡ suc (suc n) = omega arith in
      rw (e, e2, e1)

  -- below a list's length the default is not read
  pub get_d_any : (l : List X) (i : ℕ) (d e : X) → i < length l → get_or l i d ≡ get_or l i e
  get_d_any [] i d e h = absurd (omega arith)
  get_d_any (x ∷ l) zero d e h = refl
  get_d_any (x ∷ l) (suc i) d e h = get_d_any l i d e (le_of_suc-le-suc h)

-- the rest of a run, from an instruction on
module _ {X : Type 0} (value : Push → X) (apply : ℕ → List X → Answer X) (program : List Instr) where
  next_is : (i : ℕ) → i < length program → drop i program ≡ get_or program i (push push_void) ∷ drop (i + 1) program
  next_is i h = rw add-one (drop-cons program i (push push_void) h)

  pub run_more : (i : ℕ) (st st' : List X) → i < length program → step value apply (get_or program i (push push_void)) st ≡ gives st'
      → run_from value apply i (drop i program) st ≡ onward i (gives st') (run_from value apply (i + 1) (drop (i + 1) program))
  unfolding run_from
  run_more i st st' h e = rw (next_is i h, e)

  pub run_stop : (i r : ℕ) (st : List X) → i < length program → step value apply (get_or program i (push push_void)) st ≡ refuses r
      → (run_from value apply i (drop i program) st).end ≡ stopped r i
  unfolding run_from
  run_stop i r st h e = rw (next_is i h, e)

  pub run_done : (i : ℕ) (st : List X) → drop i program ≡ [] → run_from value apply i (drop i program) st ≡ record { stacks = []; end = finish i st }
  unfolding run_from
  run_done i st h = rw h

-- x is put at p, which is then the top
pub stack_put : {X : Type 0} (f g : ℕ → X) (p : ℕ) (x : X) → g p ≡ x → ((q : ℕ) → q < p → g q ≡ f q) → stack_of g (p + 1) ≡ x ∷ stack_of f p
stack_put {X} f g p x e h = rw (add-one p) (ap₂ (λ (y : X) (l : List X). y ∷ l) e (stack_same g f p h))

-- an operator on a stack of n, by its operand count
module _ {X : Type 0} (apply : ℕ → List X → Answer X) (f : ℕ → X) (o n : ℕ) where
  pub op_unknown : operand_count o ≡ 0 → step_op apply o (stack_of f n) ≡ refuses 8
  unfolding operand_count arity
  op_unknown e = go (known o) e
    where
      pos : (s t : Bool) → cond {A = ℕ} s 1 (cond t 3 2) ≡ 0 → ⊥
      pos true t q = omega arith
      pos false true q = omega arith
      pos false false q = omega arith

      go : (t : Bool) → cond t (arity o) 0 ≡ 0 → ask 8 t (worked (apply o) (popped (arity o) [] (stack_of f n))) ≡ refuses 8
      go true q = absurd (pos (unary o) (eqb o 31) q)
      go false q = refl

  pub op_few : (m : ℕ) → 1 ≤ m → operand_count o ≡ m → n < m → step_op apply o (stack_of f n) ≡ refuses 10
  op_few m h e l = let t = takes o m h e in rw (t.is_known, t.arity_is, pop_none f m n [] l)

  pub op_one : operand_count o ≡ 1 → 1 ≤ n → topped (stack_of f (n - 1)) (apply o (f (n - 1) ∷ [])) ≡ step_op apply o (stack_of f n)
  op_one e l = let t = takes o 1 (omega arith) e in rw (t.is_known, t.arity_is, pop1 f n l)

  pub op_two : operand_count o ≡ 2 → 2 ≤ n → topped (stack_of f (n - 2)) (apply o (f (n - 2) ∷ f (n - 1) ∷ [])) ≡ step_op apply o (stack_of f n)
  op_two e l = let t = takes o 2 (omega arith) e in rw (t.is_known, t.arity_is, pop2 f n l)

  pub op_three : operand_count o ≡ 3 → 3 ≤ n
      → topped (stack_of f (n - 3)) (apply o (f (n - 3) ∷ f (n - 2) ∷ f (n - 1) ∷ [])) ≡ step_op apply o (stack_of f n)
  op_three e l = let t = takes o 3 (omega arith) e in rw (t.is_known, t.arity_is, pop3 f n l)
