-- Vetting under way: what is left of the sheet, from the stack as it stands, ends as the whole does. Assumes nothing.
use mathlib.Core.Path.{◌≡◌, refl, sym, ◌∙◌, ap}
use mathlib.Core.Logic.{◌≢◌}
use mathlib.Core.List.{List, [], ◌∷◌}
use Prim.Native.Nat.{ℕ, zero, suc, ◌+◌, ◌*◌, ◌≤◌, ◌<◌}
use native.Mathlib.Omega.{arith}
use lib.ListN.{length, get_or, drop, set, replicate, length-set, length-replicate}
use lib.Seq.{get_or-set_same, get_or-set_other}
use Rattle.ink_number.specs.Answer.{gives, refuses}
use Rattle.ink_value.specs.Val.{code_of}
use Rattle.ink_value.specs.declared.Kind.{Kind}
use Rattle.ink_value.specs.declared.Kind.TheVariants as K
use Rattle.operator_kinds.specs.Kinds.{kind_apply}
use Rattle.pack.specs.Instruction.{Instr, Push, push, push_void, instructions}
use Rattle.machine.specs.Machine.{Run, ended, stopped, finish, onward, step, run_from, kind_pushed, vet}
use Rattle.machine.specs.Stack.{stack_of}
use Rattle.machine.specs.Foretold.{passed, turned, verdict, forecast, Begins}
use Rattle.machine.proofs.Stack.{stack_length, stack_put, run_more, run_stop, run_done}
use Rattle.pack.specs.Format.{instruction_limit}
use Rattle.pack.proofs.Steps.{at_end}
use Rattle.vet_steps.specs.Step.{kind_on}
use Rattle.std.proofs.Math.Option.{some}

-- the rest of vetting
abbrev pub rest : List Instr → List Kind → List Kind → ℕ → ℕ → Run Kind
rest s ks stack n i = run_from (kind_pushed ks) kind_apply i (drop i s) (stack_of (kind_on stack) n)

pub record Going (s : List Instr) (ks : List Kind) (out : List ℕ) (stack : List Kind) (n i : ℕ) : Type 0 where
  pub end_same : (rest s ks stack n i).end ≡ (vet s ks).end
  pub count : length (vet s ks).stacks ≡ i + length (rest s ks stack n i).stacks
  pub later : (m : ℕ) → get_or (forecast (vet s ks).stacks) (2 * i + m) 0 ≡ get_or (forecast (rest s ks stack n i).stacks) m 0
  pub done : (j : ℕ) → j < 2 * i → get_or out j 0 ≡ get_or (forecast (vet s ks).stacks) j 0
  pub few : i ≤ instruction_limit
  pub depth : n ≤ 64
  pub stack_is : length stack ≡ 64
  pub out_is : length out ≡ 2048

pub begin : (s : List Instr) (ks : List Kind) (out : List ℕ) → length out ≡ 2048
    → Going s ks out (replicate 64 K.Void) 0 0
begin s ks out l = record {
  end_same = refl;
  count = omega arith;
  later = λ m. ap (λ (k : ℕ). get_or (forecast (vet s ks).stacks) k 0) (omega arith);
  done = λ j h. absurd (omega arith);
  few = omega arith;
  depth = omega arith;
  stack_is = length-replicate {A = Kind} 64 K.Void;
  out_is = l;
}

module _ (s : List Instr) (ks : List Kind) (out : List ℕ) (stack : List Kind) (n i p : ℕ) (k : Kind) (g : Going s ks out stack n i)
    (h : i < length s) (hi : i < instruction_limit) (hp : p < 64)
    (e : gives (k ∷ stack_of (kind_on stack) p) ≡ step (kind_pushed ks) kind_apply (get_or s i (push push_void)) (stack_of (kind_on stack) n)) where
  abbrev stack' : List Kind
  stack' = set stack p k

  abbrev out' : List ℕ
  out' = set (set out (2 * i) (p + 1)) (2 * i + 1) (code_of k)

  abbrev top : List Kind
  top = k ∷ stack_of (kind_on stack) p

  in_stack : p < length stack
  in_stack = omega (arith, g.stack_is)

  top_is : stack_of (kind_on stack') (p + 1) ≡ top
  top_is =
      stack_put (kind_on stack) (kind_on stack') p k (get_or-set_same stack p k K.Bool in_stack) (λ q l. get_or-set_other stack p q k K.Bool (omega arith))

  rest_is : rest s ks stack n i ≡ onward i (gives top) (run_from (kind_pushed ks) kind_apply (i + 1) (drop (i + 1) s))
  rest_is = run_more (kind_pushed ks) kind_apply s i (stack_of (kind_on stack) n) top h (sym e)

  -- the rest after this instruction
  abbrev more : Run Kind
  more = run_from (kind_pushed ks) kind_apply (i + 1) (drop (i + 1) s) top

  more_is : more ≡ rest s ks stack' (p + 1) (i + 1)
  more_is = ap (run_from (kind_pushed ks) kind_apply (i + 1) (drop (i + 1) s)) (sym top_is)

  abbrev whole : List ℕ
  whole = forecast (vet s ks).stacks

  later_here : (m : ℕ) → get_or whole (2 * i + m) 0 ≡ get_or (forecast (top ∷ more.stacks)) m 0
  later_here m = g.later m ∙ ap (λ (r : Run Kind). get_or (forecast r.stacks) m 0) rest_is

  in_out : 2 * i + 1 < length out
  in_out = omega (arith, g.out_is)

  first_byte : get_or out' (2 * i) 0 ≡ get_or whole (2 * i) 0
  first_byte =
      let ne : 2 * i ≢ 2 * i + 1 = omega arith in
      let z : 2 * i ≡ 2 * i + 0 = omega arith in
      get_or-set_other (set out (2 * i) (p + 1)) (2 * i + 1) (2 * i) (code_of k) 0 ne
      ∙ (get_or-set_same out (2 * i) (p + 1) 0 (omega (arith, in_out))
      ∙ sym (ap (λ (j : ℕ). get_or whole j 0) z ∙ (later_here 0 ∙ omega (arith, stack_length (kind_on stack) p))))

  second_byte : get_or out' (2 * i + 1) 0 ≡ get_or whole (2 * i + 1) 0
  second_byte =
      get_or-set_same (set out (2 * i) (p + 1)) (2 * i + 1) (code_of k) 0 (rw (length-set out (2 * i) (p + 1)) in_out)
      ∙ sym (later_here 1)

  done_more : (j : ℕ) → j < 2 * (i + 1) → get_or out' j 0 ≡ get_or whole j 0
  done_more j l = go (native.Mathlib.Decide.ℕ_discrete j (2 * i)) (native.Mathlib.Decide.ℕ_discrete j (2 * i + 1))
    where
      go : Dec (j ≡ 2 * i) → Dec (j ≡ 2 * i + 1) → get_or out' j 0 ≡ get_or whole j 0
      go (yes q) d = rw q first_byte
      go (no a) (yes q) = rw q second_byte
      go (no a) (no b) =
          get_or-set_other (set out (2 * i) (p + 1)) (2 * i + 1) j (code_of k) 0 b
          ∙ (get_or-set_other out (2 * i) j (p + 1) 0 a ∙ g.done j (omega arith))

  pub advance : Going s ks out' stack' (p + 1) (i + 1)
  advance = record {
    end_same = sym (ap (λ (r : Run Kind). r.end) more_is) ∙ (sym (ap (λ (r : Run Kind). r.end) rest_is) ∙ g.end_same);
    count =
        g.count
        ∙ (ap (λ (r : Run Kind). i + length r.stacks) rest_is
        ∙ (omega arith ∙ ap (λ (r : Run Kind). i + 1 + length r.stacks) more_is));
    later = λ m.
        (ap (λ (j : ℕ). get_or whole j 0) (omega arith)
        ∙ (later_here (suc (suc m)) ∙ ap (λ (r : Run Kind). get_or (forecast r.stacks) m 0) more_is));
    done = done_more;
    few = omega arith;
    depth = omega arith;
    stack_is = length-set stack p k ∙ g.stack_is;
    out_is = length-set (set out (2 * i) (p + 1)) (2 * i + 1) (code_of k) ∙ (length-set out (2 * i) (p + 1) ∙ g.out_is);
  }

finish_not_one : (f : ℕ → Kind) (i n : ℕ) → (n ≡ 1 → ⊥) → finish i (stack_of f n) ≡ stopped 17 i
finish_not_one f i zero h = refl
finish_not_one f i (suc zero) h = absurd (h refl)
finish_not_one f i (suc (suc n)) h = refl

module _ (s : List Instr) (ks : List Kind) (out : List ℕ) (stack : List Kind) (n i : ℕ) (g : Going s ks out stack n i) where
  pub refused : (r : ℕ) → i < length s
      → refuses r ≡ step (kind_pushed ks) kind_apply (get_or s i (push push_void)) (stack_of (kind_on stack) n)
      → turned r i ≡ verdict (vet s ks).end
  refused r h e =
      sym (ap verdict (sym g.end_same ∙ run_stop (kind_pushed ks) kind_apply s i r (stack_of (kind_on stack) n) h (sym e)))

  rest_none : drop i s ≡ [] → rest s ks stack n i ≡ record { stacks = []; end = finish i (stack_of (kind_on stack) n) }
  rest_none h = run_done (kind_pushed ks) kind_apply s i (stack_of (kind_on stack) n) h

  end_is : drop i s ≡ [] → (vet s ks).end ≡ finish i (stack_of (kind_on stack) n)
  end_is h = sym g.end_same ∙ ap (λ (r : Run Kind). r.end) (rest_none h)

  pub not_one : drop i s ≡ [] → (n ≡ 1 → ⊥) → turned 17 i ≡ verdict (vet s ks).end
  not_one h ne = sym (ap verdict (end_is h ∙ finish_not_one (kind_on stack) i n ne))

  pub one : drop i s ≡ [] → n ≡ 1 → passed ≡ verdict (vet s ks).end
  one h e = sym (ap verdict (end_is h ∙ ap (λ (m : ℕ). finish i (stack_of (kind_on stack) m)) e))

  pub count_is : drop i s ≡ [] → length (vet s ks).stacks ≡ i
  count_is h =
      let z : length (rest s ks stack n i).stacks ≡ 0 = ap (λ (r : Run Kind). length r.stacks) (rest_none h) in
      g.count ∙ omega arith

  pub begins : drop i s ≡ [] → Begins out (vet s ks).stacks
  begins h j l = g.done j (omega (arith, count_is h))

-- at a sheet's end no instruction is left, and what is left of vetting is its end: laws that the check finds
pub none_left : (literals : ℕ) (p : List ℕ) (n at end : ℕ) → at ≡ end → instructions literals p n at end ≡ some []
none_left literals p n at end e = rw e (at_end literals p n end)

module _ (value : Push → Kind) (f : ℕ → Kind) (i n : ℕ) (xs : List Instr) (none : xs ≡ []) where
  pub ends_one : n ≡ 1 → (run_from value kind_apply i xs (stack_of f n)).end ≡ ended (f 0)
  unfolding run_from
  ends_one e = rw (none, e)

  pub ends_other : (n ≡ 1 → ⊥) → (run_from value kind_apply i xs (stack_of f n)).end ≡ stopped 17 i
  unfolding run_from
  ends_other ne = rw none (finish_not_one f i n ne)

  pub no_stacks : (run_from value kind_apply i xs (stack_of f n)).stacks ≡ []
  unfolding run_from
  no_stacks = rw none
