-- The instructions of a sheet of a pack that passed, and a turn of a loop over them. Assumes nothing.
use Prim.Native.Nat.{ℕ, zero, suc, ◌+◌, ◌-◌, ◌≤◌, ◌<◌}
use mathlib.Core.Bool.{Bool, true, false, cond}
use mathlib.Core.List.{List, [], ◌∷◌}
use mathlib.Core.Option.{Option, some, none}
use mathlib.Core.Path.{◌≡◌, refl, sym, ap, ◌∙◌, subst}
use native.Mathlib.Numerals.{add-one}
use native.Mathlib.Omega.{arith}
use lib.Dec.{leb}
use lib.ListN.{length, get_or, drop, length-drop}
use lib.Seq.{drop-cons}
use borrow.Author.Tests.{leb-true}
use Rattle.slices.proofs.Every.{every_at}
use Rattle.slices.proofs.Tables.{length_table, get_d_table}
use Rattle.pack.specs.Bodies.{sheet, decoded}
use Rattle.pack.specs.Contents.{literal_count, sheet_count, sheet_body, offset}
use Rattle.pack.specs.Format.{instruction_limit}
use Rattle.pack.specs.declared.format.Format.{Format}
use Rattle.pack.specs.Instruction.{Instr, push, push_void, width, instruction, instructions, onward, before, is_some, or_none}
use Rattle.pack.specs.Judge.{question5}
use Rattle.pack.specs.Read.{sheet_of, program, sheet_end, Standing, Whole, Kth, Reads}
use Rattle.pack.proofs.Steps.{at_end, none_left, one_more, wide_some}

is_some_lem : (o : Option (List Instr)) → is_some o ≡ true → o ≡ some (or_none o)
is_some_lem none e = absurd (let z : ◌≡◌ {A = ℕ} 0 1 = cc in omega arith)
is_some_lem (some l) e = refl

pub known : (p : List ℕ) → question5 p ≡ true → (s : ℕ) → s < sheet_count p → sheet p (sheet_body p s) ≡ some (or_none (sheet p (sheet_body p s)))
unfolding question5
known p e s h = is_some_lem _ (every_at _ (sheet_count p) s e h)

-- the instructions from a position before the end: the first, and those after it
pub record Turn (L : ℕ) (p : List ℕ) (n at end : ℕ) (l : List Instr) : Type 0 where
  pub first : Instr
  pub rest : List Instr
  pub both : l ≡ first ∷ rest
  pub stands : instruction L p at ≡ some first
  pub within : at + width first ≤ end
  pub left : 0 < n
  pub goes_on : instructions L p (n - 1) (at + width first) end ≡ some rest

some_none : (l : List Instr) → none ≡ some l → ⊥
some_none l e = let z : ◌≡◌ {A = ℕ} 0 1 = cc in omega arith

module _ (L : ℕ) (p : List ℕ) (n at end : ℕ) (l : List Instr) (more : at < end) where
  then : 0 < n → (i : Instr) → instruction L p at ≡ some i → at + width i ≤ end → (o : Option (List Instr)) → instructions L p (n - 1) (at + width i) end ≡ o → before o i ≡ some l → Turn L p n at end l
  then h i e w none q r = absurd (some_none l r)
  then h i e w (some k) q r = record { first = i; rest = k; both = cc; stands = e; within = w; left = h; goes_on = q }

  in_time : 0 < n → (i : Instr) → instruction L p at ≡ some i → (t : Bool) → leb (at + width i) end ≡ t → cond t (before (instructions L p (n - 1) (at + width i) end) i) none ≡ some l → Turn L p n at end l
  in_time h i e true w r = then h i e (leb-true _ _ w) (instructions L p (n - 1) (at + width i) end) refl r
  in_time h i e false w r = absurd (some_none l r)

  at_one : 0 < n → (o : Option Instr) → instruction L p at ≡ o → onward at end (λ a. instructions L p (n - 1) a end) o ≡ some l → Turn L p n at end l
  at_one h none e r = absurd (some_none l r)
  at_one h (some i) e r = in_time h i e (leb (at + width i) end) refl r

pub turn : (L : ℕ) (p : List ℕ) (n at end : ℕ) (l : List Instr) → at < end → instructions L p n at end ≡ some l → Turn L p n at end l
turn L p zero at end l more e = absurd (some_none l (sym (none_left L p at end more) ∙ e))
turn L p (suc n) at end l more e =
    at_one L p (suc n) at end l more (omega arith) (instruction L p at) refl (sym (one_more L p (suc n) at end more (omega arith)) ∙ e)

-- at the end none is left
pub finished : (L : ℕ) (p : List ℕ) (n at : ℕ) (l : List Instr) → instructions L p n at at ≡ some l → l ≡ []
finished L p n at l e = let q : some [] ≡ some l = sym (at_end L p n at) ∙ e in cc

-- ---- instruction k of a sheet, and the next

pub dropped : (l r : List Instr) (i : Instr) (k : ℕ) → drop k l ≡ i ∷ r → (k < length l) × (get_or l k (push push_void) ≡ i) × (drop (k + 1) l ≡ r)
dropped l r i k e =
    let short : length l - k ≡ suc (length r) = sym (length-drop k l) ∙ ap length e in
    let below : k < length l = omega arith in
    let split : get_or l k (push push_void) ∷ drop (suc k) l ≡ i ∷ r = sym (drop-cons l k (push push_void) below) ∙ e in
    (below, (cc), rw (add-one k) (cc))

module _ (p : List ℕ) where
  pub sheets_long : (F : Format) → length (decoded F p).sheets ≡ sheet_count p
  sheets_long F = length_table (sheet_count p) (λ s. or_none (sheet p (sheet_body p s)))

  -- a sheet's instructions are the same in every format
  any_format : (F : Format) (s : ℕ) → sheet_of (decoded F p) s ≡ program p s
  any_format F s = refl

  pub program_is : (s : ℕ) → s < sheet_count p → program p s ≡ or_none (sheet p (sheet_body p s))
  program_is s h = get_d_table (sheet_count p) (λ k. or_none (sheet p (sheet_body p k))) s [] h

-- ---- for callers: a loop over the instructions of a sheet

module _ (p : List ℕ) (s : ℕ) where
  pub first : question5 p ≡ true → s < sheet_count p → Standing p s 0 (offset p (sheet_body p s))
  first e h = record { from = rw (program_is p s h) (known p e s h); reach = omega arith }

  next_of : (k at : ℕ) → Standing p s k at → at < sheet_end p s → (i : Instr) × (instruction (literal_count p) p at ≡ some i) × Kth p s k at i
  next_of k at h more =
      let t = turn (literal_count p) p (instruction_limit - k) at (sheet_end p s) (drop k (program p s)) more h.from in
      let d = dropped (program p s) t.rest t.first k t.both in
      let left : instruction_limit - k - 1 ≡ instruction_limit - (k + 1) = omega arith in
      let on : instructions (literal_count p) p (instruction_limit - (k + 1)) (at + width t.first) (sheet_end p s) ≡ some (drop (k + 1) (program p s)) =
      rw (← left, d.2) t.goes_on in (
        t.first,
        t.stands,
        record {
          few = omega (arith, t.left);
          below = d.0;
          kth = d.1;
          some = wide_some t.first;
          within = t.within;
          next = record { from = on; reach = t.within };
        },
      )

  -- what `read_instruction` requires
  pub whole : (k at : ℕ) → Standing p s k at → at < sheet_end p s → sheet_end p s ≤ length p → Whole p at
  whole k at h more end =
      let n = next_of k at h more in
      record { first = n.0; stands = n.1; within = omega (arith, n.2.within) }

  -- at the end no instruction is left
  pub last_of : (k at : ℕ) → Standing p s k at → sheet_end p s ≤ at → drop k (program p s) ≡ []
  last_of k at h end =
      let e : at ≡ sheet_end p s = omega (arith, h.reach) in
      finished (literal_count p) p (instruction_limit - k) at (drop k (program p s)) (subst (λ (x : ℕ). instructions (literal_count p) p (instruction_limit - k) at x ≡ some (drop k (program p s))) (sym e) h.from)

-- what `read_instruction` ensures
pub reads : (p : List ℕ) (at : ℕ) (i : Instr) → instruction (literal_count p) p at ≡ some i → Reads p at i
reads p at i e =
    record {
      stands = e;
      each = λ s k h more.
          let n = next_of p s k at h more in
          let stood = n.1 in
          let same : n.0 ≡ i = cc in
          subst (λ (j : Instr). Kth p s k at j) same n.2;
    }
