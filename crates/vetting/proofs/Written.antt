-- What vetting leaves in the forecast slice, and that it foretells every run. Assumes nothing.
use mathlib.Core.Path.{◌≡◌, refl, sym, ◌∙◌, ap, subst}
use mathlib.Core.Bool.{Bool, true}
use mathlib.Core.List.{List, [], ◌∷◌, map, ◌++◌}
use Prim.Native.Nat.{ℕ, ◌*◌, ◌≤◌}
use native.Mathlib.Omega.{arith}
use lib.ListN.{length, take, drop, get_or-append}
use lib.Seq.{ext_get_or, get_or-take, length-take-le}
use Rattle.ink_number.specs.Answer.{Answer, gives, refuses}
use Rattle.slices.specs.Filled.{over}
use Rattle.ink_value.specs.Val.{Val, kind_of, kind_at}
use Rattle.ink_value.specs.declared.Kind.{Kind}
use Rattle.pack.specs.Bodies.{Pack}
use Rattle.pack.specs.Instruction.{Instr}
use Rattle.pack.specs.Judge.{judge}
use Rattle.pack.specs.declared.format.Format.{Format}
use Rattle.machine.specs.Machine.{Run, End, ended, stopped, kind_pushed, vet}
use Rattle.pack.specs.Read.{sheet_of}
use Rattle.machine.specs.Whole.{opened, started, sheet_vet, sheet_run, count_of}
use Rattle.machine.specs.Foretold.{Verdict, passed, turned, verdict, forecast, Begins, Foretold}
use Rattle.operator_kinds.specs.Kinds.{kind_apply}
use Rattle.machine.proofs.Demand.{whole_length}
use Rattle.machine.proofs.Whole.{demand3_whole}
use Rattle.vetting.specs.Vet.{vet_memory, CountIs, forecast_after, Vets, VetsProgram}
use Rattle.vet_program.specs.Ending.{verdict_of}

-- ---- the forecast

forecast_length : (sts : List (List Kind)) → length (forecast sts) ≡ 2 * length sts
forecast_length [] = refl
forecast_length (st ∷ sts) = let e = forecast_length sts in omega arith

pub take_forecast : (bytes : List ℕ) (sts : List (List Kind)) (n : ℕ) → length sts ≡ n → 2 * n ≤ length bytes → Begins bytes sts
    → take (2 * n) bytes ≡ forecast sts
take_forecast bytes sts n h l b =
    let m : length (take (2 * n) bytes) ≡ 2 * n = length-take-le (2 * n) bytes l in
    ext_get_or 0 (take (2 * n) bytes) (forecast sts) (omega (arith, forecast_length sts))
    (λ k p. get_or-take (2 * n) bytes k 0 (omega arith) ∙ b k (omega arith))

-- what is written of a forecast leaves the bytes beyond it
pub forecast_long : (sts : List (List Kind)) (n : ℕ) (old : List ℕ) → length sts ≡ n → forecast sts ++ drop (2 * n) old ≡ over (forecast sts) old
forecast_long sts n old h = ap (λ (k : ℕ). forecast sts ++ drop k old) (let e = forecast_length sts in omega (arith, e, h))

begins_over : (sts : List (List Kind)) (old : List ℕ) → Begins (over (forecast sts) old) sts
begins_over sts old k p = get_or-append (forecast sts) (drop (length (forecast sts)) old) 0 k (omega (arith, forecast_length sts))

-- a program that passed has a stack for each instruction
pub passed_count : (prog : List Instr) (ks : List Kind) → passed ≡ verdict (vet prog ks).end → length (vet prog ks).stacks ≡ length prog
passed_count prog ks e = go (vet prog ks).end refl e
  where
    go : (x : End Kind) → (vet prog ks).end ≡ x → passed ≡ verdict x → length (vet prog ks).stacks ≡ length prog
    go (ended k) q h = whole_length (kind_pushed ks) kind_apply 0 k prog [] q
    go (stopped r i) q h = let z : ◌≡◌ {A = ℕ} 0 1 = cc in absurd (omega arith)

-- ---- demand 3, at the codes that were vetted

passed_not_turned : (r k : ℕ) (x : Kind) (e : End Kind) → turned r k ≡ verdict e → e ≡ ended x → ⊥
passed_not_turned r k x e p q =
    let w : turned r k ≡ passed = p ∙ ap verdict q in
    let z : ◌≡◌ {A = ℕ} 0 1 = cc in
    omega arith

module _ (F : Format) (p : List ℕ) (s : ℕ) (codes old : List ℕ) where
  abbrev vetted : Run Kind
  vetted = sheet_vet F p s (vet_memory codes old) (map kind_at codes)

  begins_left : (v : Verdict) → v ≡ verdict vetted.end → (k : Kind) → vetted.end ≡ ended k → Begins (forecast_after v vetted.stacks old) vetted.stacks
  begins_left passed e k q = begins_over vetted.stacks old
  begins_left (turned r i) e k q = absurd (passed_not_turned r i k vetted.end e q)

  foretells : (v : Verdict) → v ≡ verdict vetted.end → (ready : Pack → Bool) (slots : List Val)
      → ((d : Pack) → judge F p ≡ gives d → vet_memory codes old d ≡ true) → ((d : Pack) → judge F p ≡ gives d → ready d ≡ true)
      → map kind_of slots ≡ map kind_at codes
      → Foretold (count_of (opened F p s (vet_memory codes old)) s) v (forecast_after v vetted.stacks old) (sheet_run F p s ready slots)
  foretells v e ready slots h h' q =
      let f = forecast_after v vetted.stacks old in
      let w : (k : Kind) → (sheet_vet F p s (vet_memory codes old) (map kind_of slots)).end ≡ ended k
      → Begins f (sheet_vet F p s (vet_memory codes old) (map kind_of slots)).stacks =
      subst (λ (ks : List Kind). (k : Kind) → (sheet_vet F p s (vet_memory codes old) ks).end ≡ ended k → Begins f (sheet_vet F p s (vet_memory codes old) ks).stacks)
      (sym q) (begins_left v e) in
      let t = demand3_whole F p s (vet_memory codes old) ready f slots h h' w in
      let e' : verdict (sheet_vet F p s (vet_memory codes old) (map kind_of slots)).end ≡ v =
      ap (λ (ks : List Kind). verdict (sheet_vet F p s (vet_memory codes old) ks).end) q ∙ sym e in
      subst (λ (x : Verdict). Foretold (count_of (opened F p s (vet_memory codes old)) s) x f (sheet_run F p s ready slots)) e' t

  answers : (v : End ℕ) (new : List ℕ) → verdict_of v ≡ verdict vetted.end → CountIs v (count_of (opened F p s (vet_memory codes old)) s)
      → new ≡ forecast_after (verdict_of v) vetted.stacks old → Vets F p s codes v old new
  answers v new e c w =
      record {
        right = e;
        counted = c;
        written = w;
        foretold = λ ready slots h h' q.
            subst (λ (f : List ℕ). Foretold (count_of (opened F p s (vet_memory codes old)) s) (verdict_of v) f (sheet_run F p s ready slots)) (sym w)
            (foretells (verdict_of v) e ready slots h h' q);
      }

  -- questions 1 to 7 stop it
  pub stops : (q : ℕ) → opened F p s (vet_memory codes old) ≡ refuses q → Vets F p s codes (stopped q 0) old old
  stops q e = answers (stopped q 0) old (sym (ap (λ (a : Answer Pack). verdict (started a (λ x. vet (sheet_of x s) (map kind_at codes))).end) e)) tt refl

  -- they let it through
  pub goes : (d : Pack) (v : End ℕ) (new : List ℕ) → opened F p s (vet_memory codes old) ≡ gives d → VetsProgram (sheet_of d s) (map kind_at codes) v old new
      → Vets F p s codes v old new
  goes d v new e w = answers v new (w.right ∙ sym (ap (λ (a : Answer Pack). verdict (started a (λ x. vet (sheet_of x s) (map kind_at codes))).end) e))
      (subst (λ (a : Answer Pack). CountIs v (count_of a s)) (sym e) w.counted)
      (w.written ∙ sym (ap (λ (a : Answer Pack). forecast_after (verdict_of v) (started a (λ x. vet (sheet_of x s) (map kind_at codes))).stacks old) e))
