-- Demand 3's conditions can be met: by slots that are all Void and slices that are long enough, whatever they hold, for every pack of every
-- format. And one pack, in any format, on which the contract gives both answers: vetting passes, and the run stops with 15. Assumes nothing.
use mathlib.Core.Path.{◌≡◌, refl, ap, ◌∙◌, subst}
use mathlib.Core.List.{List, [], ◌∷◌, map}
use Prim.Native.Nat.{ℕ, ◌^◌, ◌≤◌}
use native.Mathlib.Omega.{arith}
use borrow.Author.Tests.{le-leb, lt-ltb}
use lib.IntN.{ℤ, pos}
use lib.ListN.{length}
use lib.Pow.{pow_pos}
use Rattle.ink_number.specs.Answer.{Answer, gives}
use Rattle.ink_number.specs.Int.{quotient, signed}
use Rattle.slices.specs.Every.{◌and◌}
use Rattle.ink_list.specs.Entries.{bits_below, formed}
use Rattle.list_definitions.specs.Defs.{ListDefinitions}
use Rattle.ink_value.specs.Val.{void, kind_of, kind_at}
use Rattle.ink_value.specs.declared.Kind.TheVariants as K
use Rattle.ink_value.specs.Value.{val_of}
use Rattle.ink_value.specs.declared.Value.{Value}
use Rattle.ink_value.specs.declared.Value.TheVariants as Is
use Rattle.operator_kinds.specs.Kinds.{known, unary, arity, kind_unary, kind_binary, kind_apply}
use Rattle.native_function_call.specs.Apply.{apply_op, compute}
use Rattle.number_operators.specs.Numbers.{arith_z}
use Rattle.pack.specs.Bodies.{Literal, Pack}
use Rattle.pack.specs.Bytes.{number}
use Rattle.pack.specs.Instruction.{Instr, op, push, push_int, instruction, instructions}
use Rattle.pack.specs.Judge.{judge}
use Rattle.pack.specs.Read.{ends_of, definitions_of, literal_of, sheet_of}
use Rattle.pack.specs.declared.format.Format.{Format}
use Rattle.pack.proofs.OneSheet.{one_sheet, pack_of, one_passes}
use Rattle.machine.specs.Foretold.{passed, verdict}
use Rattle.machine.specs.Machine.{ended, stopped, step, run_from, run, vet, End}
use Rattle.machine.specs.Whole.{opened, Suffices, started, count_of}
use Rattle.machine.proofs.Whole.{opened_all}
use Rattle.vetting.specs.Vet.{forecast_limit, CountIs, vet_memory}
use Rattle.vet_program.specs.Ending.{verdict_of}
use Rattle.operating.specs.Stacked.{work_limit}
use Rattle.running.specs.Run.{run_memory, ran_to, end_after}
use Rattle.run_memory.proofs.Opening.{Long}
use Rattle.vet_and_run.specs.Both.{ForetoldAnswer, Both}

abbrev sixteen : {A : Type 0} → A → List A
sixteen a = a ∷ a ∷ a ∷ a ∷ a ∷ a ∷ a ∷ a ∷ a ∷ a ∷ a ∷ a ∷ a ∷ a ∷ a ∷ a ∷ []

-- ---- the conditions: memory that suffices for both calls, and slots of the kinds that are vetted

module _ (F : Format) (p : List ℕ) where
  pub vetting_suffices : (f : List ℕ) → forecast_limit ≤ length f → Suffices F p (vet_memory (sixteen 4) f)
  unfolding vet_memory ◌and◌
  vetting_suffices f h d e = rw (le-leb forecast_limit (length f) h)

  pub run_suffices : (wi ri : List ℕ) (wv rv : List ℤ) → Long F wi wv ri rv → Suffices F p (run_memory F (sixteen Is.Void) [] [] wi wv ri rv)
  unfolding run_memory ◌and◌ formed bits_below
  run_suffices wi ri wv rv l d e =
      let t = lt-ltb 0 (2 ^ length (ends_of d)) (pow_pos (length (ends_of d))) in
      let a = le-leb (work_limit F) (length wi) l.work_items in
      let b = le-leb (work_limit F) (length wv) l.work_values in
      let g = le-leb F.limit (length ri) l.result_items in
      let h = le-leb F.limit (length rv) l.result_values in
      rw (t, a, b, g, h)

pub kinds_agree : map kind_of (map (val_of [] []) (sixteen Is.Void)) ≡ map kind_at (sixteen 4)
kinds_agree = refl

-- so vetting's answer on every pack says what the contract says of the run's
module _ (F : Format) (p : List ℕ) (s : ℕ) (v : End ℕ) (r : End Value) (f f' wi wi' : List ℕ) (wv wv' : List ℤ) (ri ri' : List ℕ) (rv rv' : List ℤ) where
  pub foretells : Both F p s (sixteen 4) (sixteen Is.Void) [] [] v r f f' wi wi' wv wv' ri ri' rv rv' → forecast_limit ≤ length f → Long F wi wv ri rv
      → ForetoldAnswer v f' r
  foretells w h l = (w.foretold (vetting_suffices F p f h) (run_suffices F p wi ri wv rv l) kinds_agree).1

-- ---- one pack, and both answers on it

-- the second sheet of document 01's pack: it passes, and its run stops with 15
abbrev program : List Instr
program = push (push_int (pos 7)) ∷ push (push_int (pos 0)) ∷ op 2 ∷ []

pub passes : (vet program (sixteen K.Void)).end ≡ ended K.Int
unfolding step run_from known unary arity kind_unary kind_binary kind_apply
passes = refl

pub stops : (u : ListDefinitions) (l : ℕ → Literal) → (run u program l (sixteen void)).end ≡ stopped 15 2
unfolding step run_from known unary arity kind_unary kind_binary kind_apply apply_op compute arith_z quotient
stops u l = refl

-- a pack of that sheet alone, in any format
abbrev code : List ℕ
code = 33 ∷ 7 ∷ 0 ∷ 0 ∷ 0 ∷ 33 ∷ 0 ∷ 0 ∷ 0 ∷ 0 ∷ 2 ∷ []

abbrev bytes : Format → List ℕ
bytes F = one_sheet F code

abbrev pack : Pack
pack = pack_of program

pub accepted : (F : Format) → judge F (bytes F) ≡ gives pack
unfolding number signed instruction instructions
accepted F = one_passes F code program (omega arith) refl

counted_three : (v : End ℕ) → verdict_of v ≡ passed → CountIs v 3 → v ≡ ended 3
counted_three (ended n) e c = ap ended c
counted_three (stopped r k) e c = let z : ◌≡◌ {A = ℕ} 1 0 = cc in absurd (omega arith)

-- the contract gives both answers
module _ (F : Format) (v : End ℕ) (r : End Value) (f f' wi wi' : List ℕ) (wv wv' : List ℤ) (ri ri' : List ℕ) (rv rv' : List ℤ)
    (w : Both F (bytes F) 0 (sixteen 4) (sixteen Is.Void) [] [] v r f f' wi wi' wv wv' ri ri' rv rv') where
  pub vetted_is : forecast_limit ≤ length f → v ≡ ended 3
  vetted_is h =
      let m = vet_memory (sixteen 4) f in
      let q : opened F (bytes F) 0 m ≡ gives pack = opened_all F (bytes F) 0 m pack (accepted F) (omega arith) (vetting_suffices F (bytes F) f h pack (accepted F)) in
      counted_three v
      (w.vetted.right ∙ ap (λ (x : Answer Pack). verdict (started x (λ (d : Pack). vet (sheet_of d 0) (sixteen K.Void))).end) q ∙ ap verdict passes)
      (subst (λ (x : Answer Pack). CountIs v (count_of x 0)) q w.vetted.counted)

  pub ran_is : Long F wi wv ri rv → r ≡ stopped 15 2
  ran_is l =
      let m = run_memory F (sixteen Is.Void) [] [] wi wv ri rv in
      let q : opened F (bytes F) 0 m ≡ gives pack = opened_all F (bytes F) 0 m pack (accepted F) (omega arith) (run_suffices F (bytes F) wi ri wv rv l pack (accepted F)) in
      w.ran.ran.answered ∙ ap (λ (x : Answer Pack). ran_to (end_after F 0 (sixteen void) x)) q ∙ ap ran_to (stops (definitions_of pack F) (literal_of pack))
