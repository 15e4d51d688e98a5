-- Demand 3 of the words: what `ink_vet` says holds of what `ink_run` says, by their contracts alone; and its conditions can be met, by slots
-- that are all Void and slices that are long enough, for every pack of every format. Assumes nothing.
use mathlib.Core.Path.{◌≡◌, refl, sym, ap, ◌∙◌, subst}
use mathlib.Core.Logic.{inl, inr}
use mathlib.Core.Bool.{true}
use mathlib.Core.List.{List, [], ◌∷◌, map}
use Prim.Native.Nat.{ℕ, zero, suc, ◌≤◌, ◌<◌}
use native.Mathlib.Omega.{arith}
use lib.IntN.{ℤ}
use Rattle.ink_number.specs.Answer.{in_use}
use lib.ListN.{length, get_or}
use Rattle.ink_value.specs.Val.{kind_of, kind_at, code_of}
use Rattle.ink_value.specs.Value.{val_of, kind_in}
use Rattle.ink_value.specs.declared.Value.{Value}
use Rattle.ink_value.specs.declared.Value.TheVariants as Is
use Rattle.slices.specs.Every.{table}
use Rattle.pack.specs.declared.format.Format.{Format}
use Rattle.machine.specs.Foretold.{ByValue}
use Rattle.machine.specs.Whole.{opened, Suffices, sheet_vet}
use Rattle.machine.proofs.Numbers.{vet_numbered}
use Rattle.vetting.specs.Vet.{Vets, forecast_limit, vet_memory}
use Rattle.running.specs.Run.{run_memory, ran_to, end_after}
use Rattle.run_memory.proofs.Opening.{Long}
use Rattle.vet_and_run.specs.Both.{StoppedByValue, ForetoldAnswer}
use Rattle.vet_and_run.proofs.Answered.{both}
use Rattle.vet_and_run.proofs.Instance.{vetting_suffices, run_suffices, kinds_agree}
use Rattle.words_in.specs.Words.{value_of, plain_at, void_at, slots_in}
use Rattle.words_out.specs.Words.{words_of}
use Rattle.answer_words.specs.Answers.{end_number, ran_words, vetted_index, VetSays, RunSays}
use Rattle.ink_operators.specs.Foretold.{Said, refusal, ForetoldWords}
use Rattle.ink_operators.proofs.InUse.{turned_numbered}
use Rattle.machine.specs.Machine.{End, ended, stopped}

-- what a run's answer is at the boundary
abbrev said : End Value → Said
said r = (end_number r, ran_words r)

kind_word : (v : Value) → get_or (words_of v) 0 0 ≡ code_of (kind_in v)
kind_word (Is.Bool b) = refl
kind_word (Is.Int z) = refl
kind_word (Is.Float x) = refl
kind_word (Is.List o s n) = refl
kind_word Is.Void = refl

by_value : (P : ℕ → Type 0) (r : End Value) → StoppedByValue P r → ByValue refusal P (said r)
by_value P r (i, h, e) = (i, h, ap said e)

passes : (n : ℕ) (f : List ℕ) (r : End Value) → ForetoldAnswer (ended n) f r → ForetoldWords 0 n f (said r)
passes n f r (inl w) = inl (ap end_number w.1, ap (λ (x : End Value). get_or (ran_words x) 0 0) w.1 ∙ kind_word w.0 ∙ w.2)
passes n f r (inr w) = inr (by_value (λ i. i < n) r w)

turns : (q k : ℕ) (f : List ℕ) (r : End Value) → in_use q ≡ true → ForetoldAnswer (stopped q k) f r → ForetoldWords q k f (said r)
turns zero k f r h w = let z : ◌≡◌ {A = ℕ} 0 1 = cc in absurd (omega arith)
turns (suc q) k f r h (inl w) = inl (by_value (λ i. i < k) r w)
turns (suc q) k f r h (inr w) = inr (ap said w)

module _ (F : Format) (p : List ℕ) (s : ℕ) (codes f f' : List ℕ) where
  words_of_lem : (v : End ℕ) (r : End Value) → Vets F p s codes v f f' → ForetoldAnswer v f' r → ForetoldWords (end_number v) (vetted_index v) f' (said r)
  words_of_lem (ended n) r a w = passes n f' r w
  words_of_lem (stopped q k) r a w =
      turns q k f' r (turned_numbered (sheet_vet F p s (vet_memory codes f) (map kind_at codes)).end q k a.right (vet_numbered F p s (vet_memory codes f) (map kind_at codes))) w

  -- the contracts of `ink_vet` and of `ink_run`, with memory that suffices for both and slots of the kinds that were vetted
  module _ (ws si : List ℕ) (sv : List ℤ) (n index m : ℕ) (answer wi wi' : List ℕ) (wv wv' : List ℤ) (ri ri' : List ℕ) (rv rv' : List ℤ) where
    pub foretold_words : VetSays F p s codes n index f f'
        → RunSays F (opened F p s (run_memory F (slots_in ws) si sv wi wv ri rv)) s (map (val_of si sv) (slots_in ws)) m answer wi wi' wv wv' ri ri' rv rv'
        → Suffices F p (vet_memory codes f) → Suffices F p (run_memory F (slots_in ws) si sv wi wv ri rv)
        → map kind_of (map (val_of si sv) (slots_in ws)) ≡ map kind_at codes
        → ForetoldWords n index f' (m, answer)
    foretold_words v w h k e =
        let a = opened F p s (run_memory F (slots_in ws) si sv wi wv ri rv) in
        let r = ran_to (end_after F s (map (val_of si sv) (slots_in ws)) a) in
        let b = both p s codes (slots_in ws) si sv v.vetted r f f' wi wi' wv wv' ri ri' rv rv' v.answers w.leaves in
        rw (v.number, v.index_is, w.number, w.words) (words_of_lem v.vetted r v.answers (b.foretold h k e).1)

-- ---- the conditions can be met

-- sixteen Voids in words
abbrev voids : List ℕ
voids =
    4 ∷ 0 ∷ 0 ∷ 4 ∷ 0 ∷ 0 ∷ 4 ∷ 0 ∷ 0 ∷ 4 ∷ 0 ∷ 0 ∷ 4 ∷ 0 ∷ 0 ∷ 4 ∷ 0 ∷ 0 ∷ 4 ∷ 0 ∷ 0 ∷ 4 ∷ 0 ∷ 0
    ∷ 4 ∷ 0 ∷ 0 ∷ 4 ∷ 0 ∷ 0 ∷ 4 ∷ 0 ∷ 0 ∷ 4 ∷ 0 ∷ 0 ∷ 4 ∷ 0 ∷ 0 ∷ 4 ∷ 0 ∷ 0 ∷ 4 ∷ 0 ∷ 0 ∷ 4 ∷ 0 ∷ 0 ∷ []

abbrev sixteen : {A : Type 0} → A → List A
sixteen a = a ∷ a ∷ a ∷ a ∷ a ∷ a ∷ a ∷ a ∷ a ∷ a ∷ a ∷ a ∷ a ∷ a ∷ a ∷ a ∷ []

read_voids : slots_in voids ≡ sixteen Is.Void
unfolding table value_of plain_at void_at
read_voids = refl

-- so what `ink_vet` says of any bytes holds of `ink_run`
pub foretells_words : (F : Format) (p : List ℕ) (s : ℕ) (f f' : List ℕ) (n index m : ℕ) (answer wi wi' : List ℕ) (wv wv' : List ℤ) (ri ri' : List ℕ) (rv rv' : List ℤ)
    → VetSays F p s (sixteen 4) n index f f'
    → RunSays F (opened F p s (run_memory F (slots_in voids) [] [] wi wv ri rv)) s (map (val_of [] []) (slots_in voids)) m answer wi wi' wv wv' ri ri' rv rv'
    → forecast_limit ≤ length f → Long F wi wv ri rv
    → ForetoldWords n index f' (m, answer)
foretells_words F p s f f' n index m answer wi wi' wv wv' ri ri' rv rv' v w h l =
    foretold_words F p s (sixteen 4) f f' voids [] [] n index m answer wi wi' wv wv' ri ri' rv rv' v w (vetting_suffices F p f h)
    (subst (λ (x : List Value). Suffices F p (run_memory F x [] [] wi wv ri rv)) (sym read_voids) (run_suffices F p wi ri wv rv l))
    (ap (λ (x : List Value). map kind_of (map (val_of [] []) x)) read_voids ∙ kinds_agree)
