-- A run ends in a value that stands whole in its words; and a run as the boundary says it. Assumes nothing.
use mathlib.Core.Path.{◌≡◌, sym, ap, ◌∙◌, subst}
use mathlib.Core.List.{List, map}
use Prim.Native.Nat.{ℕ, ◌≤◌}
use native.Mathlib.Omega.{arith}
use lib.IntN.{ℤ}
use lib.ListN.{length}
use Rattle.ink_value.specs.Val.{Val, bool, int, float, list, void}
use Rattle.ink_value.specs.Value.{val_of}
use Rattle.ink_value.specs.declared.Value.{Value}
use Rattle.pack.specs.Format.{Runnable}
use Rattle.pack.specs.declared.format.Format.{Format}
use Rattle.machine.specs.Machine.{End, ended, stopped}
use Rattle.machine.specs.Whole.{opened}
use Rattle.running.specs.Run.{run_memory, end_entries, end_after, ran_to, Runs}
use Rattle.running.proofs.Formed.{run_few}
use Rattle.answer_words.specs.Answers.{SmallRan, end_number, ran_words, RunSays}

few_end : {F : Format} → Runnable F → (e : End Val) → length (end_entries e) ≤ F.limit → SmallRan (ran_to e)
few_end f (ended (bool b)) h = tt
few_end f (ended (int z)) h = tt
few_end f (ended (float x)) h = tt
few_end {F} f (ended (list o es)) h = (omega arith, omega (arith, f.few))
few_end f (ended void) h = tt
few_end f (stopped r k) h = tt

-- a run stands whole in its words
pub runs_small : {F : Format} → Runnable F → (p : List ℕ) (s : ℕ) (l : List Value) (si : List ℕ) (sv : List ℤ) (r : End Value) (wi wi' : List ℕ) (wv wv' : List ℤ)
    (ri ri' : List ℕ) (rv rv' : List ℤ)
    → Runs F (opened F p s (run_memory F l si sv wi wv ri rv)) s (map (val_of si sv) l) r wi wi' wv wv' ri ri' rv rv' → SmallRan r
runs_small {F} f p s l si sv r wi wi' wv wv' ri ri' rv rv' w =
    let e = end_after F s (map (val_of si sv) l) (opened F p s (run_memory F l si sv wi wv ri rv)) in
    subst SmallRan (sym w.ran.answered) (few_end f e (run_few F p s l si sv wi wv ri rv))

-- a run whose slots are those of the words; the slices at the end are those that it left
pub run_says : {F : Format} (p : List ℕ) (s : ℕ) (l m : List Value) (si : List ℕ) (sv : List ℤ) (r : End Value) (n : ℕ) (ws wi wi' : List ℕ) (wv wv' : List ℤ)
    (ri ri' : List ℕ) (rv rv' : List ℤ) → l ≡ m
    → Runs F (opened F p s (run_memory F l si sv wi wv ri rv)) s (map (val_of si sv) l) r wi wi' wv wv' ri ri' rv rv'
    → (n ≡ end_number r) × (ws ≡ ran_words r)
    → {wi'' : List ℕ} → {wv'' : List ℤ} → {ri'' : List ℕ} → {rv'' : List ℤ} → wi'' ≡ wi' → wv'' ≡ wv' → ri'' ≡ ri' → rv'' ≡ rv'
    → RunSays F (opened F p s (run_memory F m si sv wi wv ri rv)) s (map (val_of si sv) m) n ws wi wi'' wv wv'' ri ri'' rv rv''
run_says {F} p s l m si sv r n ws wi wi' wv wv' ri ri' rv rv' q w h ei ev fi fv =
    rw (ei, ev, fi, fv)
    (subst (λ (x : List Value). RunSays F (opened F p s (run_memory F x si sv wi wv ri rv)) s (map (val_of si sv) x) n ws wi wi' wv wv' ri ri' rv rv') q
    (record {
      number = h.0 ∙ ap end_number w.ran.answered;
      words = h.1 ∙ ap ran_words w.ran.answered;
      leaves = subst (λ (x : End Value). Runs F (opened F p s (run_memory F l si sv wi wv ri rv)) s (map (val_of si sv) l) x wi wi' wv wv' ri ri' rv rv') w.ran.answered w;
    }))

-- a slice at the end is what was left, as it was
pub kept_is : {A : Type 0} {old left last : List A} → left ≡ old → last ≡ left → last ≡ old
kept_is e f = f ∙ e
