-- What is foretold of a run holds of its answer, and so of the two calls' answers. Assumes nothing.
use mathlib.Core.Path.{◌≡◌, refl, sym, ap, ◌∙◌, subst}
use mathlib.Core.Logic.{◌⊎◌, inl, inr}
use mathlib.Core.List.{List, map}
use Prim.Native.Nat.{ℕ, ◌*◌, ◌-◌, ◌<◌}
use lib.IntN.{ℤ}
use lib.ListN.{length, get_or}
use Rattle.ink_value.specs.Val.{Val, bool, int, float, list, void, kind_of, code_of}
use Rattle.ink_value.specs.Value.{val_of, placed_val, kind_in}
use Rattle.ink_value.specs.declared.Value.{Value}
use Rattle.pack.specs.declared.format.Format.{Format}
use Rattle.machine.specs.Foretold.{StopsByValue, Foretold}
use Rattle.machine.specs.Machine.{End, ended, stopped, Run}
use Rattle.machine.specs.Whole.{opened, count_of, sheet_run}
use Rattle.vetting.specs.Vet.{Vets, CountIs, vet_memory}
use Rattle.vet_program.specs.Ending.{verdict_of}
use Rattle.running.specs.Run.{run_memory, ran_to, Runs}
use Rattle.vet_and_run.specs.Both.{StoppedByValue, ForetoldAnswer, Both}

placed_code : (v : Val) → code_of (kind_in (placed_val v)) ≡ code_of (kind_of v)
placed_code (bool b) = refl
placed_code (int z) = refl
placed_code (float x) = refl
placed_code (list o es) = refl
placed_code void = refl

module _ (e : End Val) (r : End Value) (a : r ≡ ran_to e) where
  by_value : (P : ℕ → Type 0) → StopsByValue P e → StoppedByValue P r
  by_value P w = (w.0, w.1, a ∙ ap ran_to w.2)

  ends : (f : List ℕ) (n m : ℕ) (S : Type 0)
      → ((v : Val) × (e ≡ ended v) × S × (code_of (kind_of v) ≡ get_or f (2 * n - 1) 0)) ⊎ StopsByValue (λ i. i < n) e → ForetoldAnswer (ended n) f r
  ends f n m S (inl w) = inl (placed_val w.0, a ∙ ap ran_to w.1, placed_code w.0 ∙ w.3)
  ends f n m S (inr w) = inr (by_value (λ i. i < n) w)

  stops : (f : List ℕ) (q k : ℕ) → StopsByValue (λ i. i < k) e ⊎ (e ≡ stopped q k) → ForetoldAnswer (stopped q k) f r
  stops f q k (inl w) = inl (by_value (λ i. i < k) w)
  stops f q k (inr w) = inr (a ∙ ap ran_to w)

pub answered : (v : End ℕ) (n : ℕ) (f : List ℕ) (b : Run Val) (r : End Value) → CountIs v n → r ≡ ran_to b.end → Foretold n (verdict_of v) f b → ForetoldAnswer v f r
answered (ended m) n f b r c a g =
    subst (λ (k : ℕ). ForetoldAnswer (ended k) f r) (sym c) (ends b.end r a f n m (length b.stacks ≡ n) g.1)
answered (stopped q k) n f b r c a g = stops b.end r a f q k g

pub both : {F : Format} (p : List ℕ) (s : ℕ) (codes : List ℕ) (slots : List Value) (si : List ℕ) (sv : List ℤ) (v : End ℕ) (r : End Value)
    (f f' wi wi' : List ℕ) (wv wv' : List ℤ) (ri ri' : List ℕ) (rv rv' : List ℤ)
    → Vets F p s codes v f f'
    → Runs F (opened F p s (run_memory F slots si sv wi wv ri rv)) s (map (val_of si sv) slots) r wi wi' wv wv' ri ri' rv rv'
    → Both F p s codes slots si sv v r f f' wi wi' wv wv' ri ri' rv rv'
both {F} p s codes slots si sv v r f f' wi wi' wv wv' ri ri' rv rv' a w =
    let ready = run_memory F slots si sv wi wv ri rv in
    let vs = map (val_of si sv) slots in
    record {
      vetted = a;
      ran = w;
      foretold = λ m n k.
          let g = a.foretold ready vs m n k in
          (g, answered v (count_of (opened F p s (vet_memory codes f)) s) f' (sheet_run F p s ready vs) r a.counted w.ran.answered g);
    }
