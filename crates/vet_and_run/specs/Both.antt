-- Vetting and a run of one sheet: the two answers, what the calls leave, and demand 3 of them. Assumes nothing.
use Rattle.std.specs.Prelude.{◌≡◌, Bool, ◌⊎◌, List, map, ℕ, ◌*◌, ◌-◌, ◌<◌, ℤ, get_or}
use Rattle.slices.specs.Slices.{Slice, MutSlice}
use Rattle.ink_list.specs.Lists.{Same}
use Rattle.ink_list.specs.declared.entries_mut.EntriesMut.{EntriesMut}
use Rattle.ink_value.specs.Val.{kind_of, kind_at, code_of}
use Rattle.ink_value.specs.Value.{val_of, kind_in}
use Rattle.ink_value.specs.declared.Value.{Value}
use Rattle.ink_value.specs.declared.slots.Slots.{Slots}
use Rattle.pack.specs.Bodies.{Pack}
use Rattle.pack.specs.declared.format.Format.{Format}
use Rattle.machine.specs.Foretold.{ByValue, Foretold}
use Rattle.machine.specs.Whole.{opened, Suffices, count_of, sheet_run}
use Rattle.vetting.specs.Vet.{Vets, vet_memory}
use Rattle.vet_program.specs.Ending.{verdict_of}
use Rattle.running.specs.Run.{run_memory, Runs}
use Rattle.vet_and_run.specs.declared.VettedRun.{VettedRun}
use Rattle.machine.specs.Machine.{End, ended, stopped}
use Rattle.machine.specs.Ended.{end_of}

-- a run's answer is 15
abbrev pub StoppedByValue : (ℕ → Type 0) → End Value → Type 0
StoppedByValue = ByValue stopped

-- what vetting's answer, with the forecast's bytes f, says of the run's answer. Passed: "the run ends in one value of the kind forecast
-- last or stops with 15 .."; turned back with q at k: it "stops before k with 15 alone", or "exactly at k with" q
abbrev pub ForetoldAnswer : End ℕ → List ℕ → End Value → Type 0
ForetoldAnswer (ended n) f r =
    ((v : Value) × (r ≡ ended v) × (code_of (kind_in v) ≡ get_or f (2 * n - 1) 0)) ⊎ StoppedByValue (λ i. i < n) r
ForetoldAnswer (stopped q k) f r = StoppedByValue (λ i. i < k) r ⊎ (r ≡ stopped q k)

module _ (F : Format) (p : List ℕ) (s : ℕ) (codes : List ℕ) (slots : List Value) (si : List ℕ) (sv : List ℤ) (v : End ℕ) (r : End Value)
    (f f' wi wi' : List ℕ) (wv wv' : List ℤ) (ri ri' : List ℕ) (rv rv' : List ℤ) where
  -- question 7 of the run
  abbrev pub run_asks : Pack → Bool
  run_asks = run_memory F slots si sv wi wv ri rv

  pub record Both : Type 0 where
    pub vetted : Vets F p s codes v f f'
    pub ran : Runs F (opened F p s run_asks) s (map (val_of si sv) slots) r wi wi' wv wv' ri ri' rv rv'
    -- demand 3, of the two answers and the forecast's bytes as the calls leave them: "memory long enough", slots of those kinds
    pub foretold : Suffices F p (vet_memory codes f) → Suffices F p run_asks → map kind_of (map (val_of si sv) slots) ≡ map kind_at codes
        → Foretold (count_of (opened F p s (vet_memory codes f)) s) (verdict_of v) f'
        (sheet_run F p s run_asks (map (val_of si sv) slots))
        × ForetoldAnswer v f' r

-- the same of the slots and the slices that are lent, which are the same slices still
abbrev pub BothIn : Format → Slice ℕ → ℕ → List ℕ → Slots → VettedRun → MutSlice ℕ → EntriesMut → EntriesMut → EntriesMut → EntriesMut → Type 0
BothIn F pack sheet kinds slots b f work work' out out' =
    Both F pack.entry.now sheet kinds slots.values slots.lists.items.now slots.lists.values.now (end_of b.vetted) (end_of b.ran)
    f.entry.now f.exit.now
    work.items.now work'.items.now work.values.now work'.values.now
    out.items.now out'.items.now out.values.now out'.values.now
    × Same work work' × Same out out'
