-- The words of the contracts for a run: the pack, the slots, and the slices that it writes, as they were and as they are. Assumes nothing.
use Rattle.std.specs.Prelude.{◌≡◌, Bool, List, ℕ, Result}
use Rattle.ink_number.specs.Answer.{Answer}
use Rattle.slices.specs.Slices.{MutSlice}
use Rattle.ink_list.specs.Lists.{Same}
use Rattle.ink_list.specs.declared.entries_mut.EntriesMut.{EntriesMut}
use Rattle.ink_list.specs.declared.lists.Lists.{Lists}
use Rattle.ink_value.specs.Held.{slot_values}
use Rattle.ink_value.specs.Val.{Val}
use Rattle.ink_value.specs.declared.Value.{Value}
use Rattle.ink_value.specs.declared.slots.Slots.{Slots}
use Rattle.list_operators.specs.Lists.{definitions_of}
use Rattle.pack.specs.Bodies.{Pack, decoded}
use Rattle.pack.specs.Read.{literal_of, program}
use Rattle.pack.specs.declared.format.Format.{Format}
use Rattle.pack.specs.declared.passed.PassedPack.{PassedPack}
use Rattle.machine.specs.Ended.{end_of}
use Rattle.machine.specs.Machine.{End, run}
use Rattle.machine.specs.Whole.{asked_seven, asked_six, opened}
use Rattle.machine.specs.declared.Stop.{Stop}
use Rattle.running.specs.Run.{long_enough, run_memory, Memory, RanTo, run_of, Runs}
use Rattle.running.specs.Work.{Worked}

-- ---- the work

-- the end of a run of a sheet of the pack, with the definitions at hand
abbrev pub work_in : PassedPack → ℕ → List Val → End Val
work_in pack s slots =
    (run (definitions_of pack.definitions) (program pack.bytes.now s) (literal_of (decoded pack.format pack.bytes.now)) slots).end

-- the work comes to that end, a List that is left standing in the work slices; `used` has how far each place of the stack was written
abbrev pub WorkedIn : Format → End Val → Result Value Stop → MutSlice ℕ → EntriesMut → EntriesMut → Type 0
WorkedIn F e r used before after =
    Worked F e (end_of r) used.exit.now before.items.now after.items.now before.values.now after.values.now × Same before after

-- ---- a run whose questions 1 to 7 say yes

-- the memory that is lent for it, work slices and result slices
abbrev pub MemoryIn : Format → EntriesMut → EntriesMut → Type 0
MemoryIn F work out = Memory F work.items.now work.values.now out.items.now out.values.now

-- its end
abbrev pub run_in : PassedPack → ℕ → Slots → End Val
run_in pack s slots = run_of pack.format pack.bytes.now s (slot_values slots)

-- an end is answered, and its entries are written from the start of the two result slices, which are else as they were
abbrev pub RanIn : End Val → Result Value Stop → EntriesMut → EntriesMut → Type 0
RanIn e r before after = RanTo e (end_of r) before.items.now after.items.now before.values.now after.values.now × Same before after

-- two slices are left as they were
abbrev pub Kept : EntriesMut → EntriesMut → Type 0
Kept before after = (after.items.now ≡ before.items.now) × (after.values.now ≡ before.values.now) × Same before after

-- ---- a run of any bytes

-- the slices that a run writes are long enough
abbrev pub long_enough_in : Format → Lists → Lists → Bool
long_enough_in F work out = long_enough F work.items.now work.values.now out.items.now out.values.now

-- question 7, of the slices as they were lent
abbrev pub run_memory_in : Format → Slots → EntriesMut → EntriesMut → Pack → Bool
run_memory_in F slots work out =
    run_memory F slots.values slots.lists.items.now slots.lists.values.now work.items.now work.values.now out.items.now out.values.now

-- a run of a sheet of the pack, once `asked` has answered the questions that are left before it: its end, and what it leaves in the work
-- and the result slices
module _ (asked : (Pack → Bool) → Answer Pack) (F : Format) (sheet : ℕ) (slots : Slots) (r : Result Value Stop)
    (work work' out out' : EntriesMut) where
  abbrev pub RunsAsked : Type 0
  RunsAsked =
      Runs F (asked (run_memory_in F slots work out)) sheet (slot_values slots) (end_of r)
      work.items.now work'.items.now work.values.now work'.values.now
      out.items.now out'.items.now out.values.now out'.values.now
      × Same work work' × Same out out'

-- of any bytes: questions 1 to 7 asked, and what it comes to
abbrev pub RunsAny : Format → List ℕ → ℕ → Slots → Result Value Stop → EntriesMut → EntriesMut → EntriesMut → EntriesMut → Type 0
RunsAny F p sheet = RunsAsked (opened F p sheet) F sheet

-- of a pack that passed: questions 6 and 7 asked
abbrev pub RunsSix : Format → List ℕ → ℕ → Slots → Result Value Stop → EntriesMut → EntriesMut → EntriesMut → EntriesMut → Type 0
RunsSix F p sheet = RunsAsked (λ memory. asked_six sheet memory (decoded F p)) F sheet

-- of a pack that passed and has the sheet: question 7 asked
abbrev pub RunsSeven : PassedPack → ℕ → Slots → Result Value Stop → EntriesMut → EntriesMut → EntriesMut → EntriesMut → Type 0
RunsSeven pack sheet = RunsAsked (λ memory. asked_seven memory (decoded pack.format pack.bytes.now)) pack.format sheet
