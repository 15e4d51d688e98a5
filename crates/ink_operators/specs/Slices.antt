-- The words of the contracts at the boundary. In an `ensures` a slice is what it was at entry and what it is at exit. Assumes nothing.
use Rattle.std.specs.Prelude.{◌≡◌, map, ℕ, ℤ}
use Rattle.ink_number.specs.Answer.{Answer}
use Rattle.slices.specs.Slices.{Slice, Cell, MutSlice}
use Rattle.ink_list.specs.declared.lists.Lists.{Lists}
use Rattle.ink_value.specs.Val.{Val, kind_at}
use Rattle.ink_value.specs.Value.{val_of}
use Rattle.pack.specs.declared.format.Format.{Format}
use Rattle.calls.specs.Call.{called, cast_to, coerced}
use Rattle.calls.specs.Slices.{coerced_in, on_pack_in}
use Rattle.running.specs.Run.{run_memory}
use Rattle.words_in.specs.Words.{slots_in, value_at}
use Rattle.value_words.specs.Calls.{operands_in}
use Rattle.value_words.specs.Slices.{SaysIn, CallsIn}
use Rattle.answer_words.specs.Answers.{RunSays, VetSays}
use Rattle.machine.specs.Whole.{opened}

-- a run of any bytes on slots that stand in words: questions 1 to 7 asked, the number n and the answer's words, and what it leaves
abbrev pub RunSaysAny : Format → Slice ℕ → ℕ → Slice ℕ → Slice ℕ → Slice ℤ → ℕ → MutSlice ℕ → MutSlice ℕ → MutSlice ℤ → MutSlice ℕ → MutSlice ℤ → Type 0
RunSaysAny F pack sheet slots si sv n answer wi wv ri rv =
    RunSays F
    (opened F pack.entry.now sheet
    (run_memory F (slots_in slots.entry.now) si.entry.now sv.entry.now wi.entry.now wv.entry.now ri.entry.now rv.entry.now))
    sheet (map (val_of si.entry.now sv.entry.now) (slots_in slots.entry.now)) n answer.exit.now
    wi.entry.now wi.exit.now wv.entry.now wv.exit.now ri.entry.now ri.exit.now rv.entry.now rv.exit.now

-- two slices are left as they were
abbrev pub Kept : MutSlice ℕ → MutSlice ℤ → Type 0
Kept is vs = (is.exit.now ≡ is.entry.now) × (vs.exit.now ≡ vs.entry.now)

-- vetting of any bytes for kind codes: the number n, the index, and what is left in the forecast slice
abbrev pub VetSaysAny : Format → Slice ℕ → ℕ → Slice ℕ → ℕ → Cell ℕ → MutSlice ℕ → Type 0
VetSaysAny F pack sheet kinds n index f =
    VetSays F pack.entry.now sheet kinds.entry.now n index.exit.now f.entry.now f.exit.now

-- an operator on the operands that nine words hold, with a pack of any bytes: the number n and the answer's words, and what is left
abbrev pub CallSaysAny : Format → Slice ℕ → ℕ → ℕ → Slice ℕ → Slice ℕ → Slice ℤ → ℕ → MutSlice ℕ → MutSlice ℕ → MutSlice ℤ → Type 0
CallSaysAny F pack op count ws is vs n answer oi ov =
    CallsIn (on_pack_in F pack (called is.entry.now vs.entry.now oi.entry.now ov.entry.now op count (operands_in ws.entry.now))) n answer oi ov

-- `cast` of the operand that three words hold
abbrev pub CastSaysAny : Format → Slice ℕ → ℕ → Slice ℕ → Slice ℕ → Slice ℤ → ℕ → MutSlice ℕ → MutSlice ℕ → MutSlice ℤ → Type 0
CastSaysAny F pack code ws is vs n answer oi ov =
    CallsIn (on_pack_in F pack (cast_to is.entry.now vs.entry.now oi.entry.now ov.entry.now (kind_at code) (value_at ws.entry.now 0))) n answer oi ov

-- one of the three `coerce_to_`, f
abbrev pub CoerceSaysAny : Format → Slice ℕ → (Val → Answer Val) → Slice ℕ → Slice ℕ → Slice ℤ → ℕ → MutSlice ℕ → Type 0
CoerceSaysAny F pack f ws is vs n answer =
    SaysIn (on_pack_in F pack (coerced is.entry.now vs.entry.now f (value_at ws.entry.now 0))) n answer

-- the same with the two slices held as one value
abbrev pub CoercedSays : Format → Slice ℕ → (Val → Answer Val) → Slice ℕ → Lists → ℕ → MutSlice ℕ → Type 0
CoercedSays F pack f ws lists n answer = SaysIn (on_pack_in F pack (coerced_in lists f (value_at ws.entry.now 0))) n answer
