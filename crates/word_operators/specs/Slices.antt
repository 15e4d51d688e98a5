-- The words of the contracts of operators on words, of slices as they were at entry and are at exit. Assumes nothing.
use Rattle.std.specs.Prelude.{ℕ, ℤ}
use Rattle.slices.specs.Slices.{Slice, MutSlice}
use Rattle.ink_list.specs.declared.entries_mut.EntriesMut.{EntriesMut}
use Rattle.ink_list.specs.declared.lists.Lists.{Lists}
use Rattle.ink_value.specs.Held.{operands_in as vals_in}
use Rattle.ink_value.specs.declared.Kind.{Kind}
use Rattle.list_definitions.specs.Defs.{ListDefinitions}
use Rattle.list_definitions.specs.declared.definitions.PackDefinitions.{PackDefinitions}
use Rattle.native_function_call.specs.Apply.{compute}
use Rattle.calls.specs.Call.{called}
use Rattle.calls.specs.Slices.{called_in}
use Rattle.words_in.specs.Words.{operands_at}
use Rattle.value_words.specs.Calls.{operands_in}
use Rattle.value_words.specs.Slices.{SaysIn, CallsIn}
use Rattle.word_lists.specs.Slices.{CallsTo}
use Rattle.list_operators.specs.Lists.{definitions_in, definitions_of}

-- an operator's result of a kind that is no List, on the first n of three operands whose entries stand in slices
abbrev pub ScalarSays : ℕ → ℕ → Kind → Slice ℕ → Lists → ℕ → MutSlice ℕ → Type 0
ScalarSays op n kind ws lists r answer =
    (u : ListDefinitions) → SaysIn (compute u op (vals_in lists (operands_at n ws.entry.now)) kind) r answer

-- an operator on the first n of three operands, with the tables of a pack: questions 7, 8, 10 to 13 and 15
abbrev pub CallSays : ℕ → Slice ℕ → Slice ℤ → ℕ → ℕ → Slice ℕ → Slice ℕ → Slice ℤ → ℕ → MutSlice ℕ → MutSlice ℕ → MutSlice ℤ → Type 0
CallSays limit ends defined op n ws is vs r answer ri rv =
    CallsIn
    (called is.entry.now vs.entry.now ri.entry.now rv.entry.now op n (operands_in ws.entry.now) (definitions_in ends defined limit))
    r answer ri rv

-- the same with the result slices held as one value
abbrev pub CallSaysTo : PackDefinitions → ℕ → ℕ → Slice ℕ → Lists → ℕ → MutSlice ℕ → EntriesMut → EntriesMut → Type 0
CallSaysTo pack op n ws lists r answer before after =
    CallsTo (called_in lists before op (operands_at n ws.entry.now) (definitions_of pack)) r answer before after
