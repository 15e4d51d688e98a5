-- The words of the contract of an operator on words whose result is a List. Assumes nothing.
use Rattle.std.specs.Prelude.{ℕ}
use Rattle.slices.specs.Slices.{Slice, MutSlice}
use Rattle.ink_number.specs.Answer.{Answer, gives}
use Rattle.ink_list.specs.Lists.{Same}
use Rattle.ink_list.specs.declared.entries_mut.EntriesMut.{EntriesMut}
use Rattle.ink_list.specs.declared.lists.Lists.{Lists}
use Rattle.ink_value.specs.Held.{operands_in}
use Rattle.ink_value.specs.Val.{Val}
use Rattle.list_definitions.specs.declared.definitions.PackDefinitions.{PackDefinitions}
use Rattle.value_words.specs.Calls.{Calls}
use Rattle.words_in.specs.Words.{operands_at}
use Rattle.list_operators.specs.Lists.{list_result, definitions_of}

-- the number n and the answer's words, and what is left in two slices that are held as one value: they are the same two still
abbrev pub CallsTo : Answer Val → ℕ → MutSlice ℕ → EntriesMut → EntriesMut → Type 0
CallsTo a n answer before after =
    Calls a n answer.exit.now before.items.now after.items.now before.values.now after.values.now × Same before after

-- a result that is a List, on the first n of three operands
abbrev pub ListSays : PackDefinitions → ℕ → ℕ → Slice ℕ → Lists → ℕ → MutSlice ℕ → EntriesMut → EntriesMut → Type 0
ListSays pack op n ws lists r answer before after =
    CallsTo (gives (list_result (definitions_of pack) op (operands_in lists (operands_at n ws.entry.now)))) r answer before after
