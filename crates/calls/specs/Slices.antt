-- The words of the contracts for calls whose operands' and results' entries stand in lent slices. Assumes nothing.
use Rattle.std.specs.Prelude.{◌≡◌, [], ◌∷◌, ℕ, Result}
use Rattle.ink_number.specs.Answer.{Answer}
use Rattle.ink_number.specs.Question.{answer}
use Rattle.ink_number.specs.declared.question.Question.{Question}
use Rattle.slices.specs.Slices.{Slice}
use Rattle.ink_list.specs.declared.entries_mut.EntriesMut.{EntriesMut}
use Rattle.ink_list.specs.declared.lists.Lists.{Lists}
use Rattle.ink_list.specs.Lists.{Same}
use Rattle.list_definitions.specs.Defs.{ListDefinitions}
use Rattle.ink_value.specs.Val.{Val}
use Rattle.ink_value.specs.Held.{val_in}
use Rattle.ink_value.specs.declared.Kind.{Kind}
use Rattle.ink_value.specs.declared.Value.{Value}
use Rattle.ink_value.specs.declared.operands.Operands.{Operands}
use Rattle.pack.specs.declared.format.Format.{Format}
use Rattle.calls.specs.Call.{called, cast_to, coerced, on_pack, after_asked, Returned}

-- an operator
abbrev pub called_in : Lists → EntriesMut → ℕ → Operands → ListDefinitions → Answer Val
called_in lists out op o =
    called lists.items.now lists.values.now out.items.now out.values.now op o.count (o.first ∷ o.second ∷ o.third ∷ [])

-- `cast`
abbrev pub cast_in : Lists → EntriesMut → Kind → Value → ListDefinitions → Answer Val
cast_in lists out = cast_to lists.items.now lists.values.now out.items.now out.values.now

-- a `coerce_to_`
abbrev pub coerced_in : Lists → (Val → Answer Val) → Value → ListDefinitions → Answer Val
coerced_in lists = coerced lists.items.now lists.values.now

-- questions 1 to 5 first
abbrev pub on_pack_in : Format → Slice ℕ → (ListDefinitions → Answer Val) → Answer Val
on_pack_in F pack = on_pack F pack.entry.now

-- r has the first no of questions 1 to 5 and 7, which every conversion without result slices asks
abbrev pub Asked : Format → Slice ℕ → Lists → Value → Result (Unit {0}) Question → Type 0
Asked F pack lists v r = (f : Val → Answer Val) → on_pack_in F pack (coerced_in lists f v) ≡ after_asked r (f (val_in lists v))

-- an answer is returned, and written to the two result slices, which are the same two still
abbrev pub ReturnedIn : Answer Val → Result Value Question → EntriesMut → EntriesMut → Type 0
ReturnedIn a r before after =
    Returned a (answer r) before.items.now after.items.now before.values.now after.values.now × Same before after
