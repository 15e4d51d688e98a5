-- The words of the contracts for values whose entries stand in lent slices, and for numbers in parts. Assumes nothing.
use Rattle.std.specs.Prelude.{false, List, map, ℕ, ◌<◌, Result, Ok, length, get_or, ◌≡◌, ◌+◌, ◌≤◌, ℤ}
use Rattle.ink_number.specs.Answer.{Answer, gives}
use Rattle.ink_number.specs.Question.{answer}
use Rattle.ink_number.specs.declared.question.Question.{Question}
use Rattle.ink_list.specs.declared.entries_mut.EntriesMut.{EntriesMut}
use Rattle.ink_list.specs.declared.lists.Lists.{Lists}
use Rattle.ink_list.specs.Lists.{Same}
use Rattle.ink_value.specs.Val.{Val}
use Rattle.ink_value.specs.Value.{val_of, first_of, number_of, start_of, len_of, Formed, FirstFormed, Gave}
use Rattle.ink_value.specs.declared.Value.{Value}
use Rattle.ink_value.specs.declared.Value.TheVariants as Is
use Rattle.ink_value.specs.declared.number_parts.NumberParts.{NumberParts}
use Rattle.ink_value.specs.declared.operands.Operands.{Operands}
use Rattle.ink_value.specs.declared.slots.Slots.{Slots}

-- the value, its entries in the two slices
abbrev pub val_in : Lists → Value → Val
val_in lists v = val_of lists.items.now lists.values.now v

-- the operands that are used
abbrev pub operands_in : Lists → Operands → List Val
operands_in lists o = first_of lists.items.now lists.values.now o.count o.first o.second o.third

-- the same, their lists' values in a slice and their items in any
abbrev pub operands_with : List ℕ → List ℤ → Operands → List Val
operands_with is vs o = first_of is vs o.count o.first o.second o.third

-- the entries of the first two, as far as they are used, end within so many places
abbrev pub OperandsHeld : Operands → ℕ → Type 0
OperandsHeld o places = (start_of o.first + len_of o.first ≤ places) × (o.count ≡ 2 → start_of o.second + len_of o.second ≤ places)

-- a list's entries stand whole in the two slices, and their items rise below the limit
abbrev pub FormedIn : ℕ → Lists → Value → Type 0
FormedIn limit lists v = Formed limit lists.items.now lists.values.now v

-- so do those of the operands that are used
abbrev pub OperandsFormed : ℕ → Lists → Operands → Type 0
OperandsFormed limit lists o = FirstFormed limit lists.items.now lists.values.now o.count o.first o.second o.third

-- the values of slots
abbrev pub slot_values : Slots → List Val
slot_values s = map (val_in s.lists) s.values

-- the entries of each list among them stand whole in their slices, and their items rise below the limit
abbrev pub SlotsFormed : ℕ → Slots → Type 0
SlotsFormed limit s = (k : ℕ) → k < length s.values → FormedIn limit s.lists (get_or s.values k (Is.Bool false))

-- a number in parts
abbrev pub number_in : NumberParts → Val
number_in p = number_of p.kind p.whole p.real

-- the answer is returned, and its entries are written from the start of two slices, which are else as they were
abbrev pub GivesTo : Answer Val → Result Value Question → EntriesMut → EntriesMut → Type 0
GivesTo a r before after = Gave a (answer r) before.items.now after.items.now before.values.now after.values.now × Same before after

-- the same of a call that refuses nothing: it returns the value
abbrev pub MakesTo : Val → Value → EntriesMut → EntriesMut → Type 0
MakesTo v r before after = GivesTo (gives v) (Ok r) before after
