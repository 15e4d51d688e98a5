-- The words of the contracts of an operator: its operands, which stand in the work slices, and slices that are written, as they were and as
-- they are. Assumes nothing.
-- For inner steps alone: no entry point's contract cites it.
use Rattle.std.specs.Prelude.{◌≡◌, List, ℕ, ◌*◌, ◌≤◌, Result}
use Rattle.ink_number.specs.Answer.{Answer}
use Rattle.ink_number.specs.Question.{answer}
use Rattle.ink_number.specs.declared.question.Question.{Question}
use Rattle.ink_list.specs.Lists.{places, Same}
use Rattle.ink_list.specs.declared.entries_mut.EntriesMut.{EntriesMut}
use Rattle.ink_list.specs.declared.lists.Lists.{Lists}
use Rattle.ink_value.specs.Held.{val_in, FormedIn}
use Rattle.ink_value.specs.Val.{Val}
use Rattle.ink_value.specs.Value.{first_of, FirstFormed}
use Rattle.ink_value.specs.declared.Value.{Value}
use Rattle.ink_value.specs.declared.operands.Operands.{Operands}
use Rattle.pack.specs.Format.{scratch_limit}
use Rattle.pack.specs.declared.format.Format.{Format}
use Rattle.machine.specs.Machine.{stack_limit}
use Rattle.machine.specs.declared.Top.{Top}
use Rattle.operating.specs.Stacked.{start_at, Put, Answered}

-- ---- the work slices

-- they are long enough for lists of an item limit, which the code has room for
abbrev pub RoomyIn : ℕ → EntriesMut → Type 0
RoomyIn limit work = (limit ≤ scratch_limit) × (stack_limit * limit ≤ places work)

-- the operands that are used, their entries in the work slices
abbrev pub stacked : EntriesMut → Operands → List Val
stacked work o = first_of work.items.now work.values.now o.count o.first o.second o.third

-- they are well formed
abbrev pub StackedFormed : ℕ → EntriesMut → Operands → Type 0
StackedFormed limit work o = FirstFormed limit work.items.now work.values.now o.count o.first o.second o.third

-- ---- what is written

-- a value that lists hold well formed is put into two slices, from `to` on, in every format
abbrev pub StoredIn : Lists → Value → ℕ → Value → EntriesMut → EntriesMut → Type 0
StoredIn lists v to r before after =
    ((F : Format) → FormedIn F.limit lists v
    → Put F (val_in lists v) to r before.items.now after.items.now before.values.now after.values.now)
    × Same before after

-- a value is put at a place of the stack, its entries in the work slices, in every format of this item limit
abbrev pub PutIn : ℕ → Val → ℕ → Value → EntriesMut → EntriesMut → Type 0
PutIn limit x place r before after =
    ((F : Format) → F.limit ≡ limit
    → Put F x (start_at F place) r before.items.now after.items.now before.values.now after.values.now)
    × Same before after

-- the answer is put at a place of the stack, its entries in the work slices; or it is a no, and nothing is written
abbrev pub AnsweredIn : ℕ → Answer Val → ℕ → Result (Top Value) Question → EntriesMut → EntriesMut → Type 0
AnsweredIn limit a place r before after =
    ((F : Format) → F.limit ≡ limit
    → Answered F a place (answer r) before.items.now after.items.now before.values.now after.values.now)
    × Same before after
