-- The words of the contracts: work slices, a value put at a place of two slices, and an operator's answer put at a place of the stack.
-- Assumes nothing.
-- For inner steps: no entry point's contract cites it, but for `work_limit`.
use Rattle.std.specs.Prelude.{◌≡◌, List, ℕ, ◌*◌, ◌≤◌, ◌<◌, ℤ, length}
use Rattle.ink_number.specs.Answer.{Answer, gives, refuses}
use Rattle.ink_list.specs.Entries.{items, values, Rising}
use Rattle.slices.specs.Filled.{fill}
use Rattle.ink_value.specs.Val.{Val, bool, int, float, list, void}
use Rattle.ink_value.specs.Convert.{entries_of}
use Rattle.ink_value.specs.declared.Value.{Value}
use Rattle.ink_value.specs.declared.Value.TheVariants as Is
use Rattle.pack.specs.Format.{Runnable}
use Rattle.pack.specs.declared.format.Format.{Format}
use Rattle.machine.specs.Machine.{stack_limit}
use Rattle.machine.specs.declared.Top.{Top}

-- ---- the work slices

-- where the entries of the list at a place of the stack start
abbrev pub start_at : Format → ℕ → ℕ
start_at F place = place * F.limit

-- "work slices 16,384": the entries of the list at each place of the stack
abbrev pub work_limit : Format → ℕ
work_limit F = stack_limit * F.limit

-- work slices that are long enough, for a format that the code can run
pub record Roomy (F : Format) (wi : List ℕ) (wv : List ℤ) : Type 0 where
  pub format : Runnable F
  pub items_room : work_limit F ≤ length wi
  pub values_room : work_limit F ≤ length wv

-- ---- a value at a place

-- a value of the code, a List's entries from `at` on
abbrev pub placed_at : ℕ → Val → Value
placed_at at (bool b) = Is.Bool b
placed_at at (int z) = Is.Int z
placed_at at (float x) = Is.Float x
placed_at at (list o es) = Is.List o at (length es)
placed_at at void = Is.Void

-- a value is put: its entries are written from `at` on of two slices, which are else as they were
pub record Put (F : Format) (x : Val) (at : ℕ) (r : Value) (oi oi' : List ℕ) (ov ov' : List ℤ) : Type 0 where
  pub value_is : r ≡ placed_at at x
  pub items_in : oi' ≡ fill at (items (entries_of x)) oi
  pub values_in : ov' ≡ fill at (values (entries_of x)) ov
  pub rising : Rising F.limit (entries_of x)

-- ---- an operator

-- a no: the question's number, and nothing is written
pub record Refuses {X : Type 0} (a : Answer X) (q : ℕ) (wi wi' : List ℕ) (wv wv' : List ℤ) : Type 0 where
  pub refused : a ≡ refuses q
  pub items_same : wi' ≡ wi
  pub values_same : wv' ≡ wv

-- an answer's value is put at a place of the stack
pub record PutAt (F : Format) (a : Answer Val) (place p : ℕ) (v : Value) (wi wi' : List ℕ) (wv wv' : List ℤ) : Type 0 where
  pub value : Val
  pub given : a ≡ gives value
  pub at_place : p ≡ place
  pub depth : place < stack_limit
  pub put : Put F value (start_at F place) v wi wi' wv wv'

abbrev pub AnswerCase : Format → Answer Val → ℕ → Answer (Top Value) → List ℕ → List ℕ → List ℤ → List ℤ → Type 0
AnswerCase F a place (gives t) wi wi' wv wv' = PutAt F a place t.place t.value wi wi' wv wv'
AnswerCase F a place (refuses q) wi wi' wv wv' = Refuses a q wi wi' wv wv'

-- an operator's answer: its value is put at the place, or it is a no
pub record Answered (F : Format) (a : Answer Val) (place : ℕ) (r : Answer (Top Value)) (wi wi' : List ℕ) (wv wv' : List ℤ) : Type 0 where
  pub by : AnswerCase F a place r wi wi' wv wv'

-- the same of an answer that is no List: nothing is written, whatever the format is and the work slices hold
abbrev pub Bare : Answer Val → ℕ → Answer (Top Value) → Type 0
Bare a place r = (F : Format) (wi : List ℕ) (wv : List ℤ) → Answered F a place r wi wi wv wv
