-- What a run asks of lent memory, what it answers, and what it leaves in the slices. Assumes nothing.
use Rattle.std.specs.Prelude.{◌≡◌, Bool, List, [], ℕ, ◌≤◌, ◌<◌, leb, ℤ, pos, length, get_or, replicate}
use Rattle.ink_number.specs.Answer.{Answer, gives, refuses}
use Rattle.ink_list.specs.Entries.{Entry, items, values}
use Rattle.slices.specs.Every.{◌and◌}
use Rattle.slices.specs.Filled.{over}
use Rattle.ink_value.specs.Val.{Val}
use Rattle.ink_value.specs.Convert.{entries_of}
use Rattle.ink_value.specs.Value.{val_of, placed_val, all_formed}
use Rattle.ink_value.specs.declared.Value.{Value}
use Rattle.pack.specs.Bodies.{Pack, decoded}
use Rattle.pack.specs.Format.{Runnable}
use Rattle.pack.specs.Read.{ends_of, defined_of, definitions_of, literal_of, sheet_of, program}
use Rattle.pack.specs.declared.format.Format.{Format}
use Rattle.machine.specs.Machine.{End, ended, stopped, run}
use Rattle.machine.specs.Whole.{started}
use Rattle.operating.specs.Stacked.{work_limit}

-- 7, of the slices that a run writes: "result slices at least 256 entries, work slices 16,384"
abbrev pub long_enough : Format → List ℕ → List ℤ → List ℕ → List ℤ → Bool
long_enough F wi wv ri rv =
    leb F.limit (length ri) and leb F.limit (length rv) and leb (work_limit F) (length wi) and leb (work_limit F) (length wv)

-- 7, of a run: "Are .. slot .. lists formed as literals with their two slices equally long", and those slices long enough
unfoldable pub run_memory : Format → List Value → List ℕ → List ℤ → List ℕ → List ℤ → List ℕ → List ℤ → Pack → Bool
run_memory F slots si sv wi wv ri rv d = all_formed (length (defined_of d)) (length (ends_of d)) si sv slots and long_enough F wi wv ri rv

-- the end that an answer stands for, a List's entries in two slices
abbrev pub end_in : List ℕ → List ℤ → End Value → End Val
end_in is vs (ended v) = ended (val_of is vs v)
end_in is vs (stopped r k) = stopped r k

-- the answer of each end: a List's entries stand from the start of the result slices
abbrev pub ran_to : End Val → End Value
ran_to (ended v) = ended (placed_val v)
ran_to (stopped r k) = stopped r k

-- the entries that an end writes
abbrev pub end_entries : End Val → List Entry
end_entries (ended v) = entries_of v
end_entries (stopped r k) = []

-- "From 8 on, ended or refused, a run leaves the first 16,384 places of its work slices zero and later ones unchanged; before that, all are
-- untouched."
abbrev pub work_after {ℓ} : {A : Type ℓ} → ℕ → A → Answer Pack → List A → List A
work_after n zero (gives d) old = over (replicate n zero) old
work_after n zero (refuses r) old = old

-- an end is answered, and its entries are written from the start of the two result slices, which are else as they were: with them the
-- answer stands for the end
pub record RanTo (e : End Val) (r : End Value) (ri ri' : List ℕ) (rv rv' : List ℤ) : Type 0 where
  pub end_is : end_in ri' rv' r ≡ e
  pub answered : r ≡ ran_to e
  pub items_out : ri' ≡ over (items (end_entries e)) ri
  pub values_out : rv' ≡ over (values (end_entries e)) rv

-- ---- a run whose questions 1 to 7 say yes

-- memory lent for it: work slices long enough and zero where it works, result slices long enough for a List
pub record Memory (F : Format) (wi : List ℕ) (wv : List ℤ) (ri : List ℕ) (rv : List ℤ) : Type 0 where
  pub format : Runnable F
  pub items_room : work_limit F ≤ length wi
  pub values_room : work_limit F ≤ length wv
  pub items_zero : (j : ℕ) → j < work_limit F → get_or wi j 0 ≡ 0
  pub values_zero : (j : ℕ) → j < work_limit F → get_or wv j (pos 0) ≡ pos 0
  pub result_items : F.limit ≤ length ri
  pub result_values : F.limit ≤ length rv

-- the run of a sheet of a pack that passed
abbrev pub run_of : Format → List ℕ → ℕ → List Val → End Val
run_of F p s slots = (run (definitions_of (decoded F p) F) (program p s) (literal_of (decoded F p)) slots).end

-- ---- a run of any bytes

-- a run's end, from the answer of questions 1 to 7
abbrev pub end_after : Format → ℕ → List Val → Answer Pack → End Val
end_after F s slots a = (started a (λ d. run (definitions_of d F) (sheet_of d s) (literal_of d) slots)).end

-- what a run comes to, from that answer: its end, and what it leaves in the result and the work slices
pub record Runs (F : Format) (a : Answer Pack) (s : ℕ) (slots : List Val) (r : End Value) (wi wi' : List ℕ) (wv wv' : List ℤ)
    (ri ri' : List ℕ) (rv rv' : List ℤ) : Type 0 where
  pub ran : RanTo (end_after F s slots a) r ri ri' rv rv'
  pub items_left : wi' ≡ work_after (work_limit F) 0 a wi
  pub values_left : wv' ≡ work_after (work_limit F) (pos 0) a wv
