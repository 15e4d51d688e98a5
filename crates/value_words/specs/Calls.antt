-- What a direct call or a conversion returns and leaves at the boundary: 0 and a value's words, or the number of the question that said no
-- and the index. Assumes nothing.
use Rattle.std.specs.Prelude.{◌≡◌, List, [], ◌∷◌, ℕ, ℤ}
use Rattle.ink_number.specs.Answer.{Answer, gives, refuses}
use Rattle.ink_list.specs.Entries.{items, values}
use Rattle.slices.specs.Filled.{over}
use Rattle.ink_value.specs.Val.{Val}
use Rattle.ink_value.specs.Value.{placed, written}
use Rattle.ink_value.specs.declared.Value.{Value}
use Rattle.words_in.specs.Words.{value_at}
use Rattle.words_out.specs.Words.{words_of, Small}

-- 0, or the number of the question that said no
abbrev pub number_of {ℓ} : {X : Type ℓ} → Answer X → ℕ
number_of (gives x) = 0
number_of (refuses r) = r

-- an index in the answer's words
abbrev pub index_words : ℕ → List ℕ
index_words k = k ∷ 0 ∷ 0 ∷ []

-- ---- a direct call or a conversion: "an instruction index (0 for .. all direct calls)"

abbrev pub outcome_number : Answer Value → ℕ
outcome_number (gives v) = 0
outcome_number (refuses r) = r

abbrev pub outcome_words : Answer Value → List ℕ
outcome_words (gives v) = words_of v
outcome_words (refuses r) = index_words 0

-- a List that it gives has room in its word
abbrev pub SmallOutcome : Answer Value → Type 0
SmallOutcome (gives v) = Small v
SmallOutcome (refuses r) = Unit {0}

-- the words of three operands
abbrev pub operands_in : List ℕ → List Value
operands_in ws = value_at ws 0 ∷ value_at ws 1 ∷ value_at ws 2 ∷ []

-- a call without result slices
pub record Says (a : Answer Val) (n : ℕ) (ws : List ℕ) : Type 0 where
  pub number : n ≡ outcome_number (placed a)
  pub words : ws ≡ outcome_words (placed a)

-- with them: a List's entries are written from their start, and they are else as they were
pub record Calls (a : Answer Val) (n : ℕ) (ws oi oi' : List ℕ) (ov ov' : List ℤ) : Type 0 where
  pub says : Says a n ws
  pub items_out : oi' ≡ over (items (written a)) oi
  pub values_out : ov' ≡ over (values (written a)) ov
