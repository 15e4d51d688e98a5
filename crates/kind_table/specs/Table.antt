-- The table of answers on kinds, and what is read of it. Assumes nothing.
use Rattle.std.specs.Prelude.{◌≡◌, ◌||◌, Bool, true, false, List, [], ◌∷◌, ℕ, zero, suc, ◌<◌, ◌+◌, ◌*◌, ◌/◌, ◌%◌, eqb, get_or}
use Rattle.slices.specs.Every.{◌and◌}
use Rattle.ink_value.specs.declared.Kind.{Kind}
use Rattle.ink_value.specs.Val.{kind_at, code_of}
use Rattle.ink_number.specs.Answer.{Answer, gives, refuses}
use Rattle.op.specs.Op.{op_range}
use Rattle.operator_kinds.specs.Kinds.{kind_entry, decoded}

-- the table has for each operator its 25 answers, by the left kind and then by the right
pub record Table (table : List (List ℕ)) : Type 0 where
  pub answers : (o a b : ℕ) → o < op_range → a < 5 → b < 5 → decoded (get_or (get_or table o []) (a * 5 + b) 0) ≡ kind_entry o (kind_at a) (kind_at b)

-- an answer as it stands in the table: a kind's code, or the number of the question that says no
abbrev pub encoded : Answer Kind → ℕ
encoded (gives k) = code_of k
encoded (refuses r) = r

-- a list's first n members pass a test, each with its place, from place o on
abbrev pub passes : {A : Type 0} → (ℕ → A → Bool) → ℕ → ℕ → List A → Bool
passes t o zero xs = true
passes t o (suc n) [] = false
passes t o (suc n) (x ∷ xs) = t o x and passes t (suc o) n xs

-- a row has its operator's answers by the left kind and then by the right
abbrev pub entry_right : ℕ → ℕ → ℕ → Bool
entry_right o i e = eqb e (encoded (kind_entry o (kind_at (i / 5)) (kind_at (i % 5))))

abbrev pub row_right : ℕ → List ℕ → Bool
row_right o row = passes (entry_right o) 0 25 row

-- the table has a row for each operator below range
abbrev pub all_right : List (List ℕ) → Bool
all_right table = passes row_right 0 op_range table

-- the answers that the table may have: a kind, or 8, 11, 12 or 13
abbrev pub is_listed : ℕ → Bool
is_listed r = eqb r 8 || eqb r 11 || eqb r 12 || eqb r 13

abbrev pub Listed : Answer Kind → Type 0
Listed (gives k) = Unit {0}
Listed (refuses r) = is_listed r ≡ true
