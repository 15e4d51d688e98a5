-- The definitions of a pack that has passed, as two tables in slices. Assumes nothing.
use Rattle.std.specs.Prelude.{◌≡◌, Bool, List, [], ◌∷◌, ℕ, leb, ℤ, length}
use Rattle.ink_number.specs.Answer.{Answer, gives, refuses}
use Rattle.slices.specs.Every.{◌and◌}
use Rattle.slices.specs.Filled.{over}
use Rattle.pack.specs.Bodies.{Pack, decoded}
use Rattle.pack.specs.Format.{definition_limit}
use Rattle.pack.specs.declared.format.Format.{Format}
use Rattle.pack.specs.Judge.{judge}
use Rattle.pack.specs.Read.{ends_of, defined_of}
use Rattle.value_words.specs.Calls.{number_of}

-- questions 1 to 5 said yes
abbrev pub Passed : Format → List ℕ → Type 0
Passed F p = judge F p ≡ gives (decoded F p)

-- 7, of the slices for the two tables: as many places as a pack of the format may have definitions and items
unfoldable pub tables_long : Format → List ℕ → List ℤ → Bool
tables_long F ends defined = leb definition_limit (length ends) and leb F.limit (length defined)

-- a slice with a table from its start on, where the pack is given
abbrev pub table_after {ℓ} : {A : Type ℓ} → (Pack → List A) → Answer Pack → List A → List A
table_after f (gives d) old = over (f d) old
table_after f (refuses r) old = old

abbrev pub counts_after : Answer Pack → List ℕ → List ℕ
counts_after (gives d) old = length (ends_of d) ∷ length (defined_of d) ∷ []
counts_after (refuses r) old = old

-- the two tables, from the start of their slices, and how many places each takes; by a refusal nothing is written
pub record Reads (a : Answer Pack) (n : ℕ) (ends ends' : List ℕ) (defined defined' : List ℤ) (counts counts' : List ℕ) : Type 0 where
  pub number : n ≡ number_of a
  pub ends_in : ends' ≡ table_after ends_of a ends
  pub defined_in : defined' ≡ table_after defined_of a defined
  pub counted : counts' ≡ counts_after a counts

-- the pack has passed, and these are its tables
pub record Ready (F : Format) (p ends : List ℕ) (defined : List ℤ) : Type 0 where
  pub passed : Passed F p
  pub ends_are : ends ≡ ends_of (decoded F p)
  pub defined_are : defined ≡ defined_of (decoded F p)
