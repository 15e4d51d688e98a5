-- A call on the bytes of a pack: questions 1 to 7, and then the machine. Assumes nothing.
use Rattle.std.specs.Prelude.{◌≡◌, Bool, true, List, [], ℕ, ltb, length}
use Rattle.ink_number.specs.Answer.{Answer, gives, refuses, ask, and_then}
use Rattle.ink_value.specs.Val.{Val}
use Rattle.ink_value.specs.declared.Kind.{Kind}
use Rattle.pack.specs.Bodies.{Pack}
use Rattle.pack.specs.Judge.{judge}
use Rattle.pack.specs.Read.{definitions_of, literal_of, sheet_of}
use Rattle.pack.specs.declared.format.Format.{Format}
use Rattle.machine.specs.Machine.{Run, stopped, run, vet}

-- question 7 of a pack that passed, of which `memory` is the answer
abbrev pub asked_seven : (Pack → Bool) → Pack → Answer Pack
asked_seven memory d = ask 7 (memory d) (gives d)

-- question 6 before it: "Does the sheet number exist?"
abbrev pub asked_six : ℕ → (Pack → Bool) → Pack → Answer Pack
asked_six s memory d = ask 6 (ltb s (length d.sheets)) (asked_seven memory d)

-- and before them questions 1 to 5
unfoldable pub opened : Format → List ℕ → ℕ → (Pack → Bool) → Answer Pack
opened F p s memory = and_then (judge F p) (asked_six s memory)

-- lent memory suffices: question 7 is answered yes where the pack passed
abbrev pub Suffices : Format → List ℕ → (Pack → Bool) → Type 0
Suffices F p memory = (d : Pack) → judge F p ≡ gives d → memory d ≡ true

-- "an instruction index (0 for 1 to 7)"
abbrev pub started : {X : Type 0} → Answer Pack → (Pack → Run X) → Run X
started (gives d) f = f d
started (refuses r) f = record { stacks = []; end = stopped r 0 }

-- "It is fed the pack, a sheet number and 16 slot values"
abbrev pub sheet_run : Format → List ℕ → ℕ → (Pack → Bool) → List Val → Run Val
sheet_run F p s memory slots = started (opened F p s memory) (λ d. run (definitions_of d F) (sheet_of d s) (literal_of d) slots)

-- vetting gets 16 kinds for the slots
abbrev pub sheet_vet : Format → List ℕ → ℕ → (Pack → Bool) → List Kind → Run Kind
sheet_vet F p s memory kinds = started (opened F p s memory) (λ d. vet (sheet_of d s) kinds)

-- how many instructions a sheet has, where the call gets to it
abbrev pub count_of : Answer Pack → ℕ → ℕ
count_of (gives d) s = length (sheet_of d s)
count_of (refuses r) s = 0
