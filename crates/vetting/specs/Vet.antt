-- What vetting asks of lent memory, what it answers, and what it leaves in the forecast slice. Assumes nothing.
use Rattle.std.specs.Prelude.{◌≡◌, Bool, true, List, [], ◌∷◌, map, ℕ, ◌*◌, leb, length}
use Rattle.slices.specs.Every.{◌and◌}
use Rattle.slices.specs.Filled.{over}
use Rattle.ink_value.specs.Val.{Val, kind_of, kind_at}
use Rattle.ink_value.specs.declared.Kind.{Kind}
use Rattle.pack.specs.Bodies.{Pack}
use Rattle.pack.specs.Instruction.{Instr}
use Rattle.pack.specs.Format.{instruction_limit}
use Rattle.pack.specs.declared.format.Format.{Format}
use Rattle.machine.specs.Machine.{End, ended, stopped, vet}
use Rattle.machine.specs.Whole.{opened, Suffices, count_of, sheet_run, sheet_vet}
use Rattle.machine.specs.Foretold.{Verdict, passed, turned, verdict, forecast, Foretold}
use Rattle.vet_program.specs.Ending.{verdict_of}

-- ---- question 7

-- "Are slot codes at most 4"
abbrev pub all_codes : List ℕ → Bool
all_codes [] = true
all_codes (c ∷ cs) = leb c 4 and all_codes cs

-- "forecast 2,048 bytes": two for each instruction
abbrev pub forecast_limit : ℕ
forecast_limit = 2 * instruction_limit

-- both, whatever the pack
unfoldable pub vet_memory : List ℕ → List ℕ → Pack → Bool
vet_memory codes f d = all_codes codes and leb forecast_limit (length f)

-- ---- the answer

-- where it passed, the count of instructions
abbrev pub CountIs : End ℕ → ℕ → Type 0
CountIs (ended n) m = n ≡ m
CountIs (stopped r k) m = Unit {0}

-- "Passed vetting writes two bytes for each instruction, count and top kind, and changes no byte beyond"; "A refusal leaves .. forecast
-- slices unchanged"
abbrev pub forecast_after : Verdict → List (List Kind) → List ℕ → List ℕ
forecast_after passed sts old = over (forecast sts) old
forecast_after (turned r k) sts old = old

-- vetting's answer v, and what it leaves in the forecast slice
pub record Vets (F : Format) (p : List ℕ) (s : ℕ) (codes : List ℕ) (v : End ℕ) (old new : List ℕ) : Type 0 where
  pub right : verdict_of v ≡ verdict (sheet_vet F p s (vet_memory codes old) (map kind_at codes)).end
  pub counted : CountIs v (count_of (opened F p s (vet_memory codes old)) s)
  pub written : new ≡ forecast_after (verdict_of v) (sheet_vet F p s (vet_memory codes old) (map kind_at codes)).stacks old
  -- demand 3: with memory long enough for both calls, of every run on slot values of these kinds
  pub foretold : (runs : Pack → Bool) (slots : List Val) → Suffices F p (vet_memory codes old) → Suffices F p runs
      → map kind_of slots ≡ map kind_at codes
      → Foretold (count_of (opened F p s (vet_memory codes old)) s) (verdict_of v) new (sheet_run F p s runs slots)

-- ---- the parts

-- the answer of a program that question 7 let through, and what it leaves in the forecast slice
pub record VetsProgram (program : List Instr) (kinds : List Kind) (v : End ℕ) (old new : List ℕ) : Type 0 where
  pub right : verdict_of v ≡ verdict (vet program kinds).end
  pub counted : CountIs v (length program)
  pub written : new ≡ forecast_after (verdict_of v) (vet program kinds).stacks old
