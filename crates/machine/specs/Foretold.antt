-- Demand 3: what vetting's answer and forecast say of every run. Assumes nothing.
use Rattle.std.specs.Prelude.{◌≡◌, ◌⊎◌, List, [], ◌∷◌, map, ℕ, ◌+◌, ◌*◌, ◌-◌, ◌<◌, length, get_or}
use Rattle.ink_number.specs.Int.{divisor_question}
use Rattle.ink_value.specs.Val.{Val, kind_of, code_of}
use Rattle.ink_value.specs.declared.Kind.{Kind}
use Rattle.machine.specs.Machine.{End, ended, stopped, Run}

-- vetting's answer: passed, or turned back with a number at an index
pub data Verdict : Type 0 where
  passed : Verdict
  turned : ℕ → ℕ → Verdict

abbrev pub verdict : End Kind → Verdict
verdict (ended k) = passed
verdict (stopped r k) = turned r k

-- the code of a stack's topmost kind (no stack after an instruction is empty)
abbrev pub top_code : List Kind → ℕ
top_code [] = 4
top_code (k ∷ ks) = code_of k

-- "two bytes for each instruction, count and top kind"
abbrev pub forecast : List (List Kind) → List ℕ
forecast [] = []
forecast (st ∷ sts) = length st ∷ top_code st ∷ forecast sts

-- the bytes of f begin with the forecast of these stacks
abbrev pub Begins : List ℕ → List (List Kind) → Type 0
Begins f ks = (i : ℕ) → i < 2 * length ks → get_or f i 0 ≡ get_or (forecast ks) i 0

-- 15, the one question that depends on values: x is the end, or the answer, that f gives for it at an index of which P holds
abbrev pub ByValue : {X : Type 0} → (ℕ → ℕ → X) → (ℕ → Type 0) → X → Type 0
ByValue f P x = (i : ℕ) × P i × (x ≡ f divisor_question i)

-- a run stops with it
abbrev pub StopsByValue : (ℕ → Type 0) → End Val → Type 0
StopsByValue = ByValue stopped

-- what an answer, with the forecast's bytes f, says of the run of a sheet of n instructions. Passed: after every instruction that the run
-- completes, count and top kind are those forecast for it; and the run ends in one value of the kind forecast last, or stops with 15.
-- Turned back with q at k: the run stops before k with 15, or exactly at k with q
abbrev pub Foretold : ℕ → Verdict → List ℕ → Run Val → Type 0
Foretold n passed f r =
    ((j : ℕ) → j < length r.stacks
    → (get_or f (2 * j) 0 ≡ length (get_or r.stacks j []))
    × (get_or f (2 * j + 1) 0 ≡ top_code (map kind_of (get_or r.stacks j []))))
    × (((v : Val) × (r.end ≡ ended v) × (length r.stacks ≡ n) × (code_of (kind_of v) ≡ get_or f (2 * n - 1) 0))
    ⊎ StopsByValue (λ i. i < n) r.end)
Foretold n (turned q k) f r = StopsByValue (λ i. i < k) r.end ⊎ (r.end ≡ stopped q k)
