-- What a call answers: a result, or the number of the question that was answered no. Assumes nothing.
use Rattle.std.specs.Prelude.{ℕ, Bool, true, false, not, ◌&&◌, ◌==◌, nat_lt}

pub data Answer {ℓ} (X : Type ℓ) : Type ℓ where
  gives : X → Answer X
  refuses : ℕ → Answer X

-- the numbers of the questions: 1 to 18, but for 14 and 16, which are retired
abbrev pub in_use : ℕ → Bool
in_use n = nat_lt 0 n && nat_lt n 19 && not (n == 14) && not (n == 16)

-- question n, and what comes after a yes: "the first "no" ends the call with its number"
abbrev pub ask {ℓ} : {X : Type ℓ} → ℕ → Bool → Answer X → Answer X
ask n true rest = rest
ask n false rest = refuses n

-- a call that goes on with a result
abbrev pub and_then {ℓ ℓ'} : {X : Type ℓ} {Y : Type ℓ'} → Answer X → (X → Answer Y) → Answer Y
and_then (gives x) f = f x
and_then (refuses n) f = refuses n
