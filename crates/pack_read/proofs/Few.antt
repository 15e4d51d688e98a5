-- A sheet has no more instructions than its limit, and each is allowed in its pack. Assumes nothing.
use Prim.Native.Nat.{ℕ, zero, suc, ◌+◌, ◌-◌, ◌≤◌, ◌<◌}
use mathlib.Core.Bool.{Bool, true, false}
use mathlib.Core.List.{List, []}
use mathlib.Core.Option.{some}
use mathlib.Core.Path.{◌≡◌, refl, ap, subst}
use native.Mathlib.Omega.{arith}
use lib.Dec.{leb}
use lib.ListN.{length}
use borrow.Author.Tests.{leb-true, leb-false}
use Rattle.pack.specs.Instruction.{Instr, width, instructions, EachAllowed}
use Rattle.pack.proofs.Allowed.{allowed}
use Rattle.pack.proofs.Programs.{turn, finished}

module _ (L : ℕ) (p : List ℕ) (end : ℕ) where
  abbrev pub Short : ℕ → Type 0
  Short n = (at : ℕ) (l : List Instr) → at ≤ end → instructions L p n at end ≡ some l → length l ≤ n

  step : (n at : ℕ) (l : List Instr) → (0 < n → Short (n - 1)) → at ≤ end → instructions L p n at end ≡ some l → (t : Bool) → leb end at ≡ t → length l ≤ n
  step n at l rest h e true w =
      let same : at ≡ end = omega (arith, leb-true end at w) in
      let none : l ≡ [] = finished L p n end l (subst (λ (x : ℕ). instructions L p n x end ≡ some l) same e) in
      omega (arith, ap length none)
  step n at l rest h e false w =
      let t = turn L p n at end l (omega (arith, leb-false end at w)) e in
      omega (arith, ap length t.both, t.left, rest t.left (at + width t.first) t.rest t.within t.goes_on)

  pub few : (n : ℕ) → Short n
  few zero at l h e = step zero at l (λ z. absurd (omega arith)) h e (leb end at) refl
  few (suc n) at l h e = step (suc n) at l (λ z. let same : suc n - 1 ≡ n = omega arith in rw same (few n)) h e (leb end at) refl

  abbrev Each : ℕ → Type 0
  Each n = (at : ℕ) (l : List Instr) → at ≤ end → instructions L p n at end ≡ some l → EachAllowed L l

  one : (n at : ℕ) (l : List Instr) → (0 < n → Each (n - 1)) → at ≤ end → instructions L p n at end ≡ some l → (t : Bool) → leb end at ≡ t → EachAllowed L l
  one n at l rest h e true w =
      let same : at ≡ end = omega (arith, leb-true end at w) in
      let none : l ≡ [] = finished L p n end l (subst (λ (x : ℕ). instructions L p n x end ≡ some l) same e) in
      rw none tt
  one n at l rest h e false w =
      let t = turn L p n at end l (omega (arith, leb-false end at w)) e in
      rw t.both (allowed L p at t.first t.stands, rest t.left (at + width t.first) t.rest t.within t.goes_on)

  pub each_allowed : (n : ℕ) → Each n
  each_allowed zero at l h e = one zero at l (λ z. absurd (omega arith)) h e (leb end at) refl
  each_allowed (suc n) at l h e = one (suc n) at l (λ z. let same : suc n - 1 ≡ n = omega arith in rw same (each_allowed n)) h e (leb end at) refl
