-- Demand 3 of whole calls: every pack, every sheet number, any kinds of slots. Assumes nothing.
use mathlib.Core.Path.{◌≡◌, refl, sym, ap, ◌∙◌, subst}
use mathlib.Core.Logic.{inr}
use mathlib.Core.Bool.{Bool, true, false}
use mathlib.Core.List.{List, map}
use Prim.Native.Nat.{ℕ, ◌≤◌, ◌<◌}
use native.Mathlib.Omega.{arith}
use lib.Dec.{ltb}
use lib.ListN.{length}
use borrow.Author.Tests.{le-ltb, lt-ltb}
use Rattle.ink_number.specs.Answer.{Answer, gives, refuses, ask, and_then}
use Rattle.ink_value.specs.Val.{Val, kind_of}
use Rattle.ink_value.specs.declared.Kind.{Kind}
use Rattle.pack.specs.Bodies.{Pack}
use Rattle.pack.specs.Judge.{judge}
use Rattle.pack.specs.Read.{definitions_of, literal_of, sheet_of}
use Rattle.pack.specs.declared.format.Format.{Format}
use Rattle.machine.specs.Machine.{ended, run, vet}
use Rattle.machine.specs.Whole.{asked_six, opened, Suffices, started, sheet_run, sheet_vet, count_of}
use Rattle.machine.specs.Foretold.{verdict, Begins, Foretold}
use Rattle.machine.proofs.Demand.{demand3}

-- both calls open the pack alike, where their memory is long enough
opened_alike : (F : Format) (p : List ℕ) (s : ℕ) (memory memory' : Pack → Bool) → Suffices F p memory → Suffices F p memory'
    → opened F p s memory ≡ opened F p s memory'
unfolding opened
opened_alike F p s memory memory' h h' = go (judge F p) refl
  where
    go : (a : Answer Pack) → judge F p ≡ a → and_then a (asked_six s memory) ≡ and_then a (asked_six s memory')
    go (gives d) e = ap (λ (t : Bool). ask 6 (ltb s (length d.sheets)) (ask 7 t (gives d))) (h d e ∙ sym (h' d e))
    go (refuses r) e = refl

module _ (F : Format) (s : ℕ) (f : List ℕ) (slots : List Val) where
  foretold : (a : Answer Pack)
      → ((k : Kind) → (started a (λ d. vet (sheet_of d s) (map kind_of slots))).end ≡ ended k
      → Begins f (started a (λ d. vet (sheet_of d s) (map kind_of slots))).stacks)
      → Foretold (count_of a s) (verdict (started a (λ d. vet (sheet_of d s) (map kind_of slots))).end) f
      (started a (λ d. run (definitions_of d F) (sheet_of d s) (literal_of d) slots))
  foretold (gives d) w = demand3 (definitions_of d F) f (sheet_of d s) (literal_of d) slots w
  foretold (refuses r) w = inr refl

-- f is what stands in the forecast slice
pub demand3_whole : (F : Format) (p : List ℕ) (s : ℕ) (memory memory' : Pack → Bool) (f : List ℕ) (slots : List Val)
    → Suffices F p memory → Suffices F p memory'
    → ((k : Kind) → (sheet_vet F p s memory (map kind_of slots)).end ≡ ended k → Begins f (sheet_vet F p s memory (map kind_of slots)).stacks)
    → Foretold (count_of (opened F p s memory) s) (verdict (sheet_vet F p s memory (map kind_of slots)).end) f (sheet_run F p s memory' slots)
demand3_whole F p s memory memory' f slots h h' w =
    subst (λ (a : Answer Pack). Foretold (count_of (opened F p s memory) s) (verdict (sheet_vet F p s memory (map kind_of slots)).end) f
    (started a (λ d. run (definitions_of d F) (sheet_of d s) (literal_of d) slots)))
    (opened_alike F p s memory memory' h h')
    (foretold F s f slots (opened F p s memory) w)

-- ---- how a call opens the pack

module _ (F : Format) (p : List ℕ) (s : ℕ) (memory : Pack → Bool) where
  -- the pack that it opened is the one that passed, and question 7 said yes of it
  pub opened_judged : (d : Pack) → opened F p s memory ≡ gives d → (judge F p ≡ gives d) × (memory d ≡ true)
  unfolding opened
  opened_judged d e = go (judge F p) e
    where
      no : (r : ℕ) {A : Type 0} → ◌≡◌ {A = Answer Pack} (refuses r) (gives d) → A
      no r h = let z : ◌≡◌ {A = ℕ} 0 1 = cc in absurd (omega arith)

      seven : (x : Pack) (t m : Bool) → memory x ≡ m → ask 6 t (ask 7 m (gives x)) ≡ gives d → (gives x ≡ gives d) × (memory d ≡ true)
      seven x true true q h = (h, (let w : x ≡ d = cc in subst (λ (y : Pack). memory y ≡ true) w q))
      seven x true false q h = no 7 h
      seven x false m q h = no 6 h

      go : (a : Answer Pack) → and_then a (asked_six s memory) ≡ gives d → (a ≡ gives d) × (memory d ≡ true)
      go (gives x) h = seven x (ltb s (length x.sheets)) (memory x) refl h
      go (refuses r) h = no r h

  pub opened_refused : (n : ℕ) → judge F p ≡ refuses n → opened F p s memory ≡ refuses n
  unfolding opened
  opened_refused n e = rw e

  module _ (d : Pack) (e : judge F p ≡ gives d) where
    pub opened_passed : opened F p s memory ≡ asked_six s memory d
    unfolding opened
    opened_passed = rw e

    pub opened_six : length d.sheets ≤ s → opened F p s memory ≡ refuses 6
    unfolding opened
    opened_six h = rw (e, le-ltb s (length d.sheets) h)

    pub opened_seven : s < length d.sheets → memory d ≡ false → opened F p s memory ≡ refuses 7
    unfolding opened
    opened_seven h m = rw (e, lt-ltb s (length d.sheets) h, m)

    pub opened_all : s < length d.sheets → memory d ≡ true → opened F p s memory ≡ gives d
    unfolding opened
    opened_all h m = rw (e, lt-ltb s (length d.sheets) h, m)
