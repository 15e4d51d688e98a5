-- Question 7 of the slots, one after another, as the code asks it. Assumes nothing.
use mathlib.Core.Path.{◌≡◌, refl, sym, ◌∙◌}
use mathlib.Core.Bool.{Bool, true, false}
use mathlib.Core.List.{List, [], ◌∷◌}
use Prim.Native.Nat.{ℕ, zero, suc, ◌<◌}
use native.Mathlib.Nat.{le_of_suc-le-suc}
use native.Mathlib.Omega.{arith}
use lib.IntN.{ℤ}
use lib.ListN.{length, get_or}
use borrow.Author.Tests.{eq-eqb, ne_eqb}
use Rattle.std.specs.Bool.{MatchBool}
use Rattle.std.specs.List.{AllWithin, HoldsAt}
use Rattle.slices.specs.Every.{◌and◌}
use Rattle.slices.proofs.Every.{and_left, and_right, and_both, and_no_left, not_both}
use Rattle.ink_value.specs.Value.{formed_in, each_formed, all_formed}
use Rattle.ink_value.specs.declared.Value.{Value}
use Rattle.ink_value.specs.declared.Value.TheVariants as Is

module _ (total d : ℕ) (is : List ℕ) (vs : List ℤ) where
  pub each_at : (slots : List Value) (z : Value) → each_formed total d is vs slots ≡ true → (k : ℕ) → k < length slots → formed_in total d is vs (get_or slots k z) ≡ true
  each_at [] z e k h = absurd (omega arith)
  each_at (v ∷ l) z e zero h = and_left _ _ e
  each_at (v ∷ l) z e (suc k) h = each_at l z (and_right _ _ e) k (le_of_suc-le-suc h)

  each_yes : (slots : List Value) → ((k : ℕ) → k < length slots → formed_in total d is vs (get_or slots k Is.Void) ≡ true) → each_formed total d is vs slots ≡ true
  each_yes [] h = refl
  each_yes (v ∷ l) h = and_both _ _ (h 0 (omega arith)) (each_yes l (λ k b. h (suc k) (omega arith)))

  -- an answer that is yes where each was yes, and no where one was no
  pub each_asked : (slots : List Value) (r : Bool)
      → MatchBool r (AllWithin (λ v. formed_in total d is vs v ≡ true) slots 0 (length slots))
      ((k : ℕ) × (k < length slots) × HoldsAt (λ v. formed_in total d is vs v ≡ false) slots k)
      → r ≡ each_formed total d is vs slots
  each_asked slots true h = sym (each_yes slots (λ k b. h k Is.Void (omega arith) b))
  each_asked slots false (k, b, h) = go (each_formed total d is vs slots) refl
    where
      go : (t : Bool) → each_formed total d is vs slots ≡ t → false ≡ t
      go true e = absurd (not_both (sym (h Is.Void) ∙ each_at slots Is.Void e k b))
      go false e = refl

  pub uneven : (slots : List Value) → (length is ≡ length vs → ⊥) → all_formed total d is vs slots ≡ false
  uneven slots h = and_no_left _ _ (ne_eqb (length is) (length vs) h)

  pub even : (slots : List Value) → length is ≡ length vs → all_formed total d is vs slots ≡ each_formed total d is vs slots
  unfolding ◌and◌
  even slots h = rw (eq-eqb (length is) (length vs) h)
