-- Operands that are not used, and question 7 of those that are. Assumes nothing.
use mathlib.Core.Path.{◌≡◌, refl, sym, ap, ◌∙◌}
use mathlib.Core.Bool.{Bool, true, false, cond}
use mathlib.Core.List.{List, [], ◌∷◌}
use Prim.Native.Nat.{ℕ, zero, suc, ◌^◌, ◌≤◌}
use native.Mathlib.Omega.{arith}
use lib.Dec.{ltb, eqb}
use lib.IntN.{ℤ}
use lib.ListN.{length, take}
use lib.Pow.{pow_pos}
use borrow.Author.Tests.{lt-ltb, le-leb, eq-eqb, ne_eqb}
use Rattle.slices.specs.Every.{◌and◌}
use Rattle.ink_list.specs.Entries.{bits_below, formed}
use Rattle.slices.proofs.Every.{and_on, and_true, and_left, and_right, and_no_left, and_no_right}
use Rattle.ink_value.specs.Value.{FirstFormed, formed_in, each_formed, all_formed}
use Rattle.ink_value.specs.declared.Value.{Value}
use Rattle.ink_value.proofs.Forming.{formed_yes}
use Rattle.ink_value.specs.declared.Value.TheVariants as Is

-- Void is always formed
void_formed : (total d : ℕ) (is : List ℕ) (vs : List ℤ) → formed_in total d is vs Is.Void ≡ true
unfolding ◌and◌ formed bits_below
void_formed total d is vs = rw (le-leb 0 (length is) (omega arith), le-leb 0 (length vs) (omega arith), lt-ltb 0 (2 ^ d) (pow_pos d))

-- the first n of three, and Void in place of the others
abbrev pub kept : ℕ → Value → Value → Value → List Value
kept n a b c = cond (ltb 0 n) a Is.Void ∷ cond (ltb 1 n) b Is.Void ∷ cond (ltb 2 n) c Is.Void ∷ []

pub kept_formed : (total d : ℕ) (is : List ℕ) (vs : List ℤ) (n : ℕ) (a b c : Value)
    → each_formed total d is vs (kept n a b c) ≡ each_formed total d is vs (take n (a ∷ b ∷ c ∷ []))
unfolding ◌and◌
kept_formed total d is vs zero a b c = rw (void_formed total d is vs)
kept_formed total d is vs (suc zero) a b c = rw (void_formed total d is vs)
kept_formed total d is vs (suc (suc zero)) a b c = rw (void_formed total d is vs)
kept_formed total d is vs (suc (suc (suc zero))) a b c = refl
kept_formed total d is vs (suc (suc (suc (suc n)))) a b c =
    rw (lt-ltb 0 (suc (suc (suc (suc n)))) (omega arith), lt-ltb 1 (suc (suc (suc (suc n)))) (omega arith), lt-ltb 2 (suc (suc (suc (suc n)))) (omega arith))

-- ---- question 7, as the code asks it

-- where the two slices are not equally long
pub uneven : (m n : ℕ) (f : Bool) → (m ≡ n → ⊥) → false ≡ eqb m n and f
uneven m n f h = sym (and_no_left _ _ (ne_eqb m n h))

module _ (total d : ℕ) (is : List ℕ) (vs : List ℤ) where
  module _ (long : length is ≡ length vs) where
    pub all_one : (v : Value) → all_formed total d is vs (v ∷ []) ≡ formed_in total d is vs v
    all_one v = and_on _ _ (eq-eqb (length is) (length vs) long) ∙ and_true (formed_in total d is vs v)

    all_three : (a b c : Value)
        → all_formed total d is vs (a ∷ b ∷ c ∷ []) ≡ formed_in total d is vs a and (formed_in total d is vs b and formed_in total d is vs c)
    all_three a b c =
        and_on _ _ (eq-eqb (length is) (length vs) long)
        ∙ ap (λ (x : Bool). formed_in total d is vs a and (formed_in total d is vs b and x)) (and_true (formed_in total d is vs c))

    -- where the first is not formed, or the second is not
    pub first_no : (a b c : Value) → formed_in total d is vs a ≡ false → false ≡ all_formed total d is vs (a ∷ b ∷ c ∷ [])
    first_no a b c p = sym (all_three a b c ∙ and_no_left _ _ p)

    pub second_no : (a b c : Value) → formed_in total d is vs b ≡ false → false ≡ all_formed total d is vs (a ∷ b ∷ c ∷ [])
    second_no a b c p = sym (all_three a b c ∙ and_no_right _ _ (and_no_left _ _ p))

    pub third : (a b c : Value) → formed_in total d is vs a ≡ true → formed_in total d is vs b ≡ true
        → all_formed total d is vs (a ∷ b ∷ c ∷ []) ≡ formed_in total d is vs c
    third a b c p q = all_three a b c ∙ and_on _ _ p ∙ and_on _ _ q

  pub kept_all : (n : ℕ) (a b c : Value) → all_formed total d is vs (kept n a b c) ≡ all_formed total d is vs (take n (a ∷ b ∷ c ∷ []))
  kept_all n a b c = ap (λ (x : Bool). eqb (length is) (length vs) and x) (kept_formed total d is vs n a b c)

  -- the first n of three that passed
  pub first_of_lem : (limit n : ℕ) (a b c : Value) → total ≤ limit → all_formed total d is vs (take n (a ∷ b ∷ c ∷ [])) ≡ true → FirstFormed limit is vs n a b c
  first_of_lem limit zero a b c h e = record { one = λ k. absurd (omega arith); two = λ k. absurd (omega arith); three = λ k. absurd (omega arith) }
  first_of_lem limit (suc zero) a b c h e =
      let r = and_right _ _ e in
      record { one = λ k. formed_yes total d is vs a limit h (and_left _ _ r); two = λ k. absurd (omega arith); three = λ k. absurd (omega arith) }
  first_of_lem limit (suc (suc zero)) a b c h e =
      let r = and_right _ _ e in
      record {
        one = λ k. formed_yes total d is vs a limit h (and_left _ _ r);
        two = λ k. formed_yes total d is vs b limit h (and_left _ _ (and_right _ _ r));
        three = λ k. absurd (omega arith);
      }
  first_of_lem limit (suc (suc (suc n))) a b c h e =
      let r = and_right _ _ e in
      record {
        one = λ k. formed_yes total d is vs a limit h (and_left _ _ r);
        two = λ k. formed_yes total d is vs b limit h (and_left _ _ (and_right _ _ r));
        three = λ k. formed_yes total d is vs c limit h (and_left _ _ (and_right _ _ (and_right _ _ r)));
      }
