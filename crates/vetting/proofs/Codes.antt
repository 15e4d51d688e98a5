-- Sixteen codes: the test of them, and the kinds that they stand for. Assumes nothing.
use mathlib.Core.Path.{◌≡◌, refl, sym, ◌∙◌}
use mathlib.Core.Bool.{Bool, true, false}
use mathlib.Core.List.{List, [], ◌∷◌, map}
use Prim.Native.Nat.{ℕ, zero, suc, ◌≤◌, ◌<◌}
use native.Mathlib.Omega.{arith}
use lib.ListN.{length, get_or, get_or-map, length-map}
use borrow.Author.Tests.{le-leb, lt-leb}
use Rattle.std.specs.Bool.{MatchBool}
use Rattle.std.specs.List.{AllWithin, HoldsAt}
use Rattle.std.proofs.lemmas.List.{ext_get_or}
use Rattle.slices.specs.Every.{table}
use Rattle.slices.proofs.Every.{and_both, and_no_left, and_no_right}
use Rattle.slices.proofs.Tables.{length_table, get_d_table}
use Rattle.ink_value.specs.declared.Kind.TheVariants as K
use Rattle.ink_value.specs.Val.{kind_at}
use Rattle.vetting.specs.Vet.{all_codes}

all_yes : (cs : List ℕ) → ((k : ℕ) → k < length cs → get_or cs k 0 ≤ 4) → all_codes cs ≡ true
all_yes [] h = refl
all_yes (c ∷ cs) h = and_both _ _ (le-leb c 4 (h 0 (omega arith))) (all_yes cs (λ k b. h (suc k) (omega arith)))

one_no : (cs : List ℕ) (k : ℕ) → k < length cs → 4 < get_or cs k 0 → all_codes cs ≡ false
one_no [] k b h = absurd (omega arith)
one_no (c ∷ cs) zero b h = and_no_left _ _ (lt-leb c 4 h)
one_no (c ∷ cs) (suc k) b h = and_no_right _ _ (one_no cs k (omega arith) h)

-- the answer of an iterator's `all` on codes
pub told : (cs : List ℕ) (r : Bool) → MatchBool r (AllWithin (λ c. c ≤ 4) cs 0 (length cs)) ((k : ℕ) × (k < length cs) × HoldsAt (λ c. 4 < c) cs k)
    → r ≡ all_codes cs
told cs true h = sym (all_yes cs (λ k b. h k 0 (omega arith) b))
told cs false (k, b, h) = sym (one_no cs k b (h 0))

-- the kinds by their places
pub kinds_table : (cs : List ℕ) (n : ℕ) → length cs ≡ n → table n (λ k. kind_at (get_or cs k 0)) ≡ map kind_at cs
kinds_table cs n e =
    ext_get_or K.Bool (table n (λ k. kind_at (get_or cs k 0))) (map kind_at cs) (length_table n _ ∙ sym (length-map cs kind_at ∙ e))
    (λ k b. get_d_table n _ k K.Bool (omega (arith, b, length_table n (λ k. kind_at (get_or cs k 0)))) ∙ sym (get_or-map kind_at cs k 0))
