-- The items of all definitions, as an iterator sums them. Assumes nothing.
use Rattle.std.proofs.Common.{◌≡◌, ℕ, zero, suc, List, refl, ap, subst, zero-add, ◌∙◌, ◌+◌}
use mathlib.Core.List.{map}
use native.Mathlib.Numerals.{add-one}
use Rattle.std.specs.List.{range_with_len, sum}
use Rattle.std.proofs.lemmas.List.FromFn.{sum_by-map-range_with_len_more}
use Rattle.pack.specs.declared.format.Format.{Format}
use Rattle.pack.specs.Bodies.{count, items_below}

module _ (F : Format) (p : List ℕ) where
  pub counted : (n : ℕ) → sum (map (count F p) (range_with_len 0 n)) ≡ items_below F p n
  unfolding items_below
  counted zero = refl
  counted (suc n) =
      subst (λ (m : ℕ). sum (map (count F p) (range_with_len 0 m)) ≡ items_below F p n + count F p n) (add-one n)
      (sum_by-map-range_with_len_more (λ (x : ℕ). x) (count F p) 0 n n (zero-add n) ∙ ap (λ (m : ℕ). m + count F p n) (counted n))
