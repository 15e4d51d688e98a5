-- The library's minimum and maximum of some values are the least and the greatest of the definition. Assumes nothing.
use Rattle.std.proofs.Common.{◌≡◌, Bool, true, false, cond, List, [], ◌∷◌, ℤ, pos, sym, ap, ◌∙◌, refl, subst, unwrap_or}
use Rattle.std.specs.Cmp.{int_chain, int_ranked}
use Rattle.std.specs.List.{fold, reduce}
use Rattle.std.specs.Ordering.{int_cmp, max_by_ordering, min_by_ordering}
use Rattle.std.specs.declared.cmp.Ordering.TheVariants.{Less, Equal, Greater}
use lib.Dec.{T}
use lib.Signed.{lt_z, lt_z_yes, <ℤ_irrefl}
use Rattle.ink_list.specs.Ops.{top, extreme_value, upper_bound}
use Rattle.ink_number.specs.Int.{greatest}

-- the less and the greater of two values, as the library picks them
abbrev pub first : ℤ → ℤ → ℤ
first v w = min_by_ordering (int_cmp v w) v w

abbrev pub last : ℤ → ℤ → ℤ
last v w = max_by_ordering (int_cmp v w) v w

first_is : (v w : ℤ) → first v w ≡ cond (lt_z w v) w v
first_is v w = go (lt_z v w) refl (lt_z w v) refl
  where
    go : (s : Bool) → lt_z v w ≡ s → (t : Bool) → lt_z w v ≡ t → min_by_ordering (cond s Less (cond t Greater Equal)) v w ≡ cond t w v
    go true p true q = absurd (<ℤ_irrefl (int_chain v w v (lt_z_yes (subst T (sym p) tt)) (lt_z_yes (subst T (sym q) tt))))
    go true p false q = refl
    go false p true q = refl
    go false p false q = refl

last_is : (v w : ℤ) → last v w ≡ cond (lt_z v w) w v
last_is v w = go (lt_z v w) refl (lt_z w v) refl
  where
    go : (s : Bool) → lt_z v w ≡ s → (t : Bool) → lt_z w v ≡ t → max_by_ordering (cond s Less (cond t Greater Equal)) v w ≡ cond s w v
    go true p t q = refl
    go false p true q = refl
    go false p false q = sym (int_ranked v w Equal (rw (p, q)))

fold_first : (v : ℤ) (ws : List ℤ) → fold first v ws ≡ top true v ws
fold_first v [] = refl
fold_first v (w ∷ ws) = fold_first (first v w) ws ∙ ap (λ z. top true z ws) (first_is v w)

fold_last : (v : ℤ) (ws : List ℤ) → fold last v ws ≡ top false v ws
fold_last v [] = refl
fold_last v (w ∷ ws) = fold_last (last v w) ws ∙ ap (λ z. top false z ws) (last_is v w)

pub least_reduced : (vs : List ℤ) → unwrap_or (reduce first vs) (pos 0) ≡ extreme_value true vs
least_reduced [] = refl
least_reduced (v ∷ vs) = fold_first v vs

pub greatest_reduced : (vs : List ℤ) → unwrap_or (reduce last vs) (pos 0) ≡ extreme_value false vs
greatest_reduced [] = refl
greatest_reduced (v ∷ vs) = fold_last v vs

pub upper_reduced : (vs : List ℤ) → unwrap_or (reduce last vs) greatest ≡ upper_bound vs
upper_reduced [] = refl
upper_reduced (v ∷ vs) = fold_last v vs
