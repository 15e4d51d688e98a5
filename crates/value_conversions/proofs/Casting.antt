-- Question 18. Assumes nothing.
use Rattle.std.proofs.Common.{◌≡◌, refl, true}
use Rattle.ink_value.specs.declared.Kind.{Kind}
use Rattle.ink_value.specs.declared.Kind.TheVariants as K
use Rattle.value_conversions.specs.Convert.{castable}

-- to a List only a List is cast
pub cast_list : (from : Kind) → castable K.List from ≡ true → from ≡ K.List
unfolding castable
cast_list K.Bool e = absurd cc
cast_list K.Int e = absurd cc
cast_list K.Float e = absurd cc
cast_list K.List e = refl
cast_list K.Void e = absurd cc

-- to Void nothing is
pub cast_void : (from : Kind) → castable K.Void from ≡ true → ⊥
unfolding castable
cast_void from e = cc
