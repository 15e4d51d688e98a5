-- The library's test for a NaN is the definition's, and says what `x != x` does: so the smaller and the greater by it are those that
-- binary32's `min_meets` and `max_meets` speak of. Assumes nothing.
use Rattle.std.proofs.Common.{◌≡◌, Bool, true, false, cond, refl, sym, ap, ◌∙◌}
use Rattle.std.specs.Prelude.{Float}
use Rattle.std.specs.Float.{nan, inf, fin}
use Rattle.std.specs.Float.Ieee as Ieee
use lib.Ieee.{lt, ne}
use Rattle.binary32.specs.Operations.{is_nan, smaller, greater}
use Rattle.binary32.proofs.Meets.{min_meets, max_meets}
use Rattle.binary32.proofs.Tests.{self_differs}

pub nan_meets : (x : Float) → Ieee.is_nan x ≡ is_nan x
unfolding Ieee.is_nan
nan_meets nan = refl
nan_meets (inf s) = refl
nan_meets (fin s m e) = refl

pub nan_differs : (x : Float) → Ieee.is_nan x ≡ ne x x
nan_differs x = nan_meets x ∙ sym (self_differs x)

by_nan : (x y z : Float) {w : Float} → cond (ne x x) y z ≡ w → cond (Ieee.is_nan x) y z ≡ w
by_nan x y z e = ap (λ (t : Bool). cond t y z) (nan_differs x) ∙ e

-- the smaller and the greater of x and y, by the answers of the two tests
module _ (x y : Float) where
  smaller_is : cond (Ieee.is_nan x) y (cond (lt y x) y x) ≡ smaller x y
  smaller_is = by_nan x y (cond (lt y x) y x) (min_meets x y)

  pub smaller_nan : Ieee.is_nan x ≡ true → y ≡ smaller x y
  smaller_nan e = rw e at smaller_is

  pub smaller_right : Ieee.is_nan x ≡ false → lt y x ≡ true → y ≡ smaller x y
  smaller_right e l = rw (e, l) at smaller_is

  pub smaller_left : Ieee.is_nan x ≡ false → lt y x ≡ false → x ≡ smaller x y
  smaller_left e l = rw (e, l) at smaller_is

  greater_is : cond (Ieee.is_nan x) y (cond (lt x y) y x) ≡ greater x y
  greater_is = by_nan x y (cond (lt x y) y x) (max_meets x y)

  pub greater_nan : Ieee.is_nan x ≡ true → y ≡ greater x y
  greater_nan e = rw e at greater_is

  pub greater_right : Ieee.is_nan x ≡ false → lt x y ≡ true → y ≡ greater x y
  greater_right e l = rw (e, l) at greater_is

  pub greater_left : Ieee.is_nan x ≡ false → lt x y ≡ false → x ≡ greater x y
  greater_left e l = rw (e, l) at greater_is
