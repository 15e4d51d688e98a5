-- A whole number near a Float. Assumes nothing.
use Rattle.std.specs.Prelude.{◌≡◌, ℕ, ◌*◌, ◌^◌, ◌<◌, pos, Float}
use Rattle.std.specs.Float.{nan, inf, fin}
use Rattle.binary32.specs.Binary32.{numerator, denominator}
use Rattle.binary32.specs.Nearest.{gap}
use Rattle.binary32.specs.Real.{of_int32}

-- from here on a Float has no fraction
abbrev pub fraction_limit : ℕ
fraction_limit = 2 ^ 23

-- r is a whole number that is less than 1 away from the magnitude of x; a fraction is compared by multiplying across
unfoldable pub Near : Float → Float → Type 0
Near nan r = ⊥
Near (inf s) r = ⊥
Near (fin s m e) r = (n : ℕ) × (r ≡ of_int32 (pos n)) × (gap (numerator m e) (n * denominator e) < denominator e)
