-- The Float of an Int by its magnitude, as `int_to_float` gets it. Assumes nothing.
use Rattle.std.proofs.Common.{◌≡◌, true, false, ℤ, pos, negsuc, refl, true≢false, arith, ltb-true}
use lib.Signed.{lt_z}
use lib.Ieee.{binary32, neg, of_int}
use Rattle.std.specs.Prelude.{unsigned_abs}
use Rattle.nearest_float.proofs.Significand.{negated}

pub plain : (z : ℤ) → lt_z z (pos 0) ≡ false → of_int binary32 (pos (unsigned_abs z)) ≡ of_int binary32 z
plain (pos a) t = refl
plain (negsuc a) t = absurd (true≢false t)

pub turned : (z : ℤ) → lt_z z (pos 0) ≡ true → neg (of_int binary32 (pos (unsigned_abs z))) ≡ of_int binary32 z
turned (pos a) t = absurd (let h = ltb-true a 0 t in omega arith)
turned (negsuc a) t = negated a
