-- The words of specs/Binary32.antt in those of lib.Ieee: 2 ^ e is `up e / down e`, `Is` is `HasValue`, `Binary32` is `fits`.
-- Assumes nothing.
use mathlib.Core.Path.{◌≡◌, refl, sym, ◌∙◌, subst}
use mathlib.Core.Bool.{Bool, true, ◌&&◌}
use Prim.Native.Nat.{ℕ, zero, suc, ◌*◌, ◌%◌, ◌^◌, ◌≤◌, ◌<◌}
use native.Mathlib.Nat.{mul-one, one-mul, pow-suc}
use native.Mathlib.Omega.{arith}
use lib.Dec.{T, ltb, leb, eqb, eqb→eq, ltb→lt, leb→le, lt→ltb, le→leb}
use lib.IntN.{ℤ, pos, negsuc}
use lib.Pow.{pow_pos}
use lib.Ieee.{Float, nan, inf, fin, binary32, up, down, fits}
use lib.Ieee.Fits.{and_i, and_l, and_r, eq→eqb}
use lib.Ieee.Exact.{HasValue}
use Rattle.binary32.specs.Binary32.{numerator, denominator, Is, Binary32}

pub num_is : (m : ℕ) (e : ℤ) → numerator m e ≡ m * up e
num_is m (pos k) = refl
num_is m (negsuc k) = sym (mul-one m)

pub den_is : (e : ℤ) → denominator e ≡ down e
den_is (pos k) = refl
den_is (negsuc k) = refl

pub is_of : (x : Float) (s : Bool) (a c : ℕ) → HasValue x s a c → Is x s a c
is_of nan s a c v = v
is_of (inf t) s a c v = v
is_of (fin t m e) s a c v = (v.0, rw (num_is, den_is) v.1)

pub value_of : (x : Float) (s : Bool) (a c : ℕ) → Is x s a c → HasValue x s a c
value_of nan s a c v = v
value_of (inf t) s a c v = v
value_of (fin t m e) s a c v = (v.0, rw (num_is, den_is) at v.1)

-- ---- zero

no_one : (k : ℕ) → 2 ^ suc k ≡ 1 → ⊥
no_one k h =
    let p = pow_pos k in
    let q = pow-suc 2 k in
    omega arith

flat : (e : ℤ) → up e * down e ≡ 1 → e ≡ pos 0
flat (pos zero) h = refl
flat (pos (suc k)) h = absurd (no_one k (sym (mul-one (2 ^ suc k)) ∙ h))
flat (negsuc k) h = absurd (no_one k (sym (one-mul (2 ^ suc k)) ∙ h))

-- ---- the four tests of `fits` on another number, as facts

module _ (n : ℕ) (e : ℤ) where
  abbrev Facts : Type 0
  Facts = (n % 2 ≡ 1) × (n < 2 ^ 24) × (denominator e ≤ 2 ^ 149) × (numerator n e < 2 ^ 128 * denominator e)

  abbrev odd? : Bool
  odd? = eqb (n % 2) 1

  abbrev short? : Bool
  short? = ltb n (2 ^ 24)

  abbrev fine? : Bool
  fine? = leb (down e) (2 ^ 149)

  abbrev small? : Bool
  small? = ltb (n * up e) (2 ^ 128 * down e)

  facts : T (odd? && short? && fine? && small?) → Facts
  facts t =
      let u = and_l (odd? && short? && fine?) small? t in
      let v = and_l (odd? && short?) fine? u in (
        eqb→eq (n % 2) 1 (and_l odd? short? v),
        ltb→lt n (2 ^ 24) (and_r odd? short? v),
        rw den_is (leb→le (down e) (2 ^ 149) (and_r (odd? && short?) fine? u)),
        rw (num_is, den_is) (ltb→lt (n * up e) (2 ^ 128 * down e) (and_r (odd? && short? && fine?) small? t)),
      )

  tests : Facts → T (odd? && short? && fine? && small?)
  tests (p, q, r, l) =
      and_i (odd? && short? && fine?) small?
      (and_i (odd? && short?) fine? (and_i odd? short? (eq→eqb p) (lt→ltb n (2 ^ 24) q)) (le→leb (down e) (2 ^ 149) (rw den_is at r)))
      (lt→ltb (n * up e) (2 ^ 128 * down e) (rw (num_is, den_is) at l))

pub binary32_of : (x : Float) → T (fits binary32 x) → Binary32 x
unfolding fits Binary32
binary32_of nan f = tt
binary32_of (inf s) f = tt
binary32_of (fin s zero e) f = flat e (eqb→eq (up e * down e) 1 f)
binary32_of (fin s (suc m) e) f = facts (suc m) e f

pub fits_of : (x : Float) → Binary32 x → T (fits binary32 x)
unfolding fits Binary32
fits_of nan f = tt
fits_of (inf s) f = tt
fits_of (fin s zero e) f = subst (λ (d : ℤ). T (eqb (up d * down d) 1)) (sym f) tt
fits_of (fin s (suc m) e) f = tests (suc m) e f

-- by the fit that every proof has of a Float parameter
pub fitting : (x : Float) → fits binary32 x ≡ true → Binary32 x
fitting x e = binary32_of x (subst T (sym e) tt)
