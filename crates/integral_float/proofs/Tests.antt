-- The tests that the code makes of a Float: where it is neither negative nor positive, and from 2^23 on, it is its own integral value; where
-- it is negative, its opposite is positive. Assumes nothing.
use mathlib.Core.Path.{◌≡◌, refl, sym, ap, ◌∙◌, subst}
use mathlib.Core.Bool.{Bool, true, false, not, true≢false, false≢true}
use Prim.Native.Nat.{ℕ, zero, suc, ◌+◌, ◌*◌, ◌^◌, ◌≤◌, ◌<◌}
use native.Mathlib.Nat.{zero-lt-suc, zero-mul, mul-pos, pow-suc}
use native.Mathlib.Omega.{arith}
use borrow.Author.Tests.{ltb-true, ltb-false, lt-ltb}
use lib.Dec.{lit<}
use lib.IntN.{ℤ, pos, negsuc}
use lib.Pow.{pow_pos}
use lib.Ieee.{Float, nan, inf, fin, binary32, fits, of_int, of_bits, up, down, lt, neg}
use lib.Ieee.Fits.{up_pos}
use Rattle.binary32.specs.Binary32.{Binary32}
use Rattle.binary32.specs.Operations.{opposite, less}
use Rattle.binary32.specs.Real.{floor_f, ceiling_f, of_int32}
use Rattle.binary32.proofs.Values.{held}
use Rattle.binary32.proofs.Integral.{twice, opposite_fits}
use Rattle.binary32.proofs.Binary32.{fitting}
use Rattle.binary32.proofs.Meets.{floor_whole, lt_meets}
use Rattle.integral_float.specs.Near.{fraction_limit}

abbrev pub Zero : Float
Zero = fin false 0 (pos 0)

-- 2^23
abbrev pub Limit : Float
Limit = fin false 1 (pos 23)

-- the two tests, of a positive x: as the contracts say it, and as the machine's comparison with a constant does
abbrev pub Positive : Float → Type 0
Positive x = less (of_int32 (pos 0)) x ≡ true

abbrev pub below? : Float → Bool
below? x = lt x (of_bits binary32 0x4b00_0000)

pub above_zero : (x : Float) → Positive x → lt Zero x ≡ true
unfolding of_int
above_zero x p = lt_meets Zero x ∙ p

pub under_limit : (x : Float) (t : Bool) → below? x ≡ t → lt x Limit ≡ t
unfolding of_bits
under_limit x t e = e

pub in_contract : (x : Float) → below? x ≡ true → less x (of_int32 (pos fraction_limit)) ≡ true
unfolding of_bits of_int
in_contract x e = sym (lt_meets x Limit) ∙ e

-- ---- a Float that is its own

abbrev pub Own : Float → Type 0
Own x = (x ≡ floor_f x) × (x ≡ ceiling_f x)

own : (s : Bool) (m k : ℕ) → Binary32 (fin s m (pos k)) → Own (fin s m (pos k))
unfolding opposite
own s m k f =
    let x = fin s m (pos k) in
    (floor_whole s m k f, sym (twice x) ∙ ap opposite (floor_whole (not s) m k (opposite_fits x f)))

short : (m p : ℕ) → m < 2 ^ 24 → 0 < p → 8388608 * (p * 2) ≤ m * 1 * 1 → ⊥
short m p h q l = omega arith

no_fraction : (x : Float) → Binary32 x → lt Zero x ≡ true → lt x Limit ≡ false → Own x
unfolding lt floor_f opposite
no_fraction nan f p q = absurd (false≢true p)
no_fraction (inf true) f p q = absurd (false≢true p)
no_fraction (inf false) f p q = (refl, refl)
no_fraction (fin true m e) f p q = absurd (false≢true p)
no_fraction (fin false m (pos k)) f p q = own false m k f
no_fraction (fin false m (negsuc k)) f p q =
    absurd (short m (2 ^ k) (held false m (negsuc k) f).0 (pow_pos k)
    (subst (λ (z : ℕ). 8388608 * z ≤ m * 1 * 1) (pow-suc 2 k) (ltb-false (m * 1 * 1) (8388608 * 2 ^ suc k) q)))

pub large : (x : Float) → fits binary32 x ≡ true → Positive x → below? x ≡ false → Own x
large x f p q = no_fraction x (fitting x f) (above_zero x p) (under_limit x false q)

-- a magnitude above 0 is below 0 or above it
some : (m : ℕ) (e : ℤ) → 0 < suc m * up e * 1
some m e = mul-pos (mul-pos (zero-lt-suc m) (up_pos e)) (lit< tt)

pub neither : (x : Float) → Binary32 x → lt x Zero ≡ false → lt Zero x ≡ false → x ≡ floor_f x
unfolding lt floor_f Binary32
neither nan f p q = refl
neither (inf true) f p q = absurd (true≢false p)
neither (inf false) f p q = absurd (true≢false q)
neither (fin s zero e) f p q =
    subst (λ (d : ℤ). fin s zero d ≡ floor_f (fin s zero d)) (sym f) (floor_whole s 0 0 refl)
neither (fin true (suc m) e) f p q =
    let a = some m e in
    let l = ltb-false 0 (suc m * up e * 1 + 0 * down e) p in
    absurd (omega arith)
neither (fin false (suc m) e) f p q =
    let a = some m e in
    let z = zero-mul (down e) in
    let l = ltb-false (0 * down e) (suc m * up e * 1) q in
    absurd (omega arith)

-- ---- below 0

pub positive : (x : Float) → lt x Zero ≡ true → lt Zero (neg x) ≡ true
unfolding lt neg
positive nan p = absurd (false≢true p)
positive (inf true) p = refl
positive (inf false) p = absurd (false≢true p)
positive (fin true m e) p =
    let z = zero-mul (down e) in
    let l = ltb-true 0 (m * up e * 1 + 0 * down e) p in
    lt-ltb (0 * down e) (m * up e * 1) (omega arith)
positive (fin false m e) p =
    let z = zero-mul (down e) in
    let l = ltb-true (m * up e * 1) (0 * down e) p in
    absurd (omega arith)
