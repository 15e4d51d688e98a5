-- A finite pattern's Float is its number of units, by the pattern's fields. Assumes nothing.
use mathlib.Core.Path.{◌≡◌, refl, sym, ap, ◌∙◌, subst}
use mathlib.Core.Bool.{Bool, true, false, cond}
use Prim.Native.Nat.{ℕ, zero, suc, ◌+◌, ◌-◌, ◌*◌, ◌/◌, ◌%◌, ◌^◌, ◌≤◌, ◌<◌}
use native.Mathlib.Nat.{mul-one, one-mul, mul-pos, mod-eq_of_lt}
use native.Mathlib.Omega.{arith}
use borrow.Author.Tests.{lt-ltb, le-ltb, le-leb, lt-leb, leb-true, leb-false, ne_eqb, ltb-true, ltb-false}
use lib.Dec.{ltb, leb, eqb}
use lib.Pow.{pow-add, pow_pos, pow-lt, mod-mod-pow}
use lib.Ieee.{Float, nan, inf, binary32, of_bits, to_bits}
use lib.Ieee.Bits.{of_bits-to_bits}
use Rattle.binary32.specs.Binary32.{Is, Binary32}
use Rattle.binary32.specs.Operations.{Stands, OfBits}
use Rattle.binary32.proofs.Binary32.{fits_of}
use Rattle.binary32.proofs.Fields.{reads}
use Rattle.float_remainder.specs.Units.{infinity, exponent, significand, units}

-- ---- the fields

pub short : (b : ℕ) → significand b < 2 ^ 24
short b = go (ltb (b % 2 ^ 31) (2 ^ 23))
  where
    go : (t : Bool) → cond t (b % 2 ^ 23) (2 ^ 23 + b % 2 ^ 23) < 2 ^ 24
    go true = omega arith
    go false = omega arith

pub some : (b : ℕ) → 0 < b % 2 ^ 31 → 0 < significand b
some b h = go (ltb (b % 2 ^ 31) (2 ^ 23)) (ltb-true (b % 2 ^ 31) (2 ^ 23))
  where
    low : (b : ℕ) → 0 < b % 2 ^ 31 → b % 2 ^ 31 < 2 ^ 23 → 0 < b % 2 ^ 23
    low b h k = omega arith

    go : (t : Bool) → (t ≡ true → b % 2 ^ 31 < 2 ^ 23) → 0 < cond t (b % 2 ^ 23) (2 ^ 23 + b % 2 ^ 23)
    go true e = low b h (e refl)
    go false e = omega arith

pub some_units : (b : ℕ) → 0 < b % 2 ^ 31 → 0 < units b
some_units b h = mul-pos (some b h) (pow_pos (exponent b))

-- with an exponent there is a leading digit
pub tall : (b : ℕ) → 0 < exponent b → 2 ^ 23 ≤ significand b
tall b h = go (ltb (b % 2 ^ 31) (2 ^ 23)) (ltb-true (b % 2 ^ 31) (2 ^ 23))
  where
    none : (x : ℕ) → x < 2 ^ 23 → 0 < x / 2 ^ 23 - 1 → ⊥
    none x h k = omega arith

    go : (t : Bool) → (t ≡ true → b % 2 ^ 31 < 2 ^ 23) → 2 ^ 23 ≤ cond t (b % 2 ^ 23) (2 ^ 23 + b % 2 ^ 23)
    go true e = absurd (none (b % 2 ^ 31) (e refl) h)
    go false e = omega arith

pub exponent_le : (b : ℕ) → b % 2 ^ 31 < infinity → exponent b ≤ 253
exponent_le b h = omega arith

-- ---- what a pattern stands for

field_lt : (x : ℕ) → x < infinity → x / 2 ^ 23 < 255
field_lt x h = omega arith

pub stands : (b : ℕ) (r : Float) → b % 2 ^ 31 < infinity → OfBits b r → Is r (leb (2 ^ 31) b) (units b) (2 ^ 149)
unfolding OfBits
stands b r h o = go (b % 2 ^ 31 / 2 ^ 23) (ltb (b % 2 ^ 31) (2 ^ 23)) (field_lt (b % 2 ^ 31) h) (low (b % 2 ^ 31)) (high (b % 2 ^ 31)) o
  where
    low : (x : ℕ) → ltb x (2 ^ 23) ≡ true → x / 2 ^ 23 ≡ 0
    low x e = let h = ltb-true x (2 ^ 23) e in omega arith

    high : (x : ℕ) → ltb x (2 ^ 23) ≡ false → 0 < x / 2 ^ 23
    high x e = let h = ltb-false x (2 ^ 23) e in omega arith

    less_one : (k : ℕ) → k ≡ suc k - 1
    less_one k = omega arith

    go : (x : ℕ) (t : Bool) → x < 255 → (t ≡ true → x ≡ 0) → (t ≡ false → 0 < x) → Stands (leb (2 ^ 31) b) x (b % 2 ^ 23) r
        → Is r (leb (2 ^ 31) b) (cond t (b % 2 ^ 23) (2 ^ 23 + b % 2 ^ 23) * 2 ^ (x - 1)) (2 ^ 149)
    go zero true l p q o = subst (λ (a : ℕ). Is r (leb (2 ^ 31) b) a (2 ^ 149)) (sym (mul-one (b % 2 ^ 23))) o
    go zero false l p q o = absurd (let h = q refl in omega arith)
    go (suc k) true l p q o = absurd (let h = p refl in omega arith)
    go (suc k) false l p q o =
        subst (λ (i : ℕ). Is r (leb (2 ^ 31) b) ((2 ^ 23 + b % 2 ^ 23) * 2 ^ i) (2 ^ 149)) (less_one k)
        (subst (λ (t : Bool). cond t (r ≡ cond (eqb (b % 2 ^ 23) 0) (inf (leb (2 ^ 31) b)) nan) (Is r (leb (2 ^ 31) b) ((2 ^ 23 + b % 2 ^ 23) * 2 ^ k) (2 ^ 149)))
        (ne_eqb (suc k) 255 (λ (e : suc k ≡ 255). apart k l e)) o)
      where
        apart : (k : ℕ) → suc k < 255 → suc k ≡ 255 → ⊥
        apart k l e = omega arith

-- a Float has its own pattern
pub has : (x : Float) → Binary32 x → OfBits (to_bits binary32 x) x
has x p = subst (OfBits (to_bits binary32 x)) (of_bits-to_bits binary32 x (fits_of x p)) (reads (to_bits binary32 x))

-- ---- the patterns of powers of two

abbrev pub Power : ℕ → ℕ → Type 0
Power p k = (p < infinity) × (units p ≡ 2 ^ k)

low_units : (p : ℕ) → p < 2 ^ 23 → units p ≡ p
low_units p h =
    ap (λ (t : Bool). cond t (p % 2 ^ 23) (2 ^ 23 + p % 2 ^ 23) * 2 ^ exponent p) (lt-ltb (p % 2 ^ 31) (2 ^ 23) (omega arith))
    ∙ ap (λ (z : ℕ). z * 2 ^ exponent p) (mod-eq_of_lt h)
    ∙ ap (λ (z : ℕ). p * 2 ^ z) (none p h)
    ∙ mul-one p
  where
    none : (p : ℕ) → p < 2 ^ 23 → exponent p ≡ 0
    none p h = omega arith

high_units : (j : ℕ) → j < 254 → units (suc j * 2 ^ 23) ≡ 2 ^ 23 * 2 ^ j
high_units j h =
    let p = suc j * 2 ^ 23 in
    ap (λ (t : Bool). cond t (p % 2 ^ 23) (2 ^ 23 + p % 2 ^ 23) * 2 ^ exponent p) (le-ltb (p % 2 ^ 31) (2 ^ 23) (omega arith))
    ∙ ap (λ (z : ℕ). (2 ^ 23 + z) * 2 ^ exponent p) (no_fraction j)
    ∙ ap (λ (z : ℕ). 2 ^ 23 * 2 ^ z) (field j h)
  where
    no_fraction : (j : ℕ) → suc j * 2 ^ 23 % 2 ^ 23 ≡ 0
    no_fraction j = omega arith

    field : (j : ℕ) → j < 254 → exponent (suc j * 2 ^ 23) ≡ j
    field j h = omega arith

pub low_power : (k : ℕ) → k < 23 → Power (1 * 2 ^ k % 2 ^ 32) k
low_power k h =
    let l : 2 ^ k < 2 ^ 23 = pow-lt h in
    let e : 1 * 2 ^ k % 2 ^ 32 ≡ 2 ^ k = ap (λ (z : ℕ). z % 2 ^ 32) (one-mul (2 ^ k)) ∙ mod-eq_of_lt (pow-lt {i = k} {j = 32} (omega arith)) in
    subst (λ (p : ℕ). Power p k) (sym e) (omega arith, low_units (2 ^ k) l)

pub high_power : (k : ℕ) → 23 ≤ k → k ≤ 253 → Power ((k - 23 + 1) * 2 ^ 23 % 2 ^ 32) k
high_power k h l =
    subst (λ (p : ℕ). Power p k) (sym (place k h l))
    (small k h l, high_units (k - 23) (omega arith) ∙ sym (pow-add 2 23 (k - 23)) ∙ ap (λ (z : ℕ). 2 ^ z) (back k h))
  where
    place : (k : ℕ) → 23 ≤ k → k ≤ 253 → (k - 23 + 1) * 2 ^ 23 % 2 ^ 32 ≡ suc (k - 23) * 2 ^ 23
    place k h l = omega arith

    small : (k : ℕ) → 23 ≤ k → k ≤ 253 → suc (k - 23) * 2 ^ 23 < infinity
    small k h l = omega arith

    back : (k : ℕ) → 23 ≤ k → 23 + (k - 23) ≡ k
    back k h = omega arith

-- ---- a pattern below the sign's, with the sign of another

abbrev pub signed : ℕ → ℕ → ℕ
signed x p = x - x % 2 ^ 31 + p

rest_is : (x p : ℕ) → p < infinity → signed x p % 2 ^ 31 ≡ p
rest_is x p h = omega arith

pub signed_finite : (x p : ℕ) → p < infinity → signed x p % 2 ^ 31 < infinity
signed_finite x p h = let e = rest_is x p h in omega arith

sign_is : (x p : ℕ) → p < infinity → leb (2 ^ 31) (signed x p) ≡ leb (2 ^ 31) x
sign_is x p h = go (leb (2 ^ 31) x) refl
  where
    above : (x p : ℕ) → 2 ^ 31 ≤ x → 2 ^ 31 ≤ signed x p
    above x p h = omega arith

    below : (x p : ℕ) → p < infinity → x < 2 ^ 31 → signed x p < 2 ^ 31
    below x p h l = omega arith

    go : (t : Bool) → leb (2 ^ 31) x ≡ t → leb (2 ^ 31) (signed x p) ≡ t
    go true e = le-leb (2 ^ 31) (signed x p) (above x p (leb-true (2 ^ 31) x e))
    go false e = lt-leb (2 ^ 31) (signed x p) (below x p h (leb-false (2 ^ 31) x e))

units_of : (b : ℕ) → units b ≡ units (b % 2 ^ 31)
units_of b =
    let e : b % 2 ^ 31 ≡ b % 2 ^ 31 % 2 ^ 31 = omega arith in
    ap (λ (z : ℕ). cond (ltb z (2 ^ 23)) (b % 2 ^ 23) (2 ^ 23 + b % 2 ^ 23) * 2 ^ (z / 2 ^ 23 - 1)) e
    ∙ ap (λ (f : ℕ). cond (ltb (b % 2 ^ 31 % 2 ^ 31) (2 ^ 23)) f (2 ^ 23 + f) * 2 ^ (b % 2 ^ 31 % 2 ^ 31 / 2 ^ 23 - 1)) (sym (mod-mod-pow b 8 23))

pub signed_power : (x p k : ℕ) → Power p k → Is (of_bits binary32 (signed x p)) (leb (2 ^ 31) x) (2 ^ k) (2 ^ 149)
signed_power x p k (h, e) =
    let r = of_bits binary32 (signed x p) in
    subst (λ (s : Bool). Is r s (2 ^ k) (2 ^ 149)) (sign_is x p h)
    (subst (λ (a : ℕ). Is r (leb (2 ^ 31) (signed x p)) a (2 ^ 149)) (units_of (signed x p) ∙ ap units (rest_is x p h) ∙ e)
    (stands (signed x p) r (signed_finite x p h) (reads (signed x p))))
