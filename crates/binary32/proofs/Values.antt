-- The finite magnitudes of specs/Nearest.antt, a significand below 2 ^ 24 times a power of two, are those of the binary32
-- values: each is the magnitude of one (`finite-value`), and each finite value has one (`value-finite`). Assumes nothing.
use mathlib.Core.Path.{◌≡◌, refl, sym, ap, ◌∙◌, subst}
use mathlib.Core.Bool.{Bool, true, false}
use Prim.Native.Nat.{ℕ, zero, suc, ◌+◌, ◌-◌, ◌*◌, ◌^◌, ◌≤◌, ◌<◌}
use native.Mathlib.Nat.{le_of_lt, le_of_eq, le_of_suc-le-suc, lt_of_not-le, lt_of_lt_of_le, lt_of_le_of_lt, not-le_of_lt, mul-one, one-mul, mul_assoc, mul_right_comm, mul-lt-mul_of_pos_right, lt_of_mul-lt-mul_right}
use borrow.Author.Tests.{leb-true, leb-false}
use native.Mathlib.Omega.{arith}
use lib.Dec.{leb, lit<, lit≤}
use lib.IntN.{ℤ, pos, negsuc}
use lib.Pow.{pow-add, pow_pos, pow-lt, pow_mono, shl_lt}
use lib.Ieee.{Float, fin, binary32, up, down, round}
use lib.Ieee.Fits.{down_pos, round-fits}
use lib.Ieee.Exact.{round_exact}
use Rattle.binary32.specs.Binary32.{Is, Binary32}
use Rattle.binary32.specs.Nearest.{Finite}
use Rattle.binary32.proofs.Binary32.{num_is, den_is, is_of, binary32_of}
use Rattle.binary32.proofs.Powers.{factor}

-- what a finite binary32 value keeps to
abbrev pub Held : ℕ → ℤ → Type 0
Held m e = (m < 2 ^ 24) × (down e ≤ 2 ^ 149) × (m * up e < 2 ^ 128 * down e)

pub held : (s : Bool) (m : ℕ) (e : ℤ) → Binary32 (fin s m e) → Held m e
unfolding Binary32
held s zero e b = subst (Held 0) (sym b) (lit< tt, lit≤ tt, lit< tt)
held s (suc m) e b = (b.1, rw den_is at b.2, rw (num_is, den_is) at b.3)

-- 2 ^ e is 2 ^ a units of 2 ^ -149
pub scale : (e : ℤ) → down e ≤ 2 ^ 149 → (a : ℕ) × (up e * 2 ^ 149 ≡ 2 ^ a * down e)
scale (pos k) h = (k + 149, sym (pow-add 2 k 149) ∙ sym (mul-one (2 ^ (k + 149))))
scale (negsuc k) h =
    (149 - suc k, one-mul (2 ^ 149) ∙ factor 149 (suc k) (le_of_suc-le-suc (lt_of_not-le (λ (g : 149 < suc k). not-le_of_lt (pow-lt g) h))))

pub below_top : (m a x u : ℕ) → u * 2 ^ 149 ≡ 2 ^ a * x → 0 < x → m * u < 2 ^ 128 * x → m * 2 ^ a < 2 ^ 277
below_top m a x u h X l =
    lt_of_mul-lt-mul_right x
    (lt_of_le_of_lt (le_of_eq (mul_assoc m (2 ^ a) x ∙ ap (λ (z : ℕ). m * z) (sym h) ∙ sym (mul_assoc m u (2 ^ 149))))
    (lt_of_lt_of_le (mul-lt-mul_of_pos_right l (pow_pos 149)) (le_of_eq (mul_right_comm (2 ^ 128) x (2 ^ 149)))))

-- ---- each finite magnitude is a value's

pub finite_lt : (w : ℕ) → Finite w → w < 2 ^ 277
finite_lt w f =
    let j = f.exponent in
    subst (λ (z : ℕ). z < 2 ^ 277) (sym f.is) (lt_of_lt_of_le (shl_lt 24 j f.short) (pow_mono {i = 24 + j} {j = 277} (reach j f.low)))
  where
    reach : (j : ℕ) → j ≤ 253 → 24 + j ≤ 277
    reach j h = omega arith

pub finite_value : (s : Bool) (v : ℕ) → Finite v → (x : Float) × Binary32 x × Is x s v (2 ^ 149)
finite_value s v f =
    let x = round binary32 s v (2 ^ 149) in
    let below = subst (λ (z : ℕ). z < 2 ^ 277) f.is (finite_lt v f) in (
      x,
      binary32_of x (round-fits binary32 s v (2 ^ 149)),
      is_of x s v (2 ^ 149)
          (round_exact binary32 s v (2 ^ 149) f.significand f.exponent (pow_pos 149) f.short below (ap (λ (z : ℕ). z * 2 ^ 149) f.is)),
    )

-- ---- each finite value has such a magnitude

finite_of : (m a : ℕ) → m < 2 ^ 24 → m * 2 ^ a < 2 ^ 277 → Finite (m * 2 ^ a)
finite_of m a s h = go (leb a 253) refl
  where
    go : (b : Bool) → leb a 253 ≡ b → Finite (m * 2 ^ a)
    go true e = record { significand = m; exponent = a; short = s; low = leb-true a 253 e; is = refl }
    go false e =
        let w = m * 2 ^ (a - 253) in
        let i : m * 2 ^ a ≡ w * 2 ^ 253 =
        ap (λ (z : ℕ). m * z) (factor a 253 (le_of_lt (leb-false a 253 e))) ∙ sym (mul_assoc m (2 ^ (a - 253)) (2 ^ 253)) in
        record {
          significand = w;
          exponent = 253;
          short = lt_of_mul-lt-mul_right (2 ^ 253) (subst (λ (z : ℕ). z < 2 ^ 277) i h);
          low = lit≤ tt;
          is = i;
        }

pub value_finite : (s : Bool) (m : ℕ) (e : ℤ) → Binary32 (fin s m e) → (v : ℕ) × Finite v × Is (fin s m e) s v (2 ^ 149)
value_finite s m e b =
    let H = held s m e b in
    let a = scale e H.1 in (
      m * 2 ^ a.0,
      finite_of m a.0 H.0 (below_top m a.0 (down e) (up e) a.1 (down_pos e) H.2),
      is_of (fin s m e) s (m * 2 ^ a.0) (2 ^ 149)
          (refl, mul_assoc m (up e) (2 ^ 149) ∙ ap (λ (z : ℕ). m * z) a.1 ∙ sym (mul_assoc m (2 ^ a.0) (down e))),
    )
