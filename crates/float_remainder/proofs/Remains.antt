-- The remainder of two Floats by their numbers of units, and where it is NaN or the dividend. Assumes nothing.
use mathlib.Core.Path.{◌≡◌, refl, sym, ap, ◌∙◌, subst}
use mathlib.Core.Bool.{Bool, true, false, cond, true≢false, false≢true}
use Prim.Native.Nat.{ℕ, zero, suc, ◌-◌, ◌*◌, ◌/◌, ◌%◌, ◌^◌, ◌≤◌, ◌<◌}
use native.Mathlib.Nat.{mul_comm, mul_assoc, mul_right_comm, mul-pos, zero-mul, zero-lt-suc, mod-eq-sub-div-mul}
use native.Mathlib.Omega.{arith}
use lib.Dec.{leb, eqb}
use lib.IntN.{ℤ}
use lib.Pow.{pow_pos}
use lib.Ieee.{Float, nan, inf, fin, binary32, up, rem, is_nan, fits, of_bits, to_bits}
use lib.Ieee.Fits.{up_pos, down_pos}
use Rattle.binary32.specs.Binary32.{numerator, denominator, Is, Binary32, Exactly}
use Rattle.binary32.specs.Operations.{Stands, OfBits, Remainder}
use Rattle.binary32.specs.Real.{rem_f}
use Rattle.binary32.proofs.Binary32.{num_is, den_is, fitting}
use Rattle.binary32.proofs.Meets.{meant, rem_meets}
use Rattle.float_remainder.specs.Units.{infinity, units}
use Rattle.float_remainder.proofs.Scaling.{mod_scale}
use Rattle.float_remainder.proofs.Product.{rescale_is}
use Rattle.float_remainder.proofs.Units.{stands, has}

den_pos : (e : ℤ) → 0 < denominator e
den_pos e = rw den_is (down_pos e)

num_pos : (n : ℕ) (d : ℤ) → 0 < numerator (suc n) d
num_pos n d = rw num_is (mul-pos (zero-lt-suc n) (up_pos d))

-- ---- of finite Floats

no_units : (d : ℤ) (Y : ℕ) → 0 < Y → numerator zero d * 2 ^ 149 ≡ Y * denominator d → ⊥
no_units d Y h e =
    let p = mul-pos h (den_pos d) in
    let z : numerator zero d ≡ 0 = num_is zero d ∙ zero-mul (up d) in
    omega arith

-- over the denominator that both share
shares : (a x e d : ℕ) → a * 2 ^ 149 ≡ x * e → a * d * 2 ^ 149 ≡ x * (e * d)
shares a x e d h = mul_right_comm a d (2 ^ 149) ∙ ap (λ (z : ℕ). z * d) h ∙ mul_assoc x e d

module _ (m : ℕ) (e : ℤ) (n : ℕ) (d : ℤ) (X Y : ℕ) where
  abbrev A : ℕ
  A = numerator m e * denominator d

  abbrev B : ℕ
  B = numerator (suc n) d * denominator e

  abbrev D : ℕ
  D = denominator e * denominator d

  same : numerator m e * 2 ^ 149 ≡ X * denominator e → numerator (suc n) d * 2 ^ 149 ≡ Y * denominator d → 0 < Y → (A - A / B * B) * 2 ^ 149 ≡ X % Y * D
  same p q h =
      let a : A * 2 ^ 149 ≡ X * D = shares (numerator m e) X (denominator e) (denominator d) p in
      let b : B * 2 ^ 149 ≡ Y * D =
      shares (numerator (suc n) d) Y (denominator d) (denominator e) q ∙ ap (λ (z : ℕ). Y * z) (mul_comm (denominator d) (denominator e)) in
      ap (λ (z : ℕ). z * 2 ^ 149) (sym (mod-eq-sub-div-mul A B))
      ∙ sym (mod_scale A B (2 ^ 149) (mul-pos (num_pos n d) (den_pos e)) (pow_pos 149))
      ∙ ap (λ (z : ℕ). z % (B * 2 ^ 149)) a
      ∙ ap (λ (z : ℕ). X * D % z) b
      ∙ mod_scale X Y D h (mul-pos (den_pos e) (den_pos d))

of_units : (a b r : Float) (s t : Bool) (X Y : ℕ) → Binary32 a → Binary32 b → Binary32 r → 0 < Y
    → Is a s X (2 ^ 149) → Is b t Y (2 ^ 149) → Is r s (X % Y) (2 ^ 149) → r ≡ rem_f a b
unfolding Remainder
of_units nan b r s t X Y f g k h p q v = absurd p
of_units (inf s') b r s t X Y f g k h p q v = absurd p
of_units (fin s' m e) nan r s t X Y f g k h p q v = absurd q
of_units (fin s' m e) (inf t') r s t X Y f g k h p q v = absurd q
of_units (fin s' m e) (fin t' zero d) r s t X Y f g k h p q v = absurd (no_units d Y h q.1)
of_units (fin s' m e) (fin t' (suc n) d) r s t X Y f g k h p q v =
    (rem_meets (fin s' m e) (fin t' (suc n) d) f g).only r k
    (rescale_is r s' (X % Y) (2 ^ 149) (A m e n d X Y - A m e n d X Y / B m e n d X Y * B m e n d X Y) (D m e n d X Y) (pow_pos 149) (same m e n d X Y p.1 q.1 h)
    (subst (λ (z : Bool). Is r z (X % Y) (2 ^ 149)) (sym p.0) v))

pub finite_is : (a b r : Float) → Binary32 a → Binary32 b → Binary32 r → to_bits binary32 a % 2 ^ 31 < infinity → to_bits binary32 b % 2 ^ 31 < infinity → 0 < units (to_bits binary32 b)
    → Is r (leb (2 ^ 31) (to_bits binary32 a)) (units (to_bits binary32 a) % units (to_bits binary32 b)) (2 ^ 149) → r ≡ rem_f a b
finite_is a b r f g k h l p v =
    let x = to_bits binary32 a in
    let y = to_bits binary32 b in
    of_units a b r (leb (2 ^ 31) x) (leb (2 ^ 31) y) (units x) (units y) f g k p (stands x a h (has a f)) (stands y b l (has b g)) v

-- both clauses of the contract
pub told : (a b r : Float) → fits binary32 a ≡ true → fits binary32 b ≡ true → r ≡ rem_f a b → (r ≡ rem_f a b) × Exactly (Remainder a b) r
told a b r f g e = meant (rem_meets a b (fitting a f) (fitting b g)) e

-- ---- NaN

pub nan_pattern : of_bits binary32 0x7fc0_0000 ≡ nan
unfolding of_bits
nan_pattern = refl

nan_of : (x : Float) → is_nan x ≡ true → x ≡ nan
unfolding is_nan
nan_of nan e = refl
nan_of (inf s) e = absurd (false≢true e)
nan_of (fin s m d) e = absurd (false≢true e)

nan_is : is_nan nan ≡ false → ⊥
unfolding is_nan
nan_is e = true≢false e

nan_left : (y : Float) → nan ≡ rem_f nan y
unfolding rem
nan_left y = refl

nan_right : (x : Float) → nan ≡ rem_f x nan
unfolding rem
nan_right nan = refl
nan_right (inf s) = refl
nan_right (fin s m e) = refl

inf_left : (s : Bool) (y : Float) → nan ≡ rem_f (inf s) y
unfolding rem
inf_left s y = refl

pub of_nan : (x y : Float) → is_nan x ≡ true → x ≡ rem_f x y
of_nan x y e = subst (λ (z : Float). z ≡ rem_f z y) (sym (nan_of x e)) (nan_left y)

pub by_nan : (x y : Float) → is_nan y ≡ true → y ≡ rem_f x y
by_nan x y e = subst (λ (z : Float). z ≡ rem_f x z) (sym (nan_of y e)) (nan_right x)

-- from an infinity's pattern on
no_finite : (x : Float) → Binary32 x → infinity ≤ to_bits binary32 x % 2 ^ 31
    → x ≡ cond (eqb (to_bits binary32 x % 2 ^ 23) 0) (inf (leb (2 ^ 31) (to_bits binary32 x))) nan
unfolding OfBits
no_finite x p h = let b = to_bits binary32 x in subst (λ (i : ℕ). Stands (leb (2 ^ 31) b) i (b % 2 ^ 23) x) (last b h) (has x p)
  where
    last : (b : ℕ) → infinity ≤ b % 2 ^ 31 → b % 2 ^ 31 / 2 ^ 23 ≡ 255
    last b h = omega arith

pub of_infinity : (x y : Float) → Binary32 x → infinity ≤ to_bits binary32 x % 2 ^ 31 → nan ≡ rem_f x y
of_infinity x y p h = go (eqb (to_bits binary32 x % 2 ^ 23) 0) (no_finite x p h)
  where
    go : (t : Bool) → x ≡ cond t (inf (leb (2 ^ 31) (to_bits binary32 x))) nan → nan ≡ rem_f x y
    go true e = subst (λ (z : Float). nan ≡ rem_f z y) (sym e) (inf_left (leb (2 ^ 31) (to_bits binary32 x)) y)
    go false e = subst (λ (z : Float). nan ≡ rem_f z y) (sym e) (nan_left y)

-- a zero
no_part : (x y : Float) (t : Bool) → Is y t 0 (2 ^ 149) → nan ≡ rem_f x y
unfolding rem
no_part nan y t q = refl
no_part (inf s) y t q = refl
no_part (fin s m e) nan t q = refl
no_part (fin s m e) (inf t') t q = absurd q
no_part (fin s m e) (fin t' zero d) t q = refl
no_part (fin s m e) (fin t' (suc n) d) t q =
    let p = mul-pos (num_pos n d) (pow_pos 149) in
    let z = zero-mul (denominator d) in
    absurd (let w = q.1 in omega arith)

pub by_zero : (x y : Float) → Binary32 y → to_bits binary32 y % 2 ^ 31 ≡ 0 → nan ≡ rem_f x y
unfolding OfBits
by_zero x y p h =
    let b = to_bits binary32 y in
    no_part x y (leb (2 ^ 31) b)
    (subst (λ (f : ℕ). Is y (leb (2 ^ 31) b) f (2 ^ 149)) (fraction b h)
    (subst (λ (i : ℕ). Stands (leb (2 ^ 31) b) i (b % 2 ^ 23) y) (exponent b h) (has y p)))
  where
    exponent : (b : ℕ) → b % 2 ^ 31 ≡ 0 → b % 2 ^ 31 / 2 ^ 23 ≡ 0
    exponent b h = omega arith

    fraction : (b : ℕ) → b % 2 ^ 31 ≡ 0 → b % 2 ^ 23 ≡ 0
    fraction b h = omega arith

-- ---- a finite dividend by an infinity

keeps : (x : Float) (s t : Bool) (a : ℕ) → Is x s a (2 ^ 149) → x ≡ rem_f x (inf t)
unfolding rem
keeps nan s t a p = refl
keeps (inf s') s t a p = absurd p
keeps (fin s' m e) s t a p = refl

pub by_infinity : (x y : Float) → Binary32 x → Binary32 y → to_bits binary32 x % 2 ^ 31 < infinity → infinity ≤ to_bits binary32 y % 2 ^ 31 → is_nan y ≡ false → x ≡ rem_f x y
by_infinity x y p q h k n = go (eqb (to_bits binary32 y % 2 ^ 23) 0) (no_finite y q k)
  where
    go : (t : Bool) → y ≡ cond t (inf (leb (2 ^ 31) (to_bits binary32 y))) nan → x ≡ rem_f x y
    go true e =
        let a = to_bits binary32 x in
        subst (λ (z : Float). x ≡ rem_f x z) (sym e) (keeps x (leb (2 ^ 31) a) (leb (2 ^ 31) (to_bits binary32 y)) (units a) (stands a x h (has x p)))
    go false e = absurd (nan_is (subst (λ (z : Float). is_nan z ≡ false) e n))
