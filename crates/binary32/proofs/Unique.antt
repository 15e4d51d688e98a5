-- `Rounded` determines the Float: two that are num / den rounded are the same. Assumes nothing.
use mathlib.Core.Path.{◌≡◌, refl, sym, ap, ◌∙◌, subst}
use mathlib.Core.Bool.{Bool, true, false, cond}
use mathlib.Core.Logic.{⊎_elim}
use Prim.Native.Nat.{ℕ, suc, ◌+◌, ◌-◌, ◌*◌, ◌/◌, ◌%◌, ◌^◌, ◌≤◌, ◌<◌}
use native.Mathlib.Nat.{le_trans, le_of_lt, le_of_eq, le_antisymm, lt_of_lt_of_le, not-le_of_lt, eq-or-lt_of_le, mul_assoc, suc-mul, mul-le-mul_right, mul-le-mul_left, mul-lt-mul_of_pos_right, lt_of_mul-lt-mul_right, eq_of_mul-eq-mul_right, mul_right_comm}
use native.Mathlib.Omega.{arith}
use borrow.Author.Tests.{ltb-true, ltb-false, leb-true, leb-false}
use lib.Dec.{ltb, leb}
use lib.IntN.{ℤ}
use lib.Pow.{pow-add, pow_pos, pow_mono, shl_lt}
use lib.Ieee.{Float, nan, inf, fin, binary32, up, down, size, top, hid, to_bits, of_bits}
use lib.Ieee.Fits.{down_pos}
use lib.Ieee.Bits.{of_bits-to_bits}
use lib.Ieee.Nearest.{div_same}
use Rattle.binary32.specs.Binary32.{Is, Binary32}
use Rattle.binary32.specs.Nearest.{Finite, Even, Closest, Rounded, gap, distance}
use Rattle.binary32.proofs.Binary32.{value_of, fits_of}
use Rattle.binary32.proofs.Powers.{factor, rise}
use Rattle.binary32.proofs.Values.{finite_lt}
use Rattle.binary32.proofs.Rounds.{Tall, exp_low}

-- ---- numbers

middle : (n a b : ℕ) → a < b → gap n a ≡ gap n b → n * 2 ≡ a + b
middle n a b h e = omega arith

inner : (n a x b : ℕ) → a < x → x < b → n * 2 ≡ a + b → gap n x < gap n b
inner n a x b h k e = omega arith

cancel : (a b j i : ℕ) → i ≤ j → a * 2 ^ j ≡ b * 2 ^ i → a * 2 ^ (j - i) ≡ b
cancel a b j i h e =
    eq_of_mul-eq-mul_right (2 ^ i) (pow_pos i) (a * 2 ^ (j - i)) b (mul_assoc a (2 ^ (j - i)) (2 ^ i) ∙ ap (λ (z : ℕ). a * z) (sym (factor j i h)) ∙ e)

-- ---- the next magnitude after an even one is not even

twice_le : (a d : ℕ) → 0 < d → a * 2 ≤ a * 2 ^ d
twice_le a d h = mul-le-mul_left a (pow_mono {i = 1} h)

even_power : (a d : ℕ) → 0 < d → a * 2 ^ d % 2 ≡ 0
even_power a d h =
    let e : a * 2 ^ d ≡ a * 2 ^ (d - 1) * 2 = ap (λ (z : ℕ). a * z) (factor d 1 h) ∙ sym (mul_assoc a (2 ^ (d - 1)) (2 ^ 1)) in
    ap (λ (z : ℕ). z % 2) e ∙ double (a * 2 ^ (d - 1))
  where
    double : (b : ℕ) → b * 2 % 2 ≡ 0
    double b = omega arith

too_tall : (m a d : ℕ) → 2 ^ 23 ≤ m → a < 2 ^ 24 → suc m * 2 ≤ a → ⊥
too_tall m a d h k l = omega arith

odd_next : (m b : ℕ) → m % 2 ≡ 0 → suc m ≡ b → b % 2 ≡ 0 → ⊥
odd_next m b p e q = omega arith

apart : (j i : ℕ) → i < j → 0 < j - i
apart j i h = omega arith

clash : (m j a i : ℕ) → m % 2 ≡ 0 → a % 2 ≡ 0 → Tall j m → a < 2 ^ 24 → suc m * 2 ^ j ≡ a * 2 ^ i → ⊥
clash m j a i p q t s e = go (ltb i j) (ltb j i) refl refl
  where
    go : (x y : Bool) → ltb i j ≡ x → ltb j i ≡ y → ⊥
    go true y f g =
        let h = ltb-true i j f in
        let k : suc m * 2 ^ (j - i) ≡ a = cancel (suc m) a j i (le_of_lt h) e in
        ⊎_elim (λ (z : j ≡ 0). none i j h z) (λ (l : 2 ^ 23 ≤ m). too_tall m a (j - i) l s (le_trans (twice_le (suc m) (j - i) (apart j i h)) (le_of_eq k))) t
      where
        none : (i j : ℕ) → i < j → j ≡ 0 → ⊥
        none i j h z = omega arith
    go false true f g =
        let h = ltb-true j i g in
        odd_next m (a * 2 ^ (i - j)) p (sym (cancel a (suc m) i j (le_of_lt h) (sym e))) (even_power a (i - j) (apart i j h))
    go false false f g =
        let h = ltb-false i j f in
        let k = ltb-false j i g in
        let w : i ≡ j = le_antisymm k h in
        odd_next m a p (eq_of_mul-eq-mul_right (2 ^ j) (pow_pos j) (suc m) a (e ∙ ap (λ (z : ℕ). a * 2 ^ z) w)) q

-- ---- no finite magnitude lies between m * 2 ^ j and the next

between : (m j w : ℕ) → Tall j m → Finite w → m * 2 ^ j < w → suc m * 2 ^ j ≤ w
between m j w t f h = go (leb j f.exponent) refl
  where
    go : (b : Bool) → leb j f.exponent ≡ b → suc m * 2 ^ j ≤ w
    go true e =
        let i = f.exponent in
        let n = f.significand in
        let p : w ≡ n * 2 ^ (i - j) * 2 ^ j =
        f.is ∙ ap (λ (z : ℕ). n * z) (factor i j (leb-true j i e)) ∙ sym (mul_assoc n (2 ^ (i - j)) (2 ^ j)) in
        le_trans (mul-le-mul_right (2 ^ j) (lt_of_mul-lt-mul_right (2 ^ j) (subst (λ (z : ℕ). m * 2 ^ j < z) p h))) (le_of_eq (sym p))
    go false e =
        let i = f.exponent in
        let l : i < j = leb-false j i e in
        ⊎_elim (λ (z : j ≡ 0). absurd (none i j l z))
        (λ (g : 2 ^ 23 ≤ m).
        let small : w < 2 ^ (23 + j) = lt_of_lt_of_le (subst (λ (z : ℕ). z < 2 ^ (24 + i)) (sym f.is) (shl_lt 24 i f.short)) (pow_mono (rise i j l)) in
        let big : 2 ^ (23 + j) ≤ m * 2 ^ j = le_trans (le_of_eq (pow-add 2 23 j)) (mul-le-mul_right (2 ^ j) g) in
        absurd (not-le_of_lt (lt_of_lt_of_le small big) (le_of_lt h)))
        t
      where
        none : (i j : ℕ) → i < j → j ≡ 0 → ⊥
        none i j h z = omega arith

room : (m : ℕ) → m < 2 ^ 24 → m % 2 ≡ 0 → suc m < 2 ^ 24
room m h p = omega arith

grows : (m j : ℕ) → m * 2 ^ j < suc m * 2 ^ j
grows m j = lt_of_lt_of_le (more (m * 2 ^ j) (2 ^ j) (pow_pos j)) (le_of_eq (sym (suc-mul m (2 ^ j))))
  where
    more : (a b : ℕ) → 0 < b → a < a + b
    more a b h = omega arith

-- ---- two magnitudes that are both nearest, and both even, are not apart

no_two : (num den v w : ℕ) → 0 < den → Closest num den v → Closest num den w → Even v → Even w → v < w → ⊥
no_two num den v w D c d E F h =
    let m = E.significand in
    let j = E.exponent in
    let x = suc m * 2 ^ j in
    let low : j ≤ 253 = exp_low j m E.least (subst (λ (z : ℕ). z < 2 ^ 277) E.is (finite_lt v c.finite)) in
    let fx : Finite x = record { significand = suc m; exponent = j; short = room m E.short E.even; low = low; is = refl } in
    let le : x ≤ w = between m j w E.least d.finite (subst (λ (z : ℕ). z < w) E.is h) in
    let same : distance num den v ≡ distance num den w = le_antisymm (c.nearest w d.finite) (d.nearest v c.finite) in
    let mid = middle (num * 2 ^ 149) (v * den) (w * den) (mul-lt-mul_of_pos_right h D) same in
    let gx : v < x = subst (λ (z : ℕ). z < x) (sym E.is) (grows m j) in
    ⊎_elim (λ (e : x ≡ w). clash m j F.significand F.exponent E.even F.even E.least F.short (e ∙ F.is))
    (λ (l : x < w).
    not-le_of_lt (inner (num * 2 ^ 149) (v * den) (x * den) (w * den) (mul-lt-mul_of_pos_right gx D) (mul-lt-mul_of_pos_right l D) mid)
    (d.nearest x fx))
    (eq-or-lt_of_le le)

pub one_closest : (num den v w : ℕ) → 0 < den → Closest num den v → Closest num den w → v ≡ w
one_closest num den v w D c d =
    let same : distance num den v ≡ distance num den w = le_antisymm (c.nearest w d.finite) (d.nearest v c.finite) in
    ⊎_elim (λ (e : w ≡ v). sym e)
    (λ (E : Even v).
    ⊎_elim (λ (e : v ≡ w). e) (λ (F : Even w). go E F (ltb v w) (ltb w v) refl refl) (d.tie v c.finite same))
    (c.tie w d.finite (sym same))
  where
    go : Even v → Even w → (a b : Bool) → ltb v w ≡ a → ltb w v ≡ b → v ≡ w
    go E F true b e f = absurd (no_two num den v w D c d E F (ltb-true v w e))
    go E F false true e f = absurd (no_two num den w v D d c F E (ltb-true w v f))
    go E F false false e f = le_antisymm (ltb-false w v f) (ltb-false v w e)

-- ---- a Float is told by its sign and its magnitude, since its bit pattern is

bits_of : Bool → ℕ → ℕ
bits_of s v = cond s (top binary32) 0 + (size v - 24) * hid binary32 + v / 2 ^ (size v - 24)

bits_is : (s : Bool) (m : ℕ) (e : ℤ) (a c : ℕ) → 0 < c → m * up e * c ≡ a * down e → to_bits binary32 (fin s m e) ≡ bits_of s (a * 2 ^ 149 / c)
unfolding to_bits bits_of
bits_is s m e a c C h =
    ap (bits_of s)
    (div_same (m * up e * 2 ^ 149) (down e) (a * 2 ^ 149) c (down_pos e) C
    (mul_right_comm (m * up e) (2 ^ 149) c ∙ ap (λ (z : ℕ). z * 2 ^ 149) h ∙ mul_right_comm a (down e) (2 ^ 149)))

by_bits : (x y : Float) → Binary32 x → Binary32 y → to_bits binary32 x ≡ to_bits binary32 y → x ≡ y
by_bits x y f g e = sym (of_bits-to_bits binary32 x (fits_of x f)) ∙ ap (of_bits binary32) e ∙ of_bits-to_bits binary32 y (fits_of y g)

pub is_unique : (s : Bool) (a c : ℕ) (x y : Float) → 0 < c → Binary32 x → Binary32 y → Is x s a c → Is y s a c → x ≡ y
is_unique s a c x y C f g p q = by_bits x y f g (bits x p ∙ sym (bits y q))
  where
    bits : (x : Float) → Is x s a c → to_bits binary32 x ≡ bits_of s (a * 2 ^ 149 / c)
    bits nan p = absurd p
    bits (inf t) p = absurd p
    bits (fin t m e) p =
        bits_is t m e a c C (value_of (fin t m e) s a c p).1 ∙ ap (λ (b : Bool). bits_of b (a * 2 ^ 149 / c)) p.0

pub unique : (s : Bool) (num den : ℕ) (x y : Float) → 0 < den → Binary32 x → Binary32 y → Rounded s num den x → Rounded s num den y → x ≡ y
unfolding Rounded
unique s num den nan y D f g p q = absurd p
unique s num den (inf t) nan D f g p q = absurd q
unique s num den (inf t) (inf u) D f g p q = ap inf (p.0 ∙ sym q.0)
unique s num den (inf t) (fin u n d) D f g p q = absurd (not-le_of_lt q.0 p.1)
unique s num den (fin t m e) nan D f g p q = absurd q
unique s num den (fin t m e) (inf u) D f g p q = absurd (not-le_of_lt p.0 q.1)
unique s num den (fin t m e) (fin u n d) D f g p q =
    let v : p.1.0 ≡ q.1.0 = one_closest num den p.1.0 q.1.0 D p.1.2 q.1.2 in
    is_unique s q.1.0 (2 ^ 149) (fin t m e) (fin u n d) (pow_pos 149) f g
    (subst (λ (a : ℕ). Is (fin t m e) s a (2 ^ 149)) v p.1.1) q.1.1
