-- Each binary32 operation of lib.Ieee, which the language's own operators are, is exactly what specs/Operations.antt says: one
-- theorem for each. Assumes nothing.
use mathlib.Core.Path.{◌≡◌, refl, sym, ap, ◌∙◌, subst}
use mathlib.Core.Bool.{Bool, true, false, not, ◌||◌, beq, not-not, cond}
use Prim.Native.Nat.{ℕ, zero, suc, ◌-◌, ◌*◌, ◌/◌, ◌%◌, ◌^◌, ◌≤◌, ◌<◌, min}
use native.Mathlib.Nat.{zero-lt-suc, mul-pos, mod-eq-sub-div-mul}
use native.Mathlib.Omega.{arith}
use borrow.Author.Tests.{ltb-true, ltb-false}
use lib.Dec.{T, ltb, eqb, eqb-suc-zero, lit<}
use lib.IntN.{ℤ, pos, negsuc, neg_ℤ}
use lib.Ieee.{Float, nan, inf, fin, binary32, up, down, round, neg, add, sub, mul, div, rem, lt, le, eq, ne, of_int, to_signed, of_bits, to_bits, fits}
use lib.Ieee.Fits.{up_pos, down_pos, nan-fits, inf-fits, add-fits, mul-fits, div-fits, rem-fits, of_int-fits}
use lib.Ieee.Bits.{of_bits-fits}
use Rattle.ink_number.specs.Int.{unlike, with_sign}
use Rattle.binary32.specs.Binary32.{numerator, denominator, Is, Binary32, Exactly, Only}
use Rattle.binary32.specs.Nearest.{Rounded}
use Rattle.binary32.specs.Operations.{Sum, opposite, Difference, Product, Quotient, Remainder, at_most, Last, Integral, Floor, Ceiling, less, equal, less_or_equal, not_equal, smaller, greater, truthy, OfInt, saturated, truncated, OfBits, ToBits}
use Rattle.binary32.specs.Real.{floor_f, ceiling_f}
use Rattle.binary32.proofs.Binary32.{num_is, den_is, is_of, fits_of, binary32_of}
use Rattle.binary32.proofs.Rounds.{rounded}
use Rattle.binary32.proofs.Unique.{is_unique, unique}
use Rattle.binary32.proofs.Sums.{sum_meets}
use Rattle.binary32.proofs.Remainder.{remains}
use Rattle.binary32.proofs.Integral.{below, last_below, one_last, below_near, below_exact, opposite_fits, opposite_is, twice, from_above, from_below}
use Rattle.binary32.proofs.Orders.{below_is, level_is}
use Rattle.binary32.proofs.Tests.{self_differs, not_zero}
use Rattle.binary32.proofs.Fields.{reads, reads_only, written, written_only}

-- ---- three ways to be determined

named : {v w : Float} → v ≡ w → T (fits binary32 v) → Exactly (λ (r : Float). r ≡ w) v
named {v} e f = record { value = binary32_of v f; holds = e; only = λ r p h. h ∙ sym e }

nearest_to : (s : Bool) (num den : ℕ) (v : Float) → 0 < den → T (fits binary32 v) → Rounded s num den v → Exactly (Rounded s num den) v
nearest_to s num den v D f h = record {
  value = binary32_of v f;
  holds = h;
  only = λ r p k. unique s num den r v D p (binary32_of v f) k h;
}

exact : (s : Bool) (a c : ℕ) (v : Float) → 0 < c → T (fits binary32 v) → Is v s a c → Exactly (λ (r : Float). Is r s a c) v
exact s a c v C f h = record {
  value = binary32_of v f;
  holds = h;
  only = λ r p k. is_unique s a c r v C p (binary32_of v f) k h;
}

-- both clauses of a contract: the answer has the name v, and the meaning that v has
pub meant : {P : Float → Type 0} {v r : Float} → Exactly P v → r ≡ v → (r ≡ v) × Exactly P r
meant {P} h e = (e, subst (Exactly P) (sym e) h)

pub meant_number : {P : ℕ → Type 0} {v r : ℕ} → Only P v → r ≡ v → (r ≡ v) × Only P r
meant_number {P} h e = (e, subst (Only P) (sym e) h)

-- ---- denominators

den_pos : (e : ℤ) → 0 < denominator e
den_pos e = rw den_is (down_pos e)

dens_pos : (e d : ℤ) → 0 < denominator e * denominator d
dens_pos e d = mul-pos (den_pos e) (den_pos d)

num_pos : (n : ℕ) (d : ℤ) → 0 < numerator (suc n) d
num_pos n d = rw num_is (mul-pos (zero-lt-suc n) (up_pos d))

other : (n : ℕ) (x y : Float) → cond (eqb (suc n) 0) x y ≡ y
other n x y = ap (λ (b : Bool). cond b x y) (eqb-suc-zero n)

-- ---- sum and difference

pub add_meets : (x y : Float) → Exactly (Sum x y) (add binary32 x y)
unfolding add Sum
add_meets nan y = named refl (nan-fits binary32)
add_meets (inf s) nan = named refl (nan-fits binary32)
add_meets (inf false) (inf false) = named refl (inf-fits binary32 false)
add_meets (inf false) (inf true) = named refl (nan-fits binary32)
add_meets (inf true) (inf false) = named refl (nan-fits binary32)
add_meets (inf true) (inf true) = named refl (inf-fits binary32 true)
add_meets (inf s) (fin t n d) = named refl (inf-fits binary32 s)
add_meets (fin s m e) nan = named refl (nan-fits binary32)
add_meets (fin s m e) (inf t) = named refl (inf-fits binary32 t)
add_meets (fin s m e) (fin t n d) =
    nearest_to _ _ _ _ (dens_pos e d) (add-fits binary32 (fin s m e) (fin t n d))
    (rw (num_is m e, num_is n d, den_is e, den_is d)
    (sum_meets s (m * up e * down d) t (n * up d * down e) (down e * down d) (mul-pos (down_pos e) (down_pos d))))

pub neg_meets : (x : Float) → neg x ≡ opposite x
unfolding neg opposite
neg_meets nan = refl
neg_meets (inf s) = refl
neg_meets (fin s m e) = refl

pub sub_meets : (x y : Float) → Exactly (Difference x y) (sub binary32 x y)
unfolding sub Difference
sub_meets x y = subst (λ (z : Float). Exactly (Sum x (opposite y)) (add binary32 x z)) (sym (neg_meets y)) (add_meets x (opposite y))

-- ---- product, quotient and remainder

pub mul_meets : (x y : Float) → Exactly (Product x y) (mul binary32 x y)
unfolding mul Product
mul_meets nan y = named refl (nan-fits binary32)
mul_meets (inf s) nan = named refl (nan-fits binary32)
mul_meets (inf s) (inf t) = named refl (inf-fits binary32 (unlike s t))
mul_meets (inf s) (fin t zero d) = named refl (nan-fits binary32)
mul_meets (inf s) (fin t (suc n) d) = named (other n nan (inf (unlike s t))) (mul-fits binary32 (inf s) (fin t (suc n) d))
mul_meets (fin s m e) nan = named refl (nan-fits binary32)
mul_meets (fin s zero e) (inf t) = named refl (nan-fits binary32)
mul_meets (fin s (suc m) e) (inf t) = named (other m nan (inf (unlike s t))) (mul-fits binary32 (fin s (suc m) e) (inf t))
mul_meets (fin s m e) (fin t n d) =
    nearest_to _ _ _ _ (dens_pos e d) (mul-fits binary32 (fin s m e) (fin t n d))
    (rw (num_is m e, num_is n d, den_is e, den_is d)
    (rounded (unlike s t) (m * up e * (n * up d)) (down e * down d) (mul-pos (down_pos e) (down_pos d))))

pub div_meets : (x y : Float) → Exactly (Quotient x y) (div binary32 x y)
unfolding div Quotient
div_meets nan y = named refl (nan-fits binary32)
div_meets (inf s) nan = named refl (nan-fits binary32)
div_meets (inf s) (inf t) = named refl (nan-fits binary32)
div_meets (inf s) (fin t n d) = named refl (inf-fits binary32 (unlike s t))
div_meets (fin s m e) nan = named refl (nan-fits binary32)
div_meets (fin s m e) (inf t) = named refl (div-fits binary32 (fin s m e) (inf t))
div_meets (fin s m e) (fin t (suc n) d) =
    let x = cond (eqb m 0) nan (inf (unlike s t)) in
    let r = round binary32 (unlike s t) (m * up e * down d) (suc n * up d * down e) in
    nearest_to _ _ _ _ (mul-pos (num_pos n d) (den_pos e)) (div-fits binary32 (fin s m e) (fin t (suc n) d))
    (rw (other n x r, num_is m e, num_is (suc n) d, den_is e, den_is d)
    (rounded (unlike s t) (m * up e * down d) (suc n * up d * down e) (mul-pos (mul-pos (zero-lt-suc n) (up_pos d)) (down_pos e))))
div_meets (fin s zero e) (fin t zero d) = named refl (nan-fits binary32)
div_meets (fin s (suc m) e) (fin t zero d) = named (other m nan (inf (unlike s t))) (div-fits binary32 (fin s (suc m) e) (fin t zero d))

pub rem_meets : (x y : Float) → Binary32 x → Binary32 y → Exactly (Remainder x y) (rem binary32 x y)
unfolding rem Remainder
rem_meets nan y f g = named refl (nan-fits binary32)
rem_meets (inf s) y f g = named refl (nan-fits binary32)
rem_meets (fin s m e) nan f g = named refl (nan-fits binary32)
rem_meets (fin s m e) (inf t) f g = named refl (fits_of (fin s m e) f)
rem_meets (fin s m e) (fin t zero d) f g = named refl (nan-fits binary32)
rem_meets (fin s m e) (fin t (suc n) d) f g =
    let a = m * up e * down d in
    let b = suc n * up d * down e in
    let c = down e * down d in
    let r = round binary32 s (a % b) c in
    exact _ _ _ _ (dens_pos e d) (rem-fits binary32 (fin s m e) (fin t (suc n) d) (fits_of (fin s m e) f))
    (rw (other n nan r, num_is m e, num_is (suc n) d, den_is e, den_is d)
    (subst (λ (z : ℕ). Is r s z c) (mod-eq-sub-div-mul a b) (is_of r s (a % b) c (remains s m e t (suc n) d (zero-lt-suc n) f g))))

-- ---- floor and ceiling

-- the Float of the last integer at or below
whole_below : (s : Bool) (m : ℕ) (e : ℤ) (v : Float) → T (fits binary32 v) → Is v s (below s m e) 1 → Exactly (Floor (fin s m e)) v
unfolding Integral
whole_below s m e v f i = record {
  value = binary32_of v f;
  holds = (below s m e, i, last);
  only = λ r p h. is_unique s (below s m e) 1 r v (lit< tt) p (binary32_of v f)
      (subst (λ (n : ℕ). Is r s n 1) (one_last s m e h.0 (below s m e) h.2 last) h.1) i;
}
  where
    last : Last at_most s m e (with_sign s (below s m e))
    last = last_below m e (den_pos e) s

pub floor_meets : (x : Float) → Binary32 x → Exactly (Floor x) (floor_f x)
unfolding floor_f Integral
floor_meets nan f = named refl (nan-fits binary32)
floor_meets (inf s) f = named refl (inf-fits binary32 s)
floor_meets (fin false m e) f =
    let v = of_int binary32 (pos (below false m e)) in
    whole_below false m e v (of_int-fits binary32 (pos (below false m e))) (below_exact false m e f)
floor_meets (fin true m e) f =
    let v = of_int binary32 (pos (below true m e)) in
    whole_below true m e (opposite v)
    (fits_of (opposite v) (opposite_fits v (binary32_of v (of_int-fits binary32 (pos (below true m e))))))
    (opposite_is v false (below true m e) 1 (below_exact true m e f))

pub ceiling_meets : (x : Float) → Binary32 x → Exactly (Ceiling x) (ceiling_f x)
ceiling_meets x f =
    let v = floor_f (opposite x) in
    let h = floor_meets (opposite x) (opposite_fits x f) in
    record {
      value = opposite_fits v h.value;
      holds = from_below x v h.holds;
      only = λ r p k. sym (twice r) ∙ ap opposite (h.only (opposite r) (opposite_fits r p) (from_above x r k));
    }

-- a value whose exponent is not negative has no fraction, and is its own
pub floor_whole : (s : Bool) (m k : ℕ) → Binary32 (fin s m (pos k)) → fin s m (pos k) ≡ floor_f (fin s m (pos k))
unfolding Integral
floor_whole s m k f =
    (floor_meets (fin s m (pos k)) f).only (fin s m (pos k)) f
    (below s m (pos k), (refl, ap (λ (z : ℕ). z * 1) (sym (below_near s m (pos k)))), last_below m (pos k) (den_pos (pos k)) s)

-- ---- comparisons

pub lt_meets : (x y : Float) → lt x y ≡ less x y
unfolding lt less
lt_meets nan y = refl
lt_meets (inf s) nan = refl
lt_meets (inf s) (inf t) = refl
lt_meets (inf s) (fin t n d) = refl
lt_meets (fin s m e) nan = refl
lt_meets (fin s m e) (inf t) = refl
lt_meets (fin s m e) (fin t n d) = rw (num_is m e, num_is n d, den_is e, den_is d) (below_is s (m * up e * down d) t (n * up d * down e))

pub eq_meets : (x y : Float) → eq x y ≡ equal x y
unfolding eq equal
eq_meets nan y = refl
eq_meets (inf s) nan = refl
eq_meets (inf s) (inf t) = sym (not-not (beq s t))
eq_meets (inf s) (fin t n d) = refl
eq_meets (fin s m e) nan = refl
eq_meets (fin s m e) (inf t) = refl
eq_meets (fin s m e) (fin t n d) = rw (num_is m e, num_is n d, den_is e, den_is d) (level_is s (m * up e * down d) t (n * up d * down e))

pub le_meets : (x y : Float) → le x y ≡ less_or_equal x y
unfolding le less_or_equal
le_meets x y = ap (λ (b : Bool). b || eq x y) (lt_meets x y) ∙ ap (λ (b : Bool). less x y || b) (eq_meets x y)

pub ne_meets : (x y : Float) → ne x y ≡ not_equal x y
unfolding ne not_equal
ne_meets x y = ap not (eq_meets x y)

-- ---- the smaller and the greater by two tests, truth by one

pub min_meets : (x y : Float) → cond (ne x x) y (cond (lt y x) y x) ≡ smaller x y
unfolding smaller
min_meets x y = rw (self_differs x, lt_meets y x)

pub max_meets : (x y : Float) → cond (ne x x) y (cond (lt x y) y x) ≡ greater x y
unfolding greater
max_meets x y = rw (self_differs x, lt_meets x y)

pub truthy_meets : (x : Float) → ne x (of_bits binary32 0) ≡ truthy x
truthy_meets x = not_zero x

-- ---- conversions

pub of_int_meets : (n : ℤ) → Exactly (OfInt n) (of_int binary32 n)
unfolding of_int OfInt
of_int_meets (pos n) = nearest_to _ _ _ _ (lit< tt) (of_int-fits binary32 (pos n)) (rounded false n 1 (lit< tt))
of_int_meets (negsuc n) = nearest_to _ _ _ _ (lit< tt) (of_int-fits binary32 (negsuc n)) (rounded true (suc n) 1 (lit< tt))

top_cut : (v : ℕ) → pos (min v (2 ^ 31 - 1)) ≡ saturated (pos v)
top_cut v = go (ltb (2 ^ 31 - 1) v) refl
  where
    cut : (v : ℕ) → 2 ^ 31 - 1 < v → min v (2 ^ 31 - 1) ≡ 2 ^ 31 - 1
    cut v h = omega arith

    keep : (v : ℕ) → v ≤ 2 ^ 31 - 1 → min v (2 ^ 31 - 1) ≡ v
    keep v h = omega arith

    go : (b : Bool) → ltb (2 ^ 31 - 1) v ≡ b → pos (min v (2 ^ 31 - 1)) ≡ cond b (pos (2 ^ 31 - 1)) (pos v)
    go true e = ap pos (cut v (ltb-true (2 ^ 31 - 1) v e))
    go false e = ap pos (keep v (ltb-false (2 ^ 31 - 1) v e))

low_cut : (v : ℕ) → neg_ℤ (pos (min v (2 ^ 31))) ≡ saturated (neg_ℤ (pos v))
low_cut zero = refl
low_cut (suc k) = go (ltb (2 ^ 31 - 1) k) refl
  where
    cut : (k : ℕ) → 2 ^ 31 - 1 < k → min (suc k) (2 ^ 31) ≡ 2 ^ 31
    cut k h = omega arith

    keep : (k : ℕ) → k ≤ 2 ^ 31 - 1 → min (suc k) (2 ^ 31) ≡ suc k
    keep k h = omega arith

    go : (b : Bool) → ltb (2 ^ 31 - 1) k ≡ b → neg_ℤ (pos (min (suc k) (2 ^ 31))) ≡ cond b (negsuc (2 ^ 31 - 1)) (negsuc k)
    go true e = ap (λ (n : ℕ). neg_ℤ (pos n)) (cut k (ltb-true (2 ^ 31 - 1) k e))
    go false e = ap (λ (n : ℕ). neg_ℤ (pos n)) (keep k (ltb-false (2 ^ 31 - 1) k e))

pub to_int_meets : (x : Float) → to_signed 31 x ≡ truncated x
unfolding to_signed truncated
to_int_meets nan = refl
to_int_meets (inf s) = refl
to_int_meets (fin false m e) = rw (num_is m e, den_is e) (top_cut (m * up e / down e))
to_int_meets (fin true m e) = rw (num_is m e, den_is e) (low_cut (m * up e / down e))

pub of_bits_meets : (b : ℕ) → Exactly (OfBits b) (of_bits binary32 b)
of_bits_meets b = record {
  value = binary32_of (of_bits binary32 b) (of_bits-fits binary32 b);
  holds = reads b;
  only = reads_only b;
}

pub to_bits_meets : (x : Float) → Binary32 x → Only (ToBits x) (to_bits binary32 x)
to_bits_meets x p = record { holds = written x p; only = written_only x p }
