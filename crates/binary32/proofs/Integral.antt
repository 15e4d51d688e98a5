-- The integers at or below a Float: the whole part of its magnitude or, below zero, the next whole number up, is the last of them, and
-- the Float of that number is exact. From above it is the same with both signs turned. Assumes nothing.
use mathlib.Core.Path.{◌≡◌, refl, sym, ap, ◌∙◌, subst}
use mathlib.Core.Bool.{Bool, true, false, not, false≢true, not-not}
use Prim.Native.Nat.{ℕ, zero, suc, ◌+◌, ◌-◌, ◌*◌, ◌/◌, ◌^◌, ◌≤◌, ◌<◌}
use native.Mathlib.Nat.{le_refl, le_trans, le_of_lt, le_of_eq, le_antisymm, lt_of_le_of_lt, zero-lt-suc, mul-pos, mul-one, mul_assoc, mul-le-mul_left, suc-mul, div-one, div-le_self, div-lt_iff_lt-mul, le-div_iff_mul-le}
use native.Mathlib.Omega.{arith}
use borrow.Author.Tests.{leb-true, leb-false, le-leb, lt-leb}
use lib.Dec.{leb, leb-zero, leb-suc-suc, lit<}
use lib.IntN.{ℤ, pos, negsuc, neg_ℤ, nat_abs, neg_ℤ-neg_ℤ, ◌*ℤ◌, pos-*ℤ-pos, negsuc-*ℤ-pos, zero-*ℤ}
use lib.Signed.{le_z}
use lib.Pow.{pow-add, pow_pos}
use lib.Ieee.{Float, nan, inf, fin, binary32, round, of_int}
use lib.Ieee.Exact.{HasValue, round_exact}
use lib.Ieee.Back.{round_whole}
use Rattle.ink_number.specs.Int.{with_sign}
use Rattle.binary32.specs.Binary32.{numerator, denominator, Is, Binary32}
use Rattle.binary32.specs.Operations.{opposite, at_most, at_least, Last, Integral, Floor, Ceiling}
use Rattle.binary32.specs.Real.{upward}
use Rattle.binary32.proofs.Binary32.{is_of}
use Rattle.binary32.proofs.Values.{held, below_top}

-- ---- a quotient rounded down and up

module _ (a b : ℕ) (B : 0 < b) where
  down_le : a / b * b ≤ a
  down_le = (le-div_iff_mul-le B).0 (le_refl (a / b))

  down_greatest : (k : ℕ) → k * b ≤ a → k ≤ a / b
  down_greatest k h = (le-div_iff_mul-le B).1 h

  pub up_ge : a ≤ upward a b * b
  up_ge =
      let l : a + (b - 1) < suc (upward a b) * b = (div-lt_iff_lt-mul B).0 (le_refl (suc (upward a b))) in
      let e : suc (upward a b) * b ≡ upward a b * b + b = suc-mul (upward a b) b in
      omega arith

  pub up_least : (k : ℕ) → a ≤ k * b → upward a b ≤ k
  up_least k h = go (leb (upward a b) k) refl
    where
      go : (t : Bool) → leb (upward a b) k ≡ t → upward a b ≤ k
      go true e = leb-true (upward a b) k e
      go false e =
          let l : suc k * b ≤ a + (b - 1) = (le-div_iff_mul-le B).0 (leb-false (upward a b) k e) in
          let f : suc k * b ≡ k * b + b = suc-mul k b in
          absurd (omega arith)

-- ---- the order of integers

antisym : (y z : ℤ) → le_z y z ≡ true → le_z z y ≡ true → y ≡ z
antisym (pos a) (pos b) h k = ap pos (le_antisymm (leb-true a b h) (leb-true b a k))
antisym (pos a) (negsuc b) h k = absurd (false≢true h)
antisym (negsuc a) (pos b) h k = absurd (false≢true k)
antisym (negsuc a) (negsuc b) h k = ap negsuc (le_antisymm (leb-true a b k) (leb-true b a h))

-- both signs turned
turned : (y z : ℤ) → le_z (neg_ℤ y) (neg_ℤ z) ≡ le_z z y
turned (pos zero) (pos zero) = refl
turned (pos zero) (pos (suc b)) = sym (lt-leb (suc b) 0 (zero-lt-suc b))
turned (pos (suc a)) (pos zero) = sym (leb-zero (suc a))
turned (pos (suc a)) (pos (suc b)) = sym (leb-suc-suc b a)
turned (pos zero) (negsuc b) = leb-zero (suc b)
turned (pos (suc a)) (negsuc b) = refl
turned (negsuc a) (pos zero) = lt-leb (suc a) 0 (zero-lt-suc a)
turned (negsuc a) (pos (suc b)) = refl
turned (negsuc a) (negsuc b) = leb-suc-suc a b

turned_times : (z : ℤ) (d : ℕ) → neg_ℤ z *ℤ pos d ≡ neg_ℤ (z *ℤ pos d)
turned_times (pos zero) d = zero-*ℤ (pos d) ∙ ap neg_ℤ (sym (zero-*ℤ (pos d)))
turned_times (pos (suc a)) d = negsuc-*ℤ-pos a d ∙ ap neg_ℤ (sym (pos-*ℤ-pos (suc a) d))
turned_times (negsuc a) d = pos-*ℤ-pos (suc a) d ∙ sym (neg_ℤ-neg_ℤ (pos (suc a * d))) ∙ ap neg_ℤ (sym (negsuc-*ℤ-pos a d))

turned_sign : (s : Bool) (n : ℕ) → with_sign (not s) n ≡ neg_ℤ (with_sign s n)
turned_sign false n = refl
turned_sign true n = sym (neg_ℤ-neg_ℤ (pos n))

same_size : (s : Bool) (n k : ℕ) → with_sign s n ≡ with_sign s k → n ≡ k
same_size s n k e = sym (size s n) ∙ ap nat_abs e ∙ size s k
  where
    size : (s : Bool) (n : ℕ) → nat_abs (with_sign s n) ≡ n
    size false n = refl
    size true zero = refl
    size true (suc n) = refl

-- ---- the last integer at or below

-- its magnitude
abbrev pub below : Bool → ℕ → ℤ → ℕ
below false m e = numerator m e / denominator e
below true m e = upward (numerator m e) (denominator e)

module _ (m : ℕ) (e : ℤ) (D : 0 < denominator e) where
  abbrev A : ℕ
  A = numerator m e

  abbrev B : ℕ
  B = denominator e

  pub last_below : (s : Bool) → Last at_most s m e (with_sign s (below s m e))
  last_below false = record {
    lies = ap (λ (z : ℤ). le_z z (pos A)) (pos-*ℤ-pos (A / B) B) ∙ le-leb (A / B * B) A (down_le A B D);
    last = most;
  }
    where
      most : (w : ℤ) → le_z (w *ℤ pos B) (pos A) ≡ true → le_z w (pos (A / B)) ≡ true
      most (pos k) h =
          le-leb k (A / B) (down_greatest A B D k (leb-true (k * B) A (ap (λ (z : ℤ). le_z z (pos A)) (sym (pos-*ℤ-pos k B)) ∙ h)))
      most (negsuc k) h = refl
  last_below true = record {
    lies = across (pos (upward A B)) ∙ ap (le_z (pos A)) (pos-*ℤ-pos (upward A B) B) ∙ le-leb A (upward A B * B) (up_ge A B D);
    last = most;
  }
    where
      across : (w : ℤ) → le_z (neg_ℤ w *ℤ pos B) (neg_ℤ (pos A)) ≡ le_z (pos A) (w *ℤ pos B)
      across w = ap (λ (z : ℤ). le_z z (neg_ℤ (pos A))) (turned_times w B) ∙ turned (w *ℤ pos B) (pos A)

      least : (w : ℤ) → le_z (pos A) (w *ℤ pos B) ≡ true → le_z (pos (upward A B)) w ≡ true
      least (pos k) h =
          le-leb (upward A B) k (up_least A B D k (leb-true A (k * B) (ap (le_z (pos A)) (sym (pos-*ℤ-pos k B)) ∙ h)))
      least (negsuc k) h =
          absurd (under A (suc k * B) (mul-pos (zero-lt-suc k) D) (ap (le_z (pos A)) (sym (negsuc-*ℤ-pos k B)) ∙ h))
        where
          under : (a b : ℕ) → 0 < b → le_z (pos a) (neg_ℤ (pos b)) ≡ true → ⊥
          under a zero l q = absurd (omega arith)
          under a (suc b) l q = false≢true q

      most : (w : ℤ) → le_z (w *ℤ pos B) (neg_ℤ (pos A)) ≡ true → le_z w (neg_ℤ (pos (upward A B))) ≡ true
      most w h =
          let back = sym (neg_ℤ-neg_ℤ w) in
          ap (λ (z : ℤ). le_z z (neg_ℤ (pos (upward A B)))) back ∙ turned (neg_ℤ w) (pos (upward A B))
          ∙ least (neg_ℤ w) (sym (across (neg_ℤ w)) ∙ ap (λ (z : ℤ). le_z (z *ℤ pos B) (neg_ℤ (pos A))) (sym back) ∙ h)

-- there is one
pub one_last : (s : Bool) (m : ℕ) (e : ℤ) (n k : ℕ) → Last at_most s m e (with_sign s n) → Last at_most s m e (with_sign s k) → n ≡ k
one_last s m e n k g h =
    same_size s n k (antisym (with_sign s n) (with_sign s k) (h.last (with_sign s n) g.lies) (g.last (with_sign s k) h.lies))

-- ---- its Float is exact

-- a whole number that is the magnitude of a binary32 value, or at most its significand
abbrev pub Near : ℕ → ℤ → ℕ → Type 0
Near m (pos k) n = n ≡ m * 2 ^ k
Near m (negsuc k) n = n ≤ m

near : (s : Bool) (m : ℕ) (e : ℤ) → Binary32 (fin s m e) → (n : ℕ) → Near m e n → HasValue (round binary32 false n 1) false n 1
near s m (pos k) f n h =
    let H = held s m (pos k) f in
    let u = sym (pow-add 2 k 149) ∙ sym (mul-one (2 ^ (k + 149))) in
    round_exact binary32 false n 1 m (k + 149) (lit< tt) H.0 (below_top m (k + 149) 1 (2 ^ k) u (lit< tt) H.2)
    (ap (λ (z : ℕ). z * 2 ^ 149) h ∙ mul_assoc m (2 ^ k) (2 ^ 149) ∙ ap (λ (z : ℕ). m * z) u ∙ sym (mul_assoc m (2 ^ (k + 149)) 1))
near s m (negsuc k) f n h = round_whole binary32 false n (le_of_lt (lt_of_le_of_lt h (held s m (negsuc k) f).0))

pub below_near : (s : Bool) (m : ℕ) (e : ℤ) → Near m e (below s m e)
below_near false m (pos k) = div-one (m * 2 ^ k)
below_near false m (negsuc k) = div-le_self m (2 ^ suc k)
below_near true m (pos k) = div-one (m * 2 ^ k + 0) ∙ none (m * 2 ^ k)
  where
    none : (a : ℕ) → a + 0 ≡ a
    none a = omega arith
below_near true m (negsuc k) =
    up_least m (2 ^ suc k) (pow_pos (suc k)) m (le_trans (le_of_eq (sym (mul-one m))) (mul-le-mul_left m (pow_pos (suc k))))

pub below_exact : (s : Bool) (m : ℕ) (e : ℤ) → Binary32 (fin s m e) → Is (of_int binary32 (pos (below s m e))) false (below s m e) 1
unfolding of_int
below_exact s m e f = is_of (round binary32 false (below s m e) 1) false (below s m e) 1 (near s m e f (below s m e) (below_near s m e))

-- ---- the other sign

pub twice : (x : Float) → opposite (opposite x) ≡ x
unfolding opposite
twice nan = refl
twice (inf true) = refl
twice (inf false) = refl
twice (fin true m e) = refl
twice (fin false m e) = refl

pub opposite_fits : (x : Float) → Binary32 x → Binary32 (opposite x)
unfolding opposite Binary32
opposite_fits nan f = tt
opposite_fits (inf s) f = tt
opposite_fits (fin s zero e) f = f
opposite_fits (fin s (suc m) e) f = f

pub opposite_is : (x : Float) (s : Bool) (a c : ℕ) → Is x s a c → Is (opposite x) (not s) a c
unfolding opposite
opposite_is nan s a c v = v
opposite_is (inf t) s a c v = v
opposite_is (fin t m e) s a c v = (ap not v.0, v.1)

-- ---- from above it is from below with both signs turned

module _ (s : Bool) (m : ℕ) (e : ℤ) where
  abbrev X : ℤ
  X = with_sign s (numerator m e)

  across : (w : ℤ) → at_most (neg_ℤ w *ℤ pos (denominator e)) (with_sign (not s) (numerator m e)) ≡ at_least (w *ℤ pos (denominator e)) X
  across w =
      ap (λ (z : ℤ). le_z z (with_sign (not s) (numerator m e))) (turned_times w (denominator e))
      ∙ ap (le_z (neg_ℤ (w *ℤ pos (denominator e)))) (turned_sign s (numerator m e))
      ∙ turned (w *ℤ pos (denominator e)) X

  -- an integer is the opposite of its opposite
  as_turned : (P : ℤ → Type 0) → ((w : ℤ) → P (neg_ℤ w)) → (w : ℤ) → P w
  as_turned P f w = subst P (neg_ℤ-neg_ℤ w) (f (neg_ℤ w))

  pub last_turned : (z : ℤ) → Last at_least s m e z → Last at_most (not s) m e (neg_ℤ z)
  last_turned z l = record {
    lies = across z ∙ l.lies;
    last = as_turned (λ w. at_most (w *ℤ pos (denominator e)) (with_sign (not s) (numerator m e)) ≡ true → le_z w (neg_ℤ z) ≡ true)
        (λ w h. turned w z ∙ l.last w (sym (across w) ∙ h));
  }

  pub last_back : (z : ℤ) → Last at_most (not s) m e (neg_ℤ z) → Last at_least s m e z
  last_back z l = record {
    lies = sym (across z) ∙ l.lies;
    last = λ w h. sym (turned w z) ∙ l.last (neg_ℤ w) (across w ∙ h);
  }

pub from_above : (x r : Float) → Ceiling x r → Floor (opposite x) (opposite r)
unfolding Integral opposite
from_above nan r h = ap opposite h
from_above (inf s) r h = ap opposite h
from_above (fin s m e) r (n, i, l) =
    (n, opposite_is r s n 1 i, subst (Last at_most (not s) m e) (sym (turned_sign s n)) (last_turned s m e (with_sign s n) l))

pub from_below : (x r : Float) → Floor (opposite x) r → Ceiling x (opposite r)
unfolding Integral opposite
from_below nan r h = ap opposite h
from_below (inf s) r h = ap opposite h ∙ twice (inf s)
from_below (fin s m e) r (n, i, l) = (
  n,
  subst (λ (t : Bool). Is (opposite r) t n 1) (not-not s) (opposite_is r (not s) n 1 i),
  last_back s m e (with_sign s n) (subst (Last at_most (not s) m e) (turned_sign s n) l),
)
