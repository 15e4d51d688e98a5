-- The remainder of two binary32 numbers is one, so that lib.Ieee's `rem` rounds nothing. Both are whole numbers of units of
-- 2 ^ -149, and the remainder of m * 2 ^ a by n * 2 ^ b has no more digits than m or n. Assumes nothing.
use mathlib.Core.Path.{◌≡◌, refl, sym, ap, ◌∙◌}
use mathlib.Core.Bool.{Bool, true, false}
use Prim.Native.Nat.{ℕ, ◌+◌, ◌-◌, ◌*◌, ◌/◌, ◌%◌, ◌^◌, ◌≤◌, ◌<◌}
use native.Mathlib.Nat.{le_trans, le_of_lt, le_of_eq, lt_of_lt_of_le, lt_of_le_of_lt, mul_comm, mul_assoc, mul_right_comm, mul-pos, mul-lt-mul_of_pos_right, mod-le, mod-lt, div-add-mod', add-mul}
use borrow.Author.Tests.{leb-true, leb-false}
use lib.Dec.{leb}
use lib.IntN.{ℤ}
use lib.Pow.{pow_pos}
use lib.Arith.{digits_mod}
use lib.Ieee.{fin, binary32, up, down, round}
use lib.Ieee.Fits.{up_pos, down_pos}
use lib.Ieee.Exact.{HasValue, round_exact}
use Rattle.binary32.specs.Binary32.{Binary32}
use Rattle.binary32.proofs.Powers.{factor}
use Rattle.binary32.proofs.Values.{held, scale, below_top}

-- a remainder of multiples
mod_scale : (a b c : ℕ) → 0 < b → 0 < c → a * c % (b * c) ≡ a % b * c
mod_scale a b c B C =
    ap (λ (z : ℕ). z % (b * c))
    (ap (λ (z : ℕ). z * c) (sym (div-add-mod' a b)) ∙ add-mul (a / b * b) (a % b) c ∙ ap (λ (z : ℕ). z + a % b * c) (mul_assoc (a / b) b c))
    ∙ digits_mod (a / b) (mul-lt-mul_of_pos_right (mod-lt a B) C)

-- the remainder of m * 2 ^ a by n * 2 ^ b, q * 2 ^ j, has no more digits than m or n
record Short (r : ℕ) : Type 0 where
  q : ℕ
  j : ℕ
  digits : q < 2 ^ 24
  is : r ≡ q * 2 ^ j

short : (m n a b : ℕ) → 0 < n → m < 2 ^ 24 → n < 2 ^ 24 → Short (m * 2 ^ a % (n * 2 ^ b))
short m n a b N h k = go (leb a b) refl
  where
    -- x * 2 ^ i as a multiple of 2 ^ l
    over : (x i l : ℕ) → l ≤ i → x * 2 ^ i ≡ x * 2 ^ (i - l) * 2 ^ l
    over x i l h = ap (λ (z : ℕ). x * z) (factor i l h) ∙ sym (mul_assoc x (2 ^ (i - l)) (2 ^ l))

    go : (x : Bool) → leb a b ≡ x → Short (m * 2 ^ a % (n * 2 ^ b))
    go true e =
        let w = n * 2 ^ (b - a) in
        record {
          q = m % w;
          j = a;
          digits = lt_of_le_of_lt (mod-le m w) h;
          is = ap (λ (z : ℕ). m * 2 ^ a % z) (over n b a (leb-true a b e)) ∙ mod_scale m w (2 ^ a) (mul-pos N (pow_pos (b - a))) (pow_pos a);
        }
    go false e =
        let w = m * 2 ^ (a - b) in
        record {
          q = w % n;
          j = b;
          digits = lt_of_lt_of_le (mod-lt w N) (le_of_lt k);
          is = ap (λ (z : ℕ). z % (n * 2 ^ b)) (over m a b (le_of_lt (leb-false a b e))) ∙ mod_scale w n (2 ^ b) N (pow_pos b);
        }

-- m * up e * y over units
in_units : (m x y a : ℕ) (u : ℕ) → u * 2 ^ 149 ≡ 2 ^ a * x → m * u * y * 2 ^ 149 ≡ m * 2 ^ a * (x * y)
in_units m x y a u h =
    mul_right_comm (m * u) y (2 ^ 149)
    ∙ ap (λ (z : ℕ). z * y) (mul_assoc m u (2 ^ 149) ∙ ap (λ (z : ℕ). m * z) h ∙ sym (mul_assoc m (2 ^ a) x))
    ∙ mul_assoc (m * 2 ^ a) x y

module _ (s : Bool) (m : ℕ) (e : ℤ) (t : Bool) (n : ℕ) (d : ℤ) where
  abbrev A : ℕ
  A = m * up e * down d

  abbrev B : ℕ
  B = n * up d * down e

  abbrev C : ℕ
  C = down e * down d

  pub remains : 0 < n → Binary32 (fin s m e) → Binary32 (fin t n d) → HasValue (round binary32 s (A % B) C) s (A % B) C
  remains N f g =
      let F = held s m e f in
      let G = held t n d g in
      let x = scale e F.1 in
      let y = scale d G.1 in
      let M = m * 2 ^ x.0 in
      let P = n * 2 ^ y.0 in
      let C+ : 0 < C = mul-pos (down_pos e) (down_pos d) in
      let B+ : 0 < B = mul-pos (mul-pos N (up_pos d)) (down_pos e) in
      let a : A * 2 ^ 149 ≡ M * C = in_units m (down e) (down d) x.0 (up e) x.1 in
      let b : B * 2 ^ 149 ≡ P * C = in_units n (down d) (down e) y.0 (up d) y.1 ∙ ap (λ (z : ℕ). P * z) (mul_comm (down d) (down e)) in
      let w = short m n x.0 y.0 N F.0 G.0 in
      let r : A % B * 2 ^ 149 ≡ w.q * 2 ^ w.j * C =
      sym (mod_scale A B (2 ^ 149) B+ (pow_pos 149))
      ∙ ap (λ (z : ℕ). z % (B * 2 ^ 149)) a
      ∙ ap (λ (z : ℕ). M * C % z) b
      ∙ mod_scale M P C (mul-pos N (pow_pos y.0)) C+
      ∙ ap (λ (z : ℕ). z * C) w.is in
      let below : M < 2 ^ 277 = below_top m x.0 (down e) (up e) x.1 (down_pos e) F.2 in
      let top : w.q * 2 ^ w.j < 2 ^ 277 = lt_of_le_of_lt (le_trans (le_of_eq (sym w.is)) (mod-le M P)) below in
      round_exact binary32 s (A % B) C w.q w.j C+ w.digits top r
