-- A bit pattern's three fields stand for the Float that lib.Ieee reads from it, and for no other. Assumes nothing.
use mathlib.Core.Path.{◌≡◌, refl, sym, ap, ◌∙◌, subst}
use mathlib.Core.Bool.{Bool, true, false, not, cond}
use Prim.Native.Nat.{ℕ, zero, suc, ◌+◌, ◌*◌, ◌/◌, ◌%◌, ◌^◌, ◌<◌}
use native.Mathlib.Nat.{mul-one}
use lib.Dec.{T, leb, eqb}
use lib.Pow.{pow_pos}
use lib.Ieee.{Float, nan, inf, fin, binary32, is_nan, odd, of_fields, of_bits, to_bits}
use lib.Ieee.Exact.{HasValue, odd_sign}
use lib.Ieee.Bits.{of_bits-fits, of_bits-to_bits, to_bits-lt, to_bits-of_bits}
use Rattle.binary32.specs.Binary32.{Is, Binary32}
use Rattle.binary32.specs.Operations.{Stands, OfBits, ToBits}
use Rattle.binary32.proofs.Binary32.{is_of, fits_of, binary32_of}
use Rattle.binary32.proofs.Unique.{is_unique}

-- an exponent's field of k + 1, by the test whether it is 255
abbrev Says : Bool → ℕ → ℕ → Bool → Float → Type 0
Says s k f b r = cond b (r ≡ cond (eqb f 0) (inf s) nan) (Is r s ((2 ^ 23 + f) * 2 ^ k) (2 ^ 149))

fields_stand : (s : Bool) (x f : ℕ) → Stands s x f (of_fields binary32 s x f)
unfolding of_fields
fields_stand s zero f =
    is_of (odd 24 s f 0 149) s f (2 ^ 149)
    (subst (λ (a : ℕ). HasValue (odd 24 s f 0 149) s a (2 ^ 149)) (mul-one f) (odd_sign 24 s f 0 149))
fields_stand s (suc k) f = go (eqb (suc k) 255)
  where
    go : (b : Bool) → Says s k f b (cond b (cond (eqb f 0) (inf s) nan) (odd 24 s (2 ^ 23 + f) k 149))
    go true = refl
    go false = is_of (odd 24 s (2 ^ 23 + f) k 149) s ((2 ^ 23 + f) * 2 ^ k) (2 ^ 149) (odd_sign 24 s (2 ^ 23 + f) k 149)

stands_once : (s : Bool) (x f : ℕ) (r v : Float) → Binary32 r → Binary32 v → Stands s x f r → Stands s x f v → r ≡ v
stands_once s zero f r v p q h k = is_unique s f (2 ^ 149) r v (pow_pos 149) p q h k
stands_once s (suc i) f r v p q h k = go (eqb (suc i) 255) h k
  where
    go : (b : Bool) → Says s i f b r → Says s i f b v → r ≡ v
    go true h k = h ∙ sym k
    go false h k = is_unique s ((2 ^ 23 + f) * 2 ^ i) (2 ^ 149) r v (pow_pos 149) p q h k

pub reads : (b : ℕ) → OfBits b (of_bits binary32 b)
unfolding of_bits OfBits
reads b = fields_stand (leb (2 ^ 31) b) (b % 2 ^ 31 / 2 ^ 23) (b % 2 ^ 23)

pub reads_only : (b : ℕ) (r : Float) → Binary32 r → OfBits b r → r ≡ of_bits binary32 b
unfolding OfBits
reads_only b r p h =
    stands_once (leb (2 ^ 31) b) (b % 2 ^ 31 / 2 ^ 23) (b % 2 ^ 23) r (of_bits binary32 b) p (binary32_of (of_bits binary32 b) (of_bits-fits binary32 b)) h (reads b)

-- ---- a value that is no NaN

module _ (x : Float) (p : Binary32 x) where
  writes : (to_bits binary32 x < 2 ^ 32) × OfBits (to_bits binary32 x) x
  writes = (to_bits-lt binary32 x (fits_of x p), subst (OfBits (to_bits binary32 x)) (of_bits-to_bits binary32 x (fits_of x p)) (reads (to_bits binary32 x)))

  writes_only : (b : ℕ) → T (not (is_nan x)) → b < 2 ^ 32 → OfBits b x → b ≡ to_bits binary32 x
  writes_only b n h k =
      let e : x ≡ of_bits binary32 b = reads_only b x p k in
      sym (to_bits-of_bits binary32 b h (subst (λ (y : Float). T (not (is_nan y))) e n)) ∙ ap (to_bits binary32) (sym e)

pub written : (x : Float) → Binary32 x → ToBits x (to_bits binary32 x)
unfolding to_bits ToBits
written nan p = refl
written (inf s) p = writes (inf s) p
written (fin s m e) p = writes (fin s m e) p

pub written_only : (x : Float) → Binary32 x → (b : ℕ) → ToBits x b → b ≡ to_bits binary32 x
unfolding to_bits is_nan ToBits
written_only nan p b h = h
written_only (inf s) p b h = writes_only (inf s) p b tt h.0 h.1
written_only (fin s m e) p b h = writes_only (fin s m e) p b tt h.0 h.1
