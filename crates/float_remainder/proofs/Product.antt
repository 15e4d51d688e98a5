-- A whole number of 24 digits times a power of two is exact. Assumes nothing.
use mathlib.Core.Path.{◌≡◌, sym, ap, ◌∙◌, subst}
use mathlib.Core.Bool.{Bool, true, false, true≢false}
use Prim.Native.Nat.{ℕ, ◌+◌, ◌*◌, ◌^◌, ◌≤◌, ◌<◌}
use native.Mathlib.Nat.{le_of_lt, lt_of_lt_of_le, mul-one, mul_assoc, mul_left_comm, mul_right_comm, mul-pos, eq_of_mul-eq-mul_right}
use native.Mathlib.Omega.{arith}
use lib.Dec.{T, le→leb}
use lib.IntN.{ℤ, pos}
use lib.Pow.{pow_mono, shl_lt}
use lib.Ieee.{Float, nan, inf, fin, binary32, up, down, round, mul, of_int, in_float}
use lib.Ieee.Fits.{down_pos}
use lib.Ieee.Exact.{HasValue, round_exact}
use lib.Ieee.Back.{round_whole}
use Rattle.binary32.specs.Binary32.{Is}
use Rattle.binary32.proofs.Binary32.{is_of, value_of}

-- from one fraction to another of the same size
rescale : (x : Float) (s : Bool) (a c num den : ℕ) → 0 < c → num * c ≡ a * den → HasValue x s a c → HasValue x s num den
rescale nan s a c num den p h v = v
rescale (inf t) s a c num den p h v = v
rescale (fin t m e) s a c num den p h v = (
  v.0,
  eq_of_mul-eq-mul_right c p (m * up e * den) (num * down e)
      (mul_right_comm (m * up e) den c
      ∙ ap (λ (z : ℕ). z * den) v.1
      ∙ mul_right_comm a (down e) den
      ∙ ap (λ (z : ℕ). z * down e) (sym h)
      ∙ mul_right_comm num c (down e)),
)

pub rescale_is : (x : Float) (s : Bool) (a c num den : ℕ) → 0 < c → num * c ≡ a * den → Is x s a c → Is x s num den
rescale_is x s a c num den p h v = is_of x s num den (rescale x s a c num den p h (value_of x s a c v))

-- x and y over units
over : (x y u a b d e : ℕ) → x * 1 ≡ a * d → y * u ≡ b * e → x * y * u ≡ a * b * (d * e)
over x y u a b d e p q =
    mul_assoc x y u
    ∙ ap (λ (z : ℕ). x * z) q
    ∙ ap (λ (z : ℕ). z * (b * e)) (sym (mul-one x) ∙ p)
    ∙ simp (mul_assoc, mul_left_comm)

module _ (s : Bool) (m : ℕ) (e : ℤ) (n : ℕ) (d : ℤ) (r k : ℕ) where
  abbrev num : ℕ
  num = m * up e * (n * up d)

  abbrev den : ℕ
  den = down e * down d

  once : m * up e * 1 ≡ r * down e → n * up d * 2 ^ 149 ≡ 2 ^ k * down d → r < 2 ^ 24 → k ≤ 253 → Is (round binary32 s num den) s (r * 2 ^ k) (2 ^ 149)
  once p q h l =
      let D : 0 < den = mul-pos (down_pos e) (down_pos d) in
      let same : num * 2 ^ 149 ≡ r * 2 ^ k * den = over (m * up e) (n * up d) (2 ^ 149) r (2 ^ k) (down e) (down d) p q in
      let top : r * 2 ^ k < 2 ^ 277 = lt_of_lt_of_le (shl_lt 24 k h) (pow_mono {i = 24 + k} {j = 277} (omega arith)) in
      let x = round binary32 s num den in
      is_of x s (r * 2 ^ k) (2 ^ 149)
      (rescale x s num den (r * 2 ^ k) (2 ^ 149) D (sym same) (round_exact binary32 s num den r k D h top same))

times : (x u : Float) (s : Bool) (r k : ℕ) → HasValue x false r 1 → HasValue u s (2 ^ k) (2 ^ 149) → r < 2 ^ 24 → k ≤ 253
    → Is (mul binary32 x u) s (r * 2 ^ k) (2 ^ 149)
unfolding mul
times nan u s r k p q h l = absurd p
times (inf t) u s r k p q h l = absurd p
times (fin t m e) nan s r k p q h l = absurd q
times (fin t m e) (inf t') s r k p q h l = absurd q
times (fin true m e) (fin t n d) s r k p q h l = absurd (true≢false p.0)
times (fin false m e) (fin true n d) s r k p q h l =
    subst (λ (z : Bool). Is (round binary32 true (m * up e * (n * up d)) (down e * down d)) z (r * 2 ^ k) (2 ^ 149)) q.0 (once true m e n d r k p.1 q.1 h l)
times (fin false m e) (fin false n d) s r k p q h l =
    subst (λ (z : Bool). Is (round binary32 false (m * up e * (n * up d)) (down e * down d)) z (r * 2 ^ k) (2 ^ 149)) q.0 (once false m e n d r k p.1 q.1 h l)

whole : (r : ℕ) → r < 2 ^ 24 → HasValue (of_int binary32 (pos r)) false r 1
unfolding of_int
whole r h = round_whole binary32 false r (le_of_lt h)

pub whole_in : (r : ℕ) → r < 2 ^ 24 → T (in_float binary32 (pos r))
unfolding in_float
whole_in r h = le→leb r (2 ^ 24) (le_of_lt h)

pub scaled : (u : Float) (s : Bool) (r k : ℕ) → Is u s (2 ^ k) (2 ^ 149) → r < 2 ^ 24 → k ≤ 253 → Is (mul binary32 (of_int binary32 (pos r)) u) s (r * 2 ^ k) (2 ^ 149)
scaled u s r k q h l = times (of_int binary32 (pos r)) u s r k (whole r h) (value_of u s (2 ^ k) (2 ^ 149) q) h l
