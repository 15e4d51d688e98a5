-- Pieces of one length that are taken off a part of a pack, one after another. Assumes nothing.
use Rattle.std.proofs.Common.{◌≡◌, ℕ, zero, suc, List, refl, sym, ap, ◌∙◌, ◌+◌, ◌*◌, ◌-◌, ◌<◌, ◌≤◌, ◌++◌, length, arith, get_or, take, drop}
use Rattle.std.proofs.lemmas.List.{get_or-drop, get_or-take, get_or-append_right, length-take-le}
use lib.ListN.{get_or-append, length-append, length-drop}
use native.Mathlib.Numerals.{add-one}
use Rattle.pack.specs.Bytes.{number}

-- m pieces of n bytes each, which stand in p from `at` + n * k on
pub record Left (p : List ℕ) (at n : ℕ) (rest : List ℕ) (k m : ℕ) : Type 0 where
  pub long : length rest ≡ n * m
  pub here : (i : ℕ) → i < length rest → get_or rest i 0 ≡ get_or p (at + n * k + i) 0

mul_more : (n k : ℕ) → n * (k + 1) ≡ n * k + n
mul_more n k = omega arith

some_left : (m long n : ℕ) → long ≡ n * m → n ≤ long → 0 < n → (r : ℕ) × (m ≡ r + 1)
some_left zero long n e h s = absurd (omega arith)
some_left (suc r) long n e h s = (r, sym (add-one r))

none_left : (m long n : ℕ) → long ≡ n * m → long < n → m ≡ 0
none_left zero long n e h = refl
none_left (suc r) long n e h = absurd (omega (arith, e ∙ ap (λ (j : ℕ). n * j) (sym (add-one r)) ∙ mul_more n r))

module _ (p : List ℕ) (at n : ℕ) where
  pub all_left : (m : ℕ) (rest : List ℕ) → at + n * m ≤ length p → rest ≡ take (at + n * m - at) (drop at p) → Left p at n rest 0 m
  all_left m rest h e =
      let w : at + n * m - at ≡ n * m = omega arith in
      let long : length rest ≡ n * m = rw (e, w) (length-take-le (n * m) (drop at p) (omega (arith, length-drop at p))) in
      record {
        long = long;
        here = λ i b. ap (λ (l : List ℕ). get_or l i 0) e ∙ get_or-take _ (drop at p) i 0 (omega (arith, long, b)) ∙ get_or-drop at p i 0 ∙ ap (λ (j : ℕ). get_or p j 0) (omega arith);
      }

  module _ (rest next piece : List ℕ) (k m : ℕ) (l : Left p at n rest k m) (some : 0 < n) (e : rest ≡ piece ++ next) (q : length piece ≡ n) where
    lengths : length rest ≡ n + length next
    lengths = ap length e ∙ length-append piece next ∙ ap (λ (j : ℕ). j + length next) q

    pub turn : (r : ℕ) → m ≡ r + 1 → Left p at n next (k + 1) r
    turn r f = record {
      long = omega (arith, lengths, l.long ∙ ap (λ (j : ℕ). n * j) f ∙ mul_more n r);
      here = λ i b.
          ap (λ (j : ℕ). get_or next j 0) (omega arith) ∙ sym (get_or-append_right piece next n (n + i) 0 q (omega arith)) ∙ ap (λ (xs : List ℕ). get_or xs (n + i) 0) (sym e)
          ∙ l.here (n + i) (omega (arith, lengths, b)) ∙ ap (λ (j : ℕ). get_or p j 0) (omega (arith, mul_more n k));
    }

    piece_at : (i : ℕ) → i < n → get_or piece i 0 ≡ get_or p (at + n * k + i) 0
    piece_at i h = sym (get_or-append piece next 0 i (omega (arith, q))) ∙ ap (λ (xs : List ℕ). get_or xs i 0) (sym e) ∙ l.here i (omega (arith, lengths))

    pub number_there : (w i : ℕ) → i + w ≤ n → number w piece i ≡ number w p (at + n * k + i)
    unfolding number
    number_there zero i h = refl
    number_there (suc w) i h =
        rw (piece_at i (omega arith), number_there w (i + 1) (omega arith)) (ap (λ (j : ℕ). get_or p (at + n * k + i) 0 + 256 * number w p j) (omega arith))

    pub more : (r : ℕ) × (m ≡ r + 1)
    more = some_left m (length rest) n l.long (omega (arith, lengths)) some

  pub none_more : (rest : List ℕ) (k m : ℕ) → Left p at n rest k m → length rest < n → m ≡ 0
  none_more rest k m l h = none_left m (length rest) n l.long h
