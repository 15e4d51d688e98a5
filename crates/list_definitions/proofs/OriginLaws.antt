-- The set of the origins of rising items, a definition at a time. Assumes nothing.
use mathlib.Core.Path.{◌≡◌, refl, sym, ap, ◌∙◌}
use mathlib.Core.Bool.{Bool, true, false}
use mathlib.Core.Logic.{⊎_elim}
use mathlib.Core.List.{List, [], ◌∷◌}
use Prim.Native.Nat.{ℕ, zero, suc, ◌+◌, ◌*◌, ◌^◌, ◌/◌, ◌%◌, ◌≤◌, ◌<◌, zero-le}
use native.Mathlib.Numerals.{add-one}
use native.Mathlib.Nat.{pow-suc, mul-add, mul_assoc, mul-one, mul-zero, one-mul, le_refl, add_assoc, mod-eq_of_lt, lt_of_lt_of_le, not-suc-le-zero, le_of_suc-le-suc}
use native.Mathlib.Omega.{arith}
use borrow.Author.Tests.{lt-ltb, le-ltb, eq-eqb, ne_eqb}
use lib.Dec.{eqb, ltb, eqb-suc-suc, eqb-suc-zero, eqb-zero-suc}
use lib.Pow.{pow_mono, pow-lt}
use lib.ListN.{length, get_or, drop}
use Rattle.ink_list.specs.Entries.{Ascends}
use Rattle.ink_list.specs.Steps.{drop_below}
use Rattle.ink_number.specs.Int.{bit_of}
use Rattle.list_definitions.specs.Defs.{origin_of, in_set, reached, set_of, origins_of}
use Rattle.ink_list.proofs.Laws.{lt_or_le}
use Rattle.slices.proofs.Lists.{drop_at}

pub set_of_ext : (n : ℕ) (f g : ℕ → Bool) → ((d : ℕ) → f d ≡ g d) → set_of n f ≡ set_of n g
set_of_ext zero f g h = refl
set_of_ext (suc n) f g h = rw (h 0, set_of_ext n (λ d. f (suc d)) (λ d. g (suc d)) (λ d. h (suc d)))

-- is the first below e
abbrev first_below : ℕ → List ℕ → Bool
first_below e [] = false
first_below e (k ∷ ks) = ltb k e

-- items from low on are of no definition that ends at or before low
first_none : (e low limit : ℕ) (es is : List ℕ) → Ascends low limit is → e ≤ low → reached (e ∷ es) is 0 ≡ false
first_none e low limit es [] r h = refl
first_none e low limit es (k ∷ ks) r h =
    let l : low ≤ k = r.0 in
    rw (le-ltb k e (let q : e ≤ k = omega arith in q), eqb-suc-zero (origin_of es k)) (first_none e (suc k) limit es ks r.2 (omega arith))

first_def : (e low limit : ℕ) (es is : List ℕ) → Ascends low limit is → reached (e ∷ es) is 0 ≡ first_below e is
first_def e low limit es [] r = refl
first_def e low limit es (k ∷ ks) r =
    ⊎_elim
    (λ p. rw (lt-ltb k e p))
    (λ p. rw (le-ltb k e p, eqb-suc-zero (origin_of es k)) (first_none e (suc k) limit es ks r.2 (omega arith)))
    (lt_or_le k e)

-- rising items from e on
later_all : (e low limit : ℕ) (es is : List ℕ) (d : ℕ) → Ascends low limit is → e ≤ low → reached (e ∷ es) is (suc d) ≡ reached es is d
later_all e low limit es [] d r h = refl
later_all e low limit es (k ∷ ks) d r h =
    let l : low ≤ k = r.0 in
    rw (le-ltb k e (let q : e ≤ k = omega arith in q), eqb-suc-suc (origin_of es k) d, later_all e (suc k) limit es ks d r.2 (omega arith))

later_def : (e low limit : ℕ) (es is : List ℕ) (d : ℕ) → Ascends low limit is → reached (e ∷ es) is (suc d) ≡ reached es (drop_below e is) d
later_def e low limit es [] d r = refl
later_def e low limit es (k ∷ ks) d r =
    ⊎_elim
    (λ p. rw (lt-ltb k e p, eqb-zero-suc d) (later_def e (suc k) limit es ks d r.2))
    (λ p.
    let stop : drop_below e (k ∷ ks) ≡ k ∷ ks = rw (le-ltb k e p) in
    later_all e k limit es (k ∷ ks) d (le_refl k, r.1, r.2) p ∙ ap (λ (l : List ℕ). reached es l d) (sym stop))
    (lt_or_le k e)

pub origins_step : (e low limit : ℕ) (es is : List ℕ) → Ascends low limit is → origins_of (e ∷ es) is ≡ bit_of (first_below e is) + 2 * origins_of es (drop_below e is)
origins_step e low limit es is r =
    ap (λ (b : Bool). bit_of b + 2 * set_of (length es) (λ d. reached (e ∷ es) is (suc d))) (first_def e low limit es is r)
    ∙ ap (λ (s : ℕ). bit_of (first_below e is) + 2 * s)
    (set_of_ext (length es) (λ d. reached (e ∷ es) is (suc d)) (reached es (drop_below e is)) (λ d. later_def e low limit es is d r))

-- a cursor that moved passed an item
pub shorter : (e : ℕ) (is : List ℕ) → length (drop_below e is) ≤ length is
shorter e [] = zero-le
shorter e (k ∷ ks) =
    ⊎_elim
    (λ p. rw (lt-ltb k e p) (let h : length (drop_below e ks) ≤ length ks = shorter e ks in omega arith))
    (λ p. rw (le-ltb k e p) (le_refl (suc (length ks))))
    (lt_or_le k e)

moved_head : (e : ℕ) (is : List ℕ) → first_below e is ≡ ltb (length (drop_below e is)) (length is)
moved_head e [] = sym (le-ltb 0 0 zero-le)
moved_head e (k ∷ ks) =
    ⊎_elim
    (λ p. rw (lt-ltb k e p) (sym (lt-ltb (length (drop_below e ks)) (suc (length ks)) (let h : length (drop_below e ks) ≤ length ks = shorter e ks in omega arith))))
    (λ p. rw (le-ltb k e p) (sym (le-ltb (suc (length ks)) (suc (length ks)) (le_refl (suc (length ks))))))
    (lt_or_le k e)

-- a turn at definition d: `rest` is what is left after it
module _ (limit : ℕ) (left ends : List ℕ) (ra : Ascends 0 limit left) (d : ℕ) (hd : d < length ends) (rest : List ℕ)
    (skip : rest ≡ drop_below (get_or ends d 0) left) where
  turn : origins_of (drop d ends) left ≡ bit_of (ltb (length rest) (length left)) + 2 * origins_of (drop (d + 1) ends) rest
  turn =
      ap (λ (l : List ℕ). origins_of l left) (drop_at ends d 0 hd)
      ∙ origins_step (get_or ends d 0) 0 limit (drop (d + 1) ends) left ra
      ∙ ap (λ (b : Bool). bit_of b + 2 * origins_of (drop (d + 1) ends) (drop_below (get_or ends d 0) left)) (moved_head (get_or ends d 0) left)
      ∙ ap (λ (l : List ℕ). bit_of (ltb (length l) (length left)) + 2 * origins_of (drop (d + 1) ends) l) (sym skip)

  weigh : (set b r : ℕ) → set + 2 ^ d * (b + 2 * r) ≡ (set + 2 ^ d * b) + 2 ^ (d + 1) * r
  weigh set b r =
      ap (λ (n : ℕ). set + n) (mul-add (2 ^ d) b (2 * r) ∙ ap (λ (n : ℕ). 2 ^ d * b + n) (sym (mul_assoc (2 ^ d) 2 r) ∙ ap (λ (n : ℕ). n * r) (sym (pow-suc 2 d) ∙ ap (λ (n : ℕ). 2 ^ n) (sym (add-one d)))))
      ∙ sym (add_assoc set (2 ^ d * b) (2 ^ (d + 1) * r))

  pub origin_yes : (set : ℕ) → length rest < length left
      → set + 2 ^ d * origins_of (drop d ends) left ≡ (set + 2 ^ d) + 2 ^ (d + 1) * origins_of (drop (d + 1) ends) rest
  origin_yes set h =
      ap (λ (n : ℕ). set + 2 ^ d * n) (turn ∙ ap (λ (b : Bool). bit_of b + 2 * origins_of (drop (d + 1) ends) rest) (lt-ltb _ _ h))
      ∙ weigh set 1 (origins_of (drop (d + 1) ends) rest)
      ∙ ap (λ (n : ℕ). (set + n) + 2 ^ (d + 1) * origins_of (drop (d + 1) ends) rest) (mul-one (2 ^ d))

  pub origin_no : (set : ℕ) → length left ≤ length rest
      → set + 2 ^ d * origins_of (drop d ends) left ≡ set + 2 ^ (d + 1) * origins_of (drop (d + 1) ends) rest
  origin_no set h =
      ap (λ (n : ℕ). set + 2 ^ d * n) (turn ∙ ap (λ (b : Bool). bit_of b + 2 * origins_of (drop (d + 1) ends) rest) (le-ltb _ _ h))
      ∙ weigh set 0 (origins_of (drop (d + 1) ends) rest)
      ∙ ap (λ (n : ℕ). (set + n) + 2 ^ (d + 1) * origins_of (drop (d + 1) ends) rest) (mul-zero (2 ^ d))
      ∙ omega arith

-- one bit, made by a shift
pub one_bit : (d : ℕ) → d < 64 → (1 * 2 ^ d) % 2 ^ 64 ≡ 2 ^ d
one_bit d h = ap (λ (n : ℕ). n % 2 ^ 64) (one-mul (2 ^ d)) ∙ mod-eq_of_lt (pow-lt h)

pub bits_grow : (set d : ℕ) → set < 2 ^ d → (set < 2 ^ (d + 1)) × (set + 2 ^ d < 2 ^ (d + 1))
bits_grow set d h =
    let p : 2 ^ (d + 1) ≡ 2 ^ d * 2 = ap (λ (n : ℕ). 2 ^ n) (add-one d) ∙ pow-suc 2 d in
    (omega arith, omega arith)

pub bits_fit : (set d : ℕ) → set < 2 ^ d → d < 64 → set + 2 ^ d < 2 ^ 64
bits_fit set d h k = lt_of_lt_of_le (bits_grow set d h).1 (pow_mono (let q : d + 1 ≤ 64 = omega arith in q))

-- ---- what the set means: definition d is in it where f holds of d

bit_of_lem : (b : Bool) (r : ℕ) → (eqb ((bit_of b + 2 * r) % 2) 1 ≡ b) × ((bit_of b + 2 * r) / 2 ≡ r)
bit_of_lem true r =
    let m : (1 + 2 * r) % 2 ≡ 1 = omega arith in
    (eq-eqb ((1 + 2 * r) % 2) 1 m, omega arith)
bit_of_lem false r =
    let m : (0 + 2 * r) % 2 ≡ 0 = omega arith in
    (ne_eqb ((0 + 2 * r) % 2) 1 (λ q. omega arith), omega arith)

pub in_set_of : (n d : ℕ) (f : ℕ → Bool) → d < n → in_set (set_of n f) d ≡ f d
in_set_of zero d f h = absurd (not-suc-le-zero h)
in_set_of (suc n) zero f h = (bit_of_lem (f 0) (set_of n (λ d. f (suc d)))).0
in_set_of (suc n) (suc d) f h =
    ap (λ (s : ℕ). in_set s d) (bit_of_lem (f 0) (set_of n (λ i. f (suc i)))).1 ∙ in_set_of n d (λ i. f (suc i)) (le_of_suc-le-suc h)

-- it has bits below n alone
set_of_below : (n : ℕ) (f : ℕ → Bool) → set_of n f < 2 ^ n
set_of_below zero f = omega arith
set_of_below (suc n) f = next (f 0) (set_of n (λ d. f (suc d))) (set_of_below n (λ d. f (suc d)))
  where
    next : (b : Bool) (r : ℕ) → r < 2 ^ n → bit_of b + 2 * r < 2 ^ suc n
    next true r h = let p : 2 ^ suc n ≡ 2 ^ n * 2 = pow-suc 2 n in omega arith
    next false r h = let p : 2 ^ suc n ≡ 2 ^ n * 2 = pow-suc 2 n in omega arith

pub origins_below : (ends is : List ℕ) → origins_of ends is < 2 ^ length ends
origins_below ends is = set_of_below (length ends) (reached ends is)

set_of_none : (n : ℕ) → set_of n (λ d. false) ≡ 0
set_of_none zero = refl
set_of_none (suc n) = rw (set_of_none n)

-- no items are of no origin
pub origins_none : (ends : List ℕ) → origins_of ends [] ≡ 0
origins_none ends = set_of_none (length ends)

pub in_origins_of : (ends is : List ℕ) (d : ℕ) → d < length ends → in_set (origins_of ends is) d ≡ reached ends is d
in_origins_of ends is d h = in_set_of (length ends) d (reached ends is) h
