-- The test of a lent list a turn at a time, and that it decides: it says yes exactly to lists that are `Lent` and whose origin bits are
-- below d. Assumes nothing.
use mathlib.Core.Path.{◌≡◌, refl, sym, ◌∙◌}
use mathlib.Core.Bool.{Bool, true, false}
use mathlib.Core.List.{List, [], ◌∷◌}
use Prim.Native.Nat.{ℕ, zero, suc, ◌+◌, ◌*◌, ◌/◌, ◌^◌, ◌≤◌, ◌<◌}
use native.Mathlib.Decide.{dec_lt}
use native.Mathlib.Nat.{div-eq_of_lt, le-div_iff_mul-le, one-mul, lt_of_lt_of_le}
use native.Mathlib.Numerals.{add-one}
use native.Mathlib.Omega.{arith}
use borrow.Author.Tests.{lt-ltb, le-ltb, le-leb, lt-leb, eq-eqb, ne_eqb, ltb-true, ltb-false, leb-false, eqb-true}
use lib.Dec.{eqb, ltb, leb}
use lib.IntN.{ℤ}
use lib.ListN.{length, get_or, drop, drop_of_length-le}
use lib.Pow.{pow_mono, pow_pos}
use mir.Syntax.{w64}
use mir.Val.{Fits}
use Rattle.slices.specs.Every.{◌and◌}
use Rattle.ink_list.specs.Entries.{Ascends, Lent, ascends, bits_below, formed, formed_lent}
use Rattle.slices.proofs.Every.{not_both, and_left, and_right, and_both}
use Rattle.slices.proofs.Lists.{drop_at}

-- ---- rising items

module _ (limit low : ℕ) (is : List ℕ) (i : ℕ) (h : i < length is) where
  pub too_low : get_or is i 0 < low → ascends low limit (drop i is) ≡ false
  too_low p = rw (drop_at is i 0 h, lt-ltb (get_or is i 0) low p)

  pub too_high : low ≤ get_or is i 0 → limit ≤ get_or is i 0 → ascends low limit (drop i is) ≡ false
  too_high p q = rw (drop_at is i 0 h, le-ltb (get_or is i 0) low p, le-leb limit (get_or is i 0) q)

  pub goes_on : low ≤ get_or is i 0 → get_or is i 0 < limit → ascends low limit (drop i is) ≡ ascends (get_or is i 0 + 1) limit (drop (i + 1) is)
  goes_on p q = rw (drop_at is i 0 h, le-ltb (get_or is i 0) low p, lt-leb limit (get_or is i 0) q, add-one (get_or is i 0))

pub ascends_end : (limit low : ℕ) (is : List ℕ) (i : ℕ) → length is ≤ i → ascends low limit (drop i is) ≡ true
ascends_end limit low is i h = rw (drop_of_length-le is {i = i} h)

pub ascends_sound : (low limit : ℕ) (is : List ℕ) → ascends low limit is ≡ true → Ascends low limit is
ascends_sound low limit [] e = tt
ascends_sound low limit (k ∷ ks) e = first (ltb k low) refl (leb limit k) refl (λ r. ascends_sound (suc k) limit ks r)
  where
    first : (b : Bool) → ltb k low ≡ b → (d : Bool) → leb limit k ≡ d → (ascends (suc k) limit ks ≡ true → Ascends (suc k) limit ks) → Ascends low limit (k ∷ ks)
    first true p d q ih = absurd (not_both (rw p at e))
    first false p true q ih = absurd (not_both (rw (p, q) at e))
    first false p false q ih = (ltb-false k low p, leb-false limit k q, ih (rw (p, q) at e))

pub ascends_complete : (low limit : ℕ) (is : List ℕ) → Ascends low limit is → ascends low limit is ≡ true
ascends_complete low limit [] r = refl
ascends_complete low limit (k ∷ ks) r = rw (le-ltb k low r.0, lt-leb limit k r.1) (ascends_complete (suc k) limit ks r.2)

-- ---- origin bits: nothing is left after m is divided out exactly when a is below m

none_left : (a m : ℕ) → zero < m → eqb (a / m) 0 ≡ ltb a m
none_left a m h = go (dec_lt a m)
  where
    go : Dec (a < m) → eqb (a / m) 0 ≡ ltb a m
    go (yes q) = eq-eqb (a / m) 0 (div-eq_of_lt q) ∙ sym (lt-ltb a m q)
    go (no q) =
        let up : 1 * m ≤ a = rw one-mul (omega arith) in
        let above : 1 ≤ a / m = (le-div_iff_mul-le h).1 up in
        ne_eqb (a / m) 0 (λ e. omega arith) ∙ sym (le-ltb a m (omega arith))

pub shifted_out : (a d : ℕ) → eqb (a / 2 ^ d) 0 ≡ bits_below d a
unfolding bits_below
shifted_out a d = none_left a (2 ^ d) (pow_pos d)

pub all_below : (a d : ℕ) → a < 2 ^ d → bits_below d a ≡ true
unfolding bits_below
all_below a d h = lt-ltb a (2 ^ d) h

-- a set of 64 bits has no bit from 64 on
pub all_fit : (a d : ℕ) → Fits w64 a → 64 ≤ d → true ≡ bits_below d a
all_fit a d f h = sym (all_below a d (lt_of_lt_of_le f.fits (pow_mono h)))

-- ---- formed as a literal

module _ (total d set : ℕ) (is : List ℕ) where
  pub formed_both : set < 2 ^ d → Ascends 0 total is → formed total d set is ≡ true
  unfolding formed
  formed_both h r = and_both (bits_below d set) (ascends 0 total is) (all_below set d h) (ascends_complete 0 total is r)

  pub formed_bits : formed total d set is ≡ true → set < 2 ^ d
  unfolding formed bits_below
  formed_bits e = ltb-true set (2 ^ d) (and_left (bits_below d set) (ascends 0 total is) e)

  pub formed_rises : formed total d set is ≡ true → Ascends 0 total is
  unfolding formed
  formed_rises e = ascends_sound 0 total is (and_right (bits_below d set) (ascends 0 total is) e)

-- ---- the whole test

module _ (total d set : ℕ) (is : List ℕ) (vs : List ℤ) where
  pub formed_sound : formed_lent total d set is vs ≡ true → Lent total is vs × (bits_below d set ≡ true)
  unfolding formed_lent formed
  formed_sound e =
      let f : bits_below d set and ascends 0 total is ≡ true = and_right (eqb (length is) (length vs)) (bits_below d set and ascends 0 total is) e in (
        record {
          long = eqb-true (length is) (length vs) (and_left (eqb (length is) (length vs)) (bits_below d set and ascends 0 total is) e);
          rising = ascends_sound 0 total is (and_right (bits_below d set) (ascends 0 total is) f);
        },
        and_left (bits_below d set) (ascends 0 total is) f,
      )

  pub formed_complete : Lent total is vs → bits_below d set ≡ true → formed_lent total d set is vs ≡ true
  unfolding formed_lent formed
  formed_complete l b =
      and_both (eqb (length is) (length vs)) (bits_below d set and ascends 0 total is) (eq-eqb (length is) (length vs) l.long)
      (and_both (bits_below d set) (ascends 0 total is) b (ascends_complete 0 total is l.rising))
