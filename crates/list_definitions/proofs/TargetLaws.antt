-- Increment, a definition at a time: what its items are the targets of, and what is left for those after it. Assumes nothing.
use mathlib.Core.Path.{◌≡◌, refl, sym, ap, ◌∙◌, subst}
use mathlib.Core.Bool.{Bool, true, false, cond}
use mathlib.Core.Logic.{⊎_elim}
use mathlib.Core.Option.{Option, none, some}
use mathlib.Core.List.{List, [], ◌∷◌, ◌++◌}
use Prim.Native.Nat.{ℕ, zero, suc, ◌+◌, ◌-◌, ◌/◌, ◌%◌, ◌≤◌, ◌<◌, zero-le}
use native.Mathlib.Numerals.{add-one}
use native.Mathlib.Nat.{le_refl, sub-zero}
use native.Mathlib.Omega.{arith}
use borrow.Author.Tests.{lt-ltb, le-ltb}
use lib.Dec.{ltb, eqb-suc-suc, eqb-suc-zero, eqb-zero-suc}
use lib.IntN.{ℤ, pos}
use lib.ListN.{length, get_or, take, drop, length-drop}
use lib.Seq.{drop-drop}
use Rattle.ink_list.specs.Entries.{Entry, entries, RisingFrom, Lent}
use Rattle.ink_list.specs.Steps.{drop_below}
use Rattle.list_definitions.specs.Search.{among, raised, chosen}
use Rattle.list_definitions.specs.Defs.{Ends, origin_of, in_set, any_from, alike, aimed, target, retarget}
use Rattle.ink_number.specs.Int.{eq_z}
use Rattle.ink_list.proofs.Laws.{lt_or_le, length_gather, from_ext}
use Rattle.slices.proofs.Lists.{drop_at}
use Rattle.ink_list.proofs.Rests.{rest}
use Rattle.list_definitions.proofs.DefLaws.{ends_turn, onward, onward_start, onward_ext, onward_skip, onward_split}
use Rattle.list_definitions.proofs.Raised.{length_raised, raised_part, raised_drop}
use Rattle.list_definitions.proofs.IncrementSearch.{pick, chosen_items}

-- ---- a search among numbers

any_next : (i k : ℕ) (p : ℕ → Bool) → i < k → any_from i (k - i) p ≡ cond (p i) true (any_from (i + 1) (k - (i + 1)) p)
any_next i k p h = let z : k - i ≡ suc (k - (i + 1)) = omega arith in rw (z, ← add-one i)

any_no : (i k : ℕ) (p : ℕ → Bool) → i < k → p i ≡ false → any_from i (k - i) p ≡ any_from (i + 1) (k - (i + 1)) p
any_no i k p h e = any_next i k p h ∙ ap (λ (b : Bool). cond b true (any_from (i + 1) (k - (i + 1)) p)) e

any_ext : (low n : ℕ) (p q : ℕ → Bool) → ((i : ℕ) → low ≤ i → i < low + n → p i ≡ q i) → any_from low n p ≡ any_from low n q
any_ext low zero p q h = refl
any_ext low (suc n) p q h =
    rw (h low (le_refl low) (omega arith), any_ext (suc low) n p q (λ i a b. h i (omega arith) (omega arith)))

skip_any : (m low k : ℕ) (p : ℕ → Bool) → low + m ≤ k → ((i : ℕ) → low ≤ i → i < low + m → p i ≡ false) → any_from low (k - low) p ≡ any_from (low + m) (k - (low + m)) p
skip_any zero low k p h f = let z : low + 0 ≡ low = omega arith in rw z
skip_any (suc m) low k p h f =
    any_no low k p (omega arith) (f low (le_refl low) (omega arith))
    ∙ skip_any m (low + 1) k p (omega arith) (λ i a b. f i (omega arith) (omega arith))
    ∙ ap (λ (i : ℕ). any_from i (k - i) p) (omega arith)

any_skip : (low e k : ℕ) (p : ℕ → Bool) → low ≤ e → e ≤ k → ((i : ℕ) → low ≤ i → i < e → p i ≡ false) → any_from low (k - low) p ≡ any_from e (k - e) p
any_skip low e k p l h f = skip_any (e - low) low k p (omega arith) (λ i a b. f i a (omega arith)) ∙ ap (λ (i : ℕ). any_from i (k - i) p) (omega arith)

-- ---- the entries from an item on

abbrev pub from_item : ℕ → List Entry → List Entry
from_item x [] = []
from_item x (e ∷ es) = cond (ltb e.0 x) (from_item x es) (e ∷ es)

-- the values of the entries before it
abbrev pub values_below : ℕ → List Entry → List ℤ
values_below x [] = []
values_below x (e ∷ es) = cond (ltb e.0 x) (e.1 ∷ values_below x es) []

skipped : ℕ → List ℕ → ℕ
skipped x [] = 0
skipped x (k ∷ ks) = cond (ltb k x) (suc (skipped x ks)) 0

skip_is : (x : ℕ) (is : List ℕ) → (drop_below x is ≡ drop (skipped x is) is) × (skipped x is ≤ length is)
unfolding skipped
skip_is x [] = (refl, zero-le)
skip_is x (k ∷ ks) =
    let r : (drop_below x ks ≡ drop (skipped x ks) ks) × (skipped x ks ≤ length ks) = skip_is x ks in
    ⊎_elim
    (λ p. rw (lt-ltb k x p) (r.0, let q : skipped x ks ≤ length ks = r.1 in omega arith))
    (λ p. rw (le-ltb k x p) (refl, zero-le))
    (lt_or_le k x)

from_skip : (x : ℕ) (is : List ℕ) (vs : List ℤ) → length is ≡ length vs → from_item x (entries is vs) ≡ entries (drop (skipped x is) is) (drop (skipped x is) vs)
unfolding skipped
from_skip x [] [] e = refl
from_skip x [] (v ∷ vs) e = absurd (omega arith)
from_skip x (k ∷ ks) [] e = absurd (omega arith)
from_skip x (k ∷ ks) (v ∷ vs) e =
    ⊎_elim (λ p. rw (lt-ltb k x p) (from_skip x ks vs (omega arith))) (λ p. rw (le-ltb k x p)) (lt_or_le k x)

below_skip : (x : ℕ) (is : List ℕ) (vs : List ℤ) → length is ≡ length vs → values_below x (entries is vs) ≡ take (skipped x is) vs
unfolding skipped
below_skip x [] [] e = refl
below_skip x [] (v ∷ vs) e = absurd (omega arith)
below_skip x (k ∷ ks) [] e = absurd (omega arith)
below_skip x (k ∷ ks) (v ∷ vs) e =
    ⊎_elim (λ p. rw (lt-ltb k x p) (ap {B = List ℤ} (λ l. v ∷ l) (below_skip x ks vs (omega arith)))) (λ p. rw (le-ltb k x p)) (lt_or_le k x)

-- where m items are below x, the entries from place m on are those from x on
module _ (x m : ℕ) (is : List ℕ) (vs : List ℤ) (e : length is ≡ length vs) (s : m ≡ length is - length (drop_below x is)) where
  passed : m ≡ skipped x is
  passed = let r = skip_is x is in omega (arith, ap length r.0, length-drop (skipped x is) is)

  skip_entries : entries (drop m is) (drop m vs) ≡ from_item x (entries is vs)
  skip_entries = rw passed (sym (from_skip x is vs e))

  skip_values : values_below x (entries is vs) ≡ take m vs
  skip_values = rw passed (below_skip x is vs e)

pub from_rising : (x low limit : ℕ) (a : List Entry) → RisingFrom low limit a → RisingFrom x limit (from_item x a)
from_rising x low limit [] r = tt
from_rising x low limit (e ∷ es) r =
    ⊎_elim
    (λ p. rw (lt-ltb e.0 x p) (from_rising x (suc e.0) limit es r.2))
    (λ p. rw (le-ltb e.0 x p) (p, r.1, r.2))
    (lt_or_le e.0 x)

-- the same as `target`, with the look for an item that is alike from low on alone
abbrev pub target_from : ℕ → List ℕ → List ℤ → ℕ → List Entry → ℕ → Option ℤ
target_from low ends defined set a k =
    cond (in_set set (origin_of ends k)) (cond (aimed ends defined a k) (cond (any_from low (k - low) (alike ends defined k)) none (some (get_or defined k (pos 0)))) none) none

-- ---- a definition that ends at e, and those after it

module _ (e : ℕ) (es : List ℕ) (defined : List ℤ) (limit k : ℕ) where
  -- an item past the definition
  aimed_later : (low : ℕ) (a : List Entry) → e ≤ k → e ≤ low → RisingFrom low limit a → aimed (e ∷ es) defined a k ≡ aimed es defined a k
  aimed_later low [] h l r = refl
  aimed_later low (x ∷ a) h l r =
      let b : low ≤ x.0 = r.0 in
      rw (
        le-ltb x.0 e (let q : e ≤ x.0 = omega arith in q),
        le-ltb k e h,
        eqb-suc-suc (origin_of es x.0) (origin_of es k),
        aimed_later (suc x.0) a h (omega arith) r.2,
      )

  pub aimed_past : (low : ℕ) (a : List Entry) → e ≤ k → RisingFrom low limit a → aimed (e ∷ es) defined a k ≡ aimed es defined (from_item e a) k
  aimed_past low [] h r = refl
  aimed_past low (x ∷ a) h r =
      ⊎_elim
      (λ p. rw (lt-ltb x.0 e p, le-ltb k e h, eqb-zero-suc (origin_of es k)) (aimed_past (suc x.0) a h r.2))
      (λ p.
      let stop : from_item e (x ∷ a) ≡ x ∷ a = rw (le-ltb x.0 e p) in
      aimed_later x.0 (x ∷ a) h p (le_refl x.0, r.1, r.2) ∙ ap (λ (l : List Entry). aimed es defined l k) (sym stop))
      (lt_or_le x.0 e)

  -- an item of the definition
  aimed_none : (low : ℕ) (a : List Entry) → k < e → e ≤ low → RisingFrom low limit a → aimed (e ∷ es) defined a k ≡ false
  aimed_none low [] h l r = refl
  aimed_none low (x ∷ a) h l r =
      let b : low ≤ x.0 = r.0 in
      let ih : aimed (e ∷ es) defined a k ≡ false = aimed_none (suc x.0) a h (omega arith) r.2 in
      rw (le-ltb x.0 e (let q : e ≤ x.0 = omega arith in q), lt-ltb k e h, eqb-suc-zero (origin_of es x.0)) ih

  pub aimed_here : (low : ℕ) (a : List Entry) → k < e → RisingFrom low limit a → aimed (e ∷ es) defined a k ≡ among (values_below e a) (get_or defined k (pos 0))
  aimed_here low [] h r = refl
  aimed_here low (x ∷ a) h r =
      ⊎_elim
      (λ p.
      let ih : aimed (e ∷ es) defined a k ≡ among (values_below e a) (get_or defined k (pos 0)) = aimed_here (suc x.0) a h r.2 in
      rw (lt-ltb x.0 e p, lt-ltb k e h) (ap (λ (b : Bool). cond (eq_z x.1 (get_or defined k (pos 0))) true b) ih))
      (λ p. aimed_none x.0 (x ∷ a) h p (le_refl x.0, r.1, r.2) ∙ sym (stop p))
      (lt_or_le x.0 e)
    where
      stop : e ≤ x.0 → among (values_below e (x ∷ a)) (get_or defined k (pos 0)) ≡ false
      stop p = rw (le-ltb x.0 e p)

  any_here : (low : ℕ) → low ≤ k → k < e → any_from low (k - low) (alike (e ∷ es) defined k) ≡ any_from low (k - low) (λ i. eq_z (get_or defined i (pos 0)) (get_or defined k (pos 0)))
  any_here low l h =
      any_ext low (k - low) (alike (e ∷ es) defined k)
      (λ i. eq_z (get_or defined i (pos 0)) (get_or defined k (pos 0)))
      (λ i p q. rw (lt-ltb i e (let z : i < e = omega arith in z), lt-ltb k e h))

  any_past : (low : ℕ) → low ≤ e → e ≤ k → any_from low (k - low) (alike (e ∷ es) defined k) ≡ any_from e (k - e) (alike es defined k)
  any_past low l h =
      any_skip low e k (alike (e ∷ es) defined k) l h
      (λ i p q. rw (lt-ltb i e q, le-ltb k e h, eqb-zero-suc (origin_of es k)))
      ∙ any_ext e (k - e) (alike (e ∷ es) defined k)
      (alike es defined k)
      (λ i p q. rw (le-ltb i e p, le-ltb k e h, eqb-suc-suc (origin_of es i) (origin_of es k)))

  set_past : (s : ℕ) → e ≤ k → in_set s (origin_of (e ∷ es) k) ≡ in_set (s / 2) (origin_of es k)
  set_past s h = rw (le-ltb k e h)

  pub target_past : (low s : ℕ) (a : List Entry) → low ≤ e → e ≤ k → RisingFrom low limit a
      → target_from low (e ∷ es) defined s a k ≡ target_from e es defined (s / 2) (from_item e a) k
  target_past low s a l h r =
      ap (λ (b : Bool). cond b (cond (aimed (e ∷ es) defined a k) (cond (any_from low (k - low) (alike (e ∷ es) defined k)) none (some (get_or defined k (pos 0)))) none) none) (set_past s h)
      ∙ ap (λ (b : Bool). cond (in_set (s / 2) (origin_of es k)) (cond b (cond (any_from low (k - low) (alike (e ∷ es) defined k)) none (some (get_or defined k (pos 0)))) none) none) (aimed_past low a h r)
      ∙ ap (λ (b : Bool). cond (in_set (s / 2) (origin_of es k)) (cond (aimed es defined (from_item e a) k) (cond b none (some (get_or defined k (pos 0)))) none) none) (any_past low l h)

  pub target_out : (low s : ℕ) (a : List Entry) → k < e → s % 2 ≡ 0 → target_from low (e ∷ es) defined s a k ≡ none
  target_out low s a h z = ap (λ (b : Bool). cond b (cond (aimed (e ∷ es) defined a k) (cond (any_from low (k - low) (alike (e ∷ es) defined k)) none (some (get_or defined k (pos 0)))) none) none) out
    where
      out : in_set s (origin_of (e ∷ es) k) ≡ false
      out = rw (lt-ltb k e h, z)

  pub target_in : (low s : ℕ) (a : List Entry) → low ≤ k → k < e → s % 2 ≡ 1 → RisingFrom low limit a
      → target_from low (e ∷ es) defined s a k ≡ pick low defined (values_below e a) k
  target_in low s a l h z r =
      ap (λ (b : Bool). cond b (cond (aimed (e ∷ es) defined a k) (cond (any_from low (k - low) (alike (e ∷ es) defined k)) none (some (get_or defined k (pos 0)))) none) none) member_in
      ∙ ap (λ (b : Bool). cond b (cond (any_from low (k - low) (alike (e ∷ es) defined k)) none (some (get_or defined k (pos 0)))) none) (aimed_here low a h r)
      ∙ ap (λ (b : Bool). cond (among (values_below e a) (get_or defined k (pos 0))) (cond b none (some (get_or defined k (pos 0)))) none) (any_here low l h)
    where
      member_in : in_set s (origin_of (e ∷ es) k) ≡ true
      member_in = rw (lt-ltb k e h, z)

-- ---- one definition, at a cursor over the definitions

module _ (defined : List ℤ) (ends : List ℕ) (d : ℕ) (h : d < length ends) (low s limit : ℕ) (a : List Entry) (r : RisingFrom low limit a) (total : ℕ)
    (l : low < get_or ends d 0) (t : get_or ends d 0 ≤ total) where
  past : onward (get_or ends d 0) total (target_from low (drop d ends) defined s a)
      ≡ onward (get_or ends d 0) total (target_from (get_or ends d 0) (drop (d + 1) ends) defined (s / 2) (from_item (get_or ends d 0) a))
  past =
      onward_ext (get_or ends d 0) total (target_from low (drop d ends) defined s a) (target_from (get_or ends d 0) (drop (d + 1) ends) defined (s / 2) (from_item (get_or ends d 0) a))
      (λ j q. ap (λ (es : List ℕ). target_from low es defined s a j) (drop_at ends d 0 h)
      ∙ target_past (get_or ends d 0) (drop (d + 1) ends) defined limit j low s a (omega arith) q r)

  -- it is not in the set
  turn_out : s % 2 ≡ 0 → onward low total (target_from low (drop d ends) defined s a)
      ≡ onward (get_or ends d 0) total (target_from (get_or ends d 0) (drop (d + 1) ends) defined (s / 2) (from_item (get_or ends d 0) a))
  turn_out z =
      onward_skip low (get_or ends d 0) total (target_from low (drop d ends) defined s a) (omega arith) t
      (λ j q u. ap (λ (es : List ℕ). target_from low es defined s a j) (drop_at ends d 0 h)
      ∙ target_out (get_or ends d 0) (drop (d + 1) ends) defined limit j low s a u z)
      ∙ past

  -- it is in the set
  turn_in : s % 2 ≡ 1 → total ≤ length defined → onward low total (target_from low (drop d ends) defined s a)
      ≡ chosen low [] (take (get_or ends d 0 - low) (drop low defined)) (values_below (get_or ends d 0) a)
      ++ onward (get_or ends d 0) total (target_from (get_or ends d 0) (drop (d + 1) ends) defined (s / 2) (from_item (get_or ends d 0) a))
  turn_in z b =
      onward_split low (get_or ends d 0) total (target_from low (drop d ends) defined s a) (omega arith) t
      ∙ ap (λ (x : List Entry). x ++ onward (get_or ends d 0) total (target_from low (drop d ends) defined s a))
      (from_ext low (get_or ends d 0 - low) (target_from low (drop d ends) defined s a) (pick low defined (values_below (get_or ends d 0) a))
      (λ j p q. ap (λ (es : List ℕ). target_from low es defined s a j) (drop_at ends d 0 h)
      ∙ target_in (get_or ends d 0) (drop (d + 1) ends) defined limit j low s a p (omega arith) z r)
      ∙ chosen_items (get_or ends d 0 - low) low defined (values_below (get_or ends d 0) a) (omega arith))
      ∙ ap (λ (x : List Entry). chosen low [] (take (get_or ends d 0 - low) (drop low defined)) (values_below (get_or ends d 0) a) ++ x) past

-- the same, where the definition ends at e, and the entries are those that are left, whose values are raised: m of them are below e
module _ (limit : ℕ) (is : List ℕ) (vs : List ℤ) (parallel : length is ≡ length vs) (by : ℤ) (ends : List ℕ) (defined : List ℤ) (d low s m : ℕ) (h : d < length ends)
    (numbered : Ends low (length defined) (drop d ends)) (rising : RisingFrom low limit (entries is (raised by vs))) (e : ℕ) (here : e ≡ get_or ends d 0)
    (skip : m ≡ length is - length (drop_below e is)) where
  same : length is ≡ length (raised by vs)
  same = parallel ∙ sym (length_raised by vs)

  onto : entries (drop m is) (raised by (drop m vs)) ≡ from_item e (entries is (raised by vs))
  onto = ap (entries (drop m is)) (raised_drop by m vs) ∙ skip_entries e m is (raised by vs) same skip

  bounds : (low < get_or ends d 0) × (get_or ends d 0 ≤ length defined) × Ends (get_or ends d 0) (length defined) (drop (d + 1) ends)
  bounds = ends_turn ends d h low (length defined) numbered (get_or ends d 0) refl

  pub rising_on : RisingFrom e limit (entries (drop m is) (raised by (drop m vs)))
  rising_on = rw onto (from_rising e low limit (entries is (raised by vs)) rising)

  pub step_out : (s % 2 ≡ 1 → ⊥) → onward low (length defined) (target_from low (drop d ends) defined s (entries is (raised by vs)))
      ≡ onward e (length defined) (target_from e (drop (d + 1) ends) defined (s / 2) (entries (drop m is) (raised by (drop m vs))))
  step_out z = rw (onto, here) (turn_out defined ends d h low s limit (entries is (raised by vs)) rising (length defined) bounds.0 bounds.1 (omega arith))

  pub step_in : s % 2 ≡ 1 → onward low (length defined) (target_from low (drop d ends) defined s (entries is (raised by vs)))
      ≡ chosen low [] (take (e - low) (drop low defined)) (raised by (take m vs))
      ++ onward e (length defined) (target_from e (drop (d + 1) ends) defined (s / 2) (entries (drop m is) (raised by (drop m vs))))
  step_in z =
      rw (onto, raised_part by m 0 vs, ← skip_values e m is (raised by vs) same skip, here)
      (turn_in defined ends d h low s limit (entries is (raised by vs)) rising (length defined) bounds.0 bounds.1 z (le_refl (length defined)))

-- `step_in` for a cursor over the entries, whose values are those of `av` raised, which goes from j on to j'
module _ {limit : ℕ} {ai : List ℕ} {av : List ℤ} (lent : Lent limit ai av) (by : ℤ) (ends : List ℕ) (defined : List ℤ) (d low s j j' : ℕ) (h : d < length ends)
    (numbered : Ends low (length defined) (drop d ends)) (rising : RisingFrom low limit (rest j ai (raised by av)))
    (hj : j ≤ length ai) (hj' : j' ≤ length ai) (skip : drop j' ai ≡ drop_below (get_or ends d 0) (drop j ai)) where
  left_of : (i : ℕ) → entries (drop i ai) (raised by (drop i av)) ≡ rest i ai (raised by av)
  left_of i = ap (entries (drop i ai)) (raised_drop by i av)

  on : j ≤ j'
  on =
      let r = skip_is (get_or ends d 0) (drop j ai) in
      omega (arith, ap length (skip ∙ r.0), length-drop j' ai, length-drop j ai, length-drop (skipped (get_or ends d 0) (drop j ai)) (drop j ai))

  moved : drop (j' - j) (drop j ai) ≡ drop j' ai
  moved = drop-drop (j' - j) j ai ∙ ap (λ (i : ℕ). drop i ai) (omega (arith, on))

  moved_values : drop (j' - j) (drop j av) ≡ drop j' av
  moved_values = drop-drop (j' - j) j av ∙ ap (λ (i : ℕ). drop i av) (omega (arith, on))

  pub step_in_lem : s % 2 ≡ 1 → onward low (length defined) (target_from low (drop d ends) defined s (rest j ai (raised by av)))
      ≡ chosen low [] (take (get_or ends d 0 - low) (drop low defined)) (raised by (take (j' - j) (drop j av)))
      ++ onward (get_or ends d 0) (length defined) (target_from (get_or ends d 0) (drop (d + 1) ends) defined (s / 2) (rest j' ai (raised by av)))
  step_in_lem z =
      let long : length (drop j ai) ≡ length (drop j av) = length-drop j ai ∙ omega (arith, lent.long, length-drop j av) in
      let below : j' - j ≡ length (drop j ai) - length (drop_below (get_or ends d 0) (drop j ai)) = omega (arith, hj, hj', on, ap length skip, length-drop j' ai, length-drop j ai) in
      let start : RisingFrom low limit (entries (drop j ai) (raised by (drop j av))) = subst (RisingFrom low limit) (sym (left_of j)) rising in
      let passed_on : entries (drop (j' - j) (drop j ai)) (raised by (drop (j' - j) (drop j av))) ≡ rest j' ai (raised by av) = rw (moved, moved_values) (left_of j') in
      rw (← left_of j, ← passed_on) (step_in limit (drop j ai) (drop j av) long by ends defined d low s (j' - j) h numbered start (get_or ends d 0) refl below z)

pub retarget_length : (ends : List ℕ) (defined : List ℤ) (set : ℕ) (a : List Entry) → length (retarget ends defined set a) ≤ length defined
unfolding retarget
retarget_length ends defined set a = length_gather (length defined) (target ends defined set a)

pub retarget_start : (ends : List ℕ) (defined : List ℤ) (set : ℕ) (a : List Entry) → retarget ends defined set a ≡ onward 0 (length defined) (target_from 0 ends defined set a)
unfolding retarget
retarget_start ends defined set a =
    onward_start (length defined) (target ends defined set a)
    ∙ onward_ext 0 (length defined) (target ends defined set a) (target_from 0 ends defined set a) (λ k p. rw (sub-zero k))
