-- A walk over the definitions. Assumes nothing.
use mathlib.Core.Path.{◌≡◌, refl, sym, ap, ◌∙◌}
use mathlib.Core.Bool.{true, false}
use mathlib.Core.Logic.{⊎_elim}
use mathlib.Core.Option.{Option, none, some}
use mathlib.Core.List.{List, [], ◌∷◌, ◌++◌}
use Prim.Native.Nat.{ℕ, zero, suc, ◌+◌, ◌-◌, ◌/◌, ◌%◌, ◌≤◌, ◌<◌}
use native.Mathlib.Numerals.{add-one}
use native.Mathlib.Nat.{sub-zero, le_refl, add-zero, zero-add}
use native.Mathlib.Omega.{arith}
use borrow.Author.Tests.{lt-ltb, le-ltb, ne_eqb}
use lib.IntN.{ℤ, pos}
use lib.ListN.{length, get_or, drop, drop_of_length-le}
use Rattle.ink_list.specs.Entries.{Entry, member, Ascends, put, gather_from, gather}
use Rattle.ink_list.specs.Steps.{drop_below, head_is}
use Rattle.list_definitions.specs.Defs.{Ends, missing, unheld, invert, all}
use Rattle.ink_list.proofs.Laws.{from_ext, length_gather, lt_or_le}
use Rattle.slices.proofs.Lists.{drop_at}
use Rattle.ink_list.proofs.SiftLaws.{member_skip, skip_tells, ascends_lower}

-- gathering that goes by the next number k, up to a total
abbrev pub onward : ℕ → ℕ → (ℕ → Option ℤ) → List Entry
onward k total f = gather_from k (total - k) f

pub onward_start : (total : ℕ) (f : ℕ → Option ℤ) → gather total f ≡ onward 0 total f
onward_start total f = rw (sub-zero total)

pub onward_end : (k total : ℕ) (f : ℕ → Option ℤ) → total ≤ k → onward k total f ≡ []
onward_end k total f h = let z : total - k ≡ 0 = omega arith in rw z

pub onward_ext : (k total : ℕ) (f g : ℕ → Option ℤ) → ((j : ℕ) → k ≤ j → f j ≡ g j) → onward k total f ≡ onward k total g
onward_ext k total f g h = from_ext k (total - k) f g (λ j p q. h j p)

pub onward_next : (k total : ℕ) (f : ℕ → Option ℤ) → k < total → onward k total f ≡ put k (f k) (onward (k + 1) total f)
onward_next k total f h =
    let z : total - k ≡ suc (total - (k + 1)) = omega arith in
    rw (z, ← add-one k)

-- m numbers with no value are passed over
skip_many : (m k total : ℕ) (f : ℕ → Option ℤ) → k + m ≤ total → ((j : ℕ) → k ≤ j → j < k + m → f j ≡ none) → onward k total f ≡ onward (k + m) total f
skip_many zero k total f h none_here = let z : k + 0 ≡ k = omega arith in rw z
skip_many (suc m) k total f h none_here =
    onward_next k total f (omega arith)
    ∙ rw (none_here k (le_refl k) (omega arith))
    (skip_many m (k + 1) total f (omega arith) (λ j p q. none_here j (omega arith) (omega arith))
    ∙ ap (λ (i : ℕ). onward i total f) (omega arith))

pub onward_skip : (k e total : ℕ) (f : ℕ → Option ℤ) → k ≤ e → e ≤ total → ((j : ℕ) → k ≤ j → j < e → f j ≡ none) → onward k total f ≡ onward e total f
onward_skip k e total f p q h =
    skip_many (e - k) k total f (omega arith) (λ j a b. h j a (omega arith)) ∙ ap (λ (i : ℕ). onward i total f) (omega arith)

-- gathering in two parts
put_append : (k : ℕ) (o : Option ℤ) (es fs : List Entry) → put k o (es ++ fs) ≡ put k o es ++ fs
put_append k none es fs = refl
put_append k (some v) es fs = refl

from_split : (m n k : ℕ) (f : ℕ → Option ℤ) → gather_from k (m + n) f ≡ gather_from k m f ++ gather_from (k + m) n f
from_split zero n k f = rw (zero-add n, add-zero k)
from_split (suc m) n k f =
    let z : suc m + n ≡ suc (m + n) = omega arith in
    let y : suc k + m ≡ k + suc m = omega arith in
    rw z
    (ap (λ (r : List Entry). put k (f k) r) (from_split m n (suc k) f ∙ rw y)
    ∙ put_append k (f k) (gather_from (suc k) m f) (gather_from (k + suc m) n f))

pub onward_split : (k e total : ℕ) (f : ℕ → Option ℤ) → k ≤ e → e ≤ total → onward k total f ≡ gather_from k (e - k) f ++ onward e total f
onward_split k e total f p q =
    let z : total - k ≡ (e - k) + (total - e) = omega arith in
    let y : k + (e - k) ≡ e = omega arith in
    ap (λ (n : ℕ). gather_from k n f) z ∙ from_split (e - k) (total - e) k f ∙ rw y

-- ---- the definitions from a cursor on

pub ends_at : (low total d : ℕ) (ends : List ℕ) → Ends low total (drop d ends) → low < total → d < length ends
ends_at low total d ends r h =
    ⊎_elim (λ p. p) (λ p. absurd (let z : low ≡ total = rw (drop_of_length-le ends {i = d} p) at r in omega arith)) (lt_or_le d (length ends))

pub ends_done : (low total d : ℕ) (ends : List ℕ) → Ends low total (drop d ends) → length ends ≤ d → low ≡ total
ends_done low total d ends r h = rw (drop_of_length-le ends {i = d} h) at r

pub ends_here : (low total d : ℕ) (ends : List ℕ) → d < length ends → Ends low total (drop d ends) → (low < get_or ends d 0) × Ends (get_or ends d 0) total (drop (d + 1) ends)
ends_here low total d ends h r = rw (drop_at ends d 0 h) at r

ends_most : (low total : ℕ) (ends : List ℕ) → Ends low total ends → low ≤ total
ends_most low total [] r = omega arith
ends_most low total (e ∷ es) r = let h : e ≤ total = ends_most e total es r.1 in let l : low < e = r.0 in omega arith

pub ends_below : (low total d : ℕ) (ends : List ℕ) → d < length ends → Ends low total (drop d ends) → get_or ends d 0 ≤ total
ends_below low total d ends h r = ends_most (get_or ends d 0) total (drop (d + 1) ends) (ends_here low total d ends h r).1

pub ends_turn : (ends : List ℕ) (d : ℕ) → d < length ends → (low total : ℕ) → Ends low total (drop d ends) → (e : ℕ) → e ≡ get_or ends d 0
    → (low < e) × (e ≤ total) × Ends e total (drop (d + 1) ends)
ends_turn ends d h low total b e here = let r = ends_here low total d ends h b in rw here (r.0, ends_below low total d ends h b, r.1)

-- a turn at definition d, whose items are those from low on and before e
module _ (defined : List ℤ) (ends : List ℕ) (d : ℕ) (h : d < length ends) (s : ℕ) (is : List ℕ) (low total : ℕ) (b : Ends low total (drop d ends))
    (e : ℕ) (here : e ≡ get_or ends d 0) where
  turn : (low < e) × (e ≤ total) × Ends e total (drop (d + 1) ends)
  turn = ends_turn ends d h low total b e here

  -- past this definition
  past_def : onward e total (unheld (drop d ends) defined s is) ≡ onward e total (unheld (drop (d + 1) ends) defined (s / 2) is)
  past_def =
      onward_ext e total (unheld (drop d ends) defined s is) (unheld (drop (d + 1) ends) defined (s / 2) is)
      (λ j p. let q : get_or ends d 0 ≤ j = omega arith in rw (drop_at ends d 0 h, le-ltb j (get_or ends d 0) q))

  -- a definition that is not in the set
  pub def_out : (s % 2 ≡ 1 → ⊥) → onward low total (unheld (drop d ends) defined s is) ≡ onward e total (unheld (drop (d + 1) ends) defined (s / 2) is)
  def_out z =
      onward_skip low e total (unheld (drop d ends) defined s is) (omega (arith, turn.0)) turn.1
      (λ j p q. let r : j < get_or ends d 0 = omega arith in rw (drop_at ends d 0 h, lt-ltb j (get_or ends d 0) r, ne_eqb (s % 2) 1 z))
      ∙ past_def

  -- a definition in the set: from low on the list has the members that `left` has
  pub def_in : (left : List ℕ) → s % 2 ≡ 1 → ((j : ℕ) → low ≤ j → member left j ≡ member is j)
      → onward low total (unheld (drop d ends) defined s is)
      ≡ gather_from low (e - low) (missing defined left) ++ onward e total (unheld (drop (d + 1) ends) defined (s / 2) is)
  def_in left z same =
      onward_split low e total (unheld (drop d ends) defined s is) (omega (arith, turn.0)) turn.1
      ∙ rw (past_def, from_ext low (e - low) (unheld (drop d ends) defined s is) (missing defined left) agree)
    where
      agree : (j : ℕ) → low ≤ j → j < low + (e - low) → unheld (drop d ends) defined s is j ≡ missing defined left j
      agree j p q =
          let r : j < get_or ends d 0 = omega (arith, turn.0) in
          rw (drop_at ends d 0 h, lt-ltb j (get_or ends d 0) r, z, same j p)

-- what is left of rising items rises
pub below_ascends : (x low limit : ℕ) (is : List ℕ) → Ascends low limit is → Ascends low limit (drop_below x is)
below_ascends x low limit [] r = tt
below_ascends x low limit (i ∷ is) r =
    ⊎_elim
    (λ p. let l : low ≤ i = r.0 in rw (lt-ltb i x p) (ascends_lower (suc i) low limit (drop_below x is) (omega arith) (below_ascends x (suc i) limit is r.2)))
    (λ p. rw (le-ltb i x p) r)
    (lt_or_le i x)

-- a turn at item k of a definition in the set: left' is what is left after it
module _ (defined : List ℤ) (is left : List ℕ) (k end : ℕ) (t : k < end) (limit : ℕ) (r : Ascends 0 limit left)
    (same : (j : ℕ) → k ≤ j → member left j ≡ member is j) (left' : List ℕ) (skip : left' ≡ drop_below k left) where
  pub still_rising : Ascends 0 limit left'
  still_rising = rw skip (below_ascends k 0 limit left r)

  pub still_same : (j : ℕ) → k + 1 ≤ j → member left' j ≡ member is j
  still_same j p = rw skip (member_skip k j left (omega arith) ∙ same j (omega arith))

  tells : member is k ≡ head_is k left'
  tells = rw skip (sym (same k (le_refl k)) ∙ skip_tells limit k left r)

  pub item_held : head_is k left' ≡ true → onward k end (missing defined is) ≡ onward (k + 1) end (missing defined is)
  item_held e = onward_next k end (missing defined is) t ∙ rw (tells, e)

  pub item_missing : head_is k left' ≡ false
      → onward k end (missing defined is) ≡ (k, get_or defined k (pos 0)) ∷ onward (k + 1) end (missing defined is)
  item_missing e = onward_next k end (missing defined is) t ∙ rw (tells, e)

pub invert_length : (ends : List ℕ) (defined : List ℤ) (set : ℕ) (is : List ℕ) → length (invert ends defined set is) ≤ length defined
unfolding invert
invert_length ends defined set is = length_gather (length defined) (unheld ends defined set is)

pub invert_start : (ends : List ℕ) (defined : List ℤ) (set : ℕ) (is : List ℕ) → invert ends defined set is ≡ onward 0 (length defined) (unheld ends defined set is)
unfolding invert
invert_start ends defined set is = onward_start (length defined) (unheld ends defined set is)

pub all_is : (ends : List ℕ) (defined : List ℤ) (set : ℕ) → invert ends defined set [] ≡ all ends defined set
unfolding invert all
all_is ends defined set = refl
