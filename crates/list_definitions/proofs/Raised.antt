-- Values with an Int added, wrapping; and that to take an Int is to add its negative. Assumes nothing.
use mathlib.Core.Path.{◌≡◌, refl, sym, ap, ◌∙◌, subst}
use mathlib.Core.List.{List, [], ◌∷◌, ◌++◌}
use Prim.Native.Nat.{ℕ, zero, suc, ◌+◌, ◌%◌, ◌^◌, ◌<◌}
use native.Mathlib.Numerals.{add-one}
use lib.IntN.{ℤ, pos, neg_ℤ, ◌+ℤ◌, ◌-ℤ◌, +ℤ_idr}
use lib.ListN.{length, get_or, take, drop}
use lib.Seq.{take-suc}
use lib.Signed.{mag}
use mir.Syntax.{w32}
use Rattle.ink_number.specs.Int.{residue, signed, wrap}
use Rattle.ink_number.proofs.Signed.{back, returned}
use Rattle.ink_number.proofs.Residue.{residue_add}
use Rattle.ink_number.proofs.Wrap.{wrap_same, wrap_in}
use Rattle.ink_list.specs.Entries.{Entry, entries, Wrote}
use Rattle.list_definitions.specs.Defs.{raise, lower, retarget, increment, decrement}
use Rattle.list_definitions.specs.Search.{raised}

pub length_raised : (by : ℤ) (vs : List ℤ) → length (raised by vs) ≡ length vs
length_raised by [] = refl
length_raised by (v ∷ vs) = ap suc (length_raised by vs)

pub raised_entries : (by : ℤ) (is : List ℕ) (vs : List ℤ) → entries is (raised by vs) ≡ raise by (entries is vs)
raised_entries by [] vs = refl
raised_entries by (i ∷ is) [] = refl
raised_entries by (i ∷ is) (v ∷ vs) = ap {B = List Entry} (λ l. (i, wrap (v +ℤ by)) ∷ l) (raised_entries by is vs)

raised_append : (by : ℤ) (a b : List ℤ) → raised by (a ++ b) ≡ raised by a ++ raised by b
raised_append by [] b = refl
raised_append by (v ∷ a) b = ap {B = List ℤ} (λ l. wrap (v +ℤ by) ∷ l) (raised_append by a b)

pub raised_part : (by : ℤ) (n i : ℕ) (vs : List ℤ) → raised by (take n (drop i vs)) ≡ take n (drop i (raised by vs))
raised_part by zero zero vs = refl
raised_part by zero (suc i) [] = refl
raised_part by (suc n) zero [] = refl
raised_part by (suc n) zero (v ∷ vs) = ap {B = List ℤ} (λ l. wrap (v +ℤ by) ∷ l) (raised_part by n zero vs)
raised_part by (suc n) (suc i) [] = refl
raised_part by n (suc i) (v ∷ vs) = raised_part by n i vs

pub raised_drop : (by : ℤ) (m : ℕ) (vs : List ℤ) → raised by (drop m vs) ≡ drop m (raised by vs)
raised_drop by zero vs = refl
raised_drop by (suc m) [] = refl
raised_drop by (suc m) (v ∷ vs) = raised_drop by m vs

-- what `wrapping_add` gives of two Ints that were read
pub sum_of : (v by : ℤ) {r : ℤ} → mag v < 2 ^ 31 → mag by < 2 ^ 31 → r ≡ wrap (back w32 v +ℤ back w32 by) → wrap (v +ℤ by) ≡ r
sum_of v by h k e = sym (e ∙ ap (λ (z : ℤ). wrap (z +ℤ back w32 by)) (returned {z = v} h) ∙ ap (λ (z : ℤ). wrap (v +ℤ z)) (returned {z = by} k))

-- an Int to which 0 is added
unraised : (v : ℤ) → mag v < 2 ^ 31 → wrap (v +ℤ pos 0) ≡ v
unraised v h = ap wrap (+ℤ_idr v) ∙ wrap_in v (record { sfits = h })

-- one Int more
pub ints_more : (vs : List ℤ) (k : ℕ) → k < length vs → mag (get_or vs k (pos 0)) < 2 ^ 31 → raised (pos 0) (take k vs) ≡ take k vs
    → raised (pos 0) (take (k + 1) vs) ≡ take (k + 1) vs
ints_more vs k h b e =
    rw (add-one k, take-suc vs k (pos 0) h)
    (raised_append (pos 0) (take k vs) (get_or vs k (pos 0) ∷ [])
    ∙ rw (e, unraised (get_or vs k (pos 0)) b))

-- one Int before
pub ints_from : (v : ℤ) (vs : List ℤ) → mag v < 2 ^ 31 → raised (pos 0) vs ≡ vs → raised (pos 0) (v ∷ vs) ≡ v ∷ vs
ints_from v vs b e = rw (unraised v b, e)

-- v + -n is v - n, modulo 2^32
taken : (v n : ℤ) → wrap (v -ℤ n) ≡ wrap (v +ℤ wrap (neg_ℤ n))
unfolding wrap
taken v n =
    ap signed
    (residue_add v (neg_ℤ n)
    ∙ ap (λ (r : ℕ). (residue v + r) % 2 ^ 32) (sym (wrap_same (neg_ℤ n)))
    ∙ sym (residue_add v (wrap (neg_ℤ n))))

lower_raise : (by : ℤ) (a : List Entry) → lower by a ≡ raise (wrap (neg_ℤ by)) a
lower_raise by [] = refl
lower_raise by (e ∷ a) = rw (taken e.1 by, lower_raise by a)

pub wrote_lower : {n : ℕ} {oi oi' : List ℕ} {ov ov' : List ℤ} (ends : List ℕ) (defined : List ℤ) (set : ℕ) (by : ℤ) (a : List Entry) {z : ℤ} → z ≡ wrap (neg_ℤ by)
    → Wrote (increment ends defined set z a) n oi oi' ov ov' → Wrote (decrement ends defined set by a) n oi oi' ov ov'
wrote_lower {n} {oi} {oi'} {ov} {ov'} ends defined set by a e w =
    subst (λ (x : List Entry). Wrote (retarget ends defined set x) n oi oi' ov ov') (ap (λ (b : ℤ). raise b a) e ∙ sym (lower_raise by a)) w
