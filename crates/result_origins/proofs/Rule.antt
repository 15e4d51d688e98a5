-- The rule for a result's origin set, case by case, and that its bits are below D. Assumes nothing.
use mathlib.Core.Path.{◌≡◌, refl, sym, ◌∙◌}
use mathlib.Core.Bool.{Bool, true, false, cond, ◌&&◌}
use mathlib.Core.List.{List, [], ◌∷◌}
use Prim.Native.Nat.{ℕ, zero, suc, ◌^◌, ◌<◌}
use native.Mathlib.Omega.{arith}
use borrow.Author.Tests.{ne_eqb}
use lib.Dec.{eqb}
use lib.ListN.{length, take}
use lib.Pow.{pow_pos}
use Rattle.op.specs.Op.{op_subtract}
use Rattle.ink_list.specs.Entries.{Entry, items}
use Rattle.ink_list.proofs.Formed.{formed_bits}
use Rattle.list_definitions.specs.Defs.{origins_of}
use Rattle.list_definitions.proofs.OriginLaws.{origins_below, origins_none}
use Rattle.ink_value.specs.Val.{Val, list, kind_of, is_list}
use Rattle.ink_value.specs.Convert.{entries_of, origins_in}
use Rattle.ink_value.specs.Value.{AllInPack}
use Rattle.result_origins.specs.Origins.{origins_kept, origins_after}

-- ---- which set

-- Subtract on two Lists with an empty result keeps the left operand's
pub emptied : (ends : List ℕ) (p q : ℕ) (a b : List Entry) → origins_after ends op_subtract (list p a ∷ list q b ∷ []) [] ≡ p
unfolding origins_after origins_kept
emptied ends p q a b = refl

-- with something left it is the origins of the items
pub left_over : (ends : List ℕ) (o : ℕ) (vs : List Val) (k : ℕ) (ks : List ℕ) → origins_after ends o vs (k ∷ ks) ≡ origins_of ends (k ∷ ks)
unfolding origins_after
left_over ends o vs k ks = refl

-- and so where nothing is kept
none_kept : (ends : List ℕ) (o : ℕ) (vs : List Val) (is : List ℕ) → origins_kept o vs ≡ 0 → origins_after ends o vs is ≡ origins_of ends is
unfolding origins_after
none_kept ends o vs [] e = e ∙ sym (origins_none ends)
none_kept ends o vs (k ∷ ks) e = refl

-- by another operator
kept_none : (o : ℕ) (vs : List Val) → (o ≡ op_subtract → ⊥) → origins_kept o vs ≡ 0
unfolding origins_kept
kept_none o [] h = refl
kept_none o (a ∷ []) h = refl
kept_none o (a ∷ b ∷ []) h = rw (ne_eqb o op_subtract h)
kept_none o (a ∷ b ∷ c ∷ vs) h = refl

pub other_operator : (ends : List ℕ) (o : ℕ) (vs : List Val) (is : List ℕ) → (o ≡ op_subtract → ⊥) → origins_after ends o vs is ≡ origins_of ends is
other_operator ends o vs is h = none_kept ends o vs is (kept_none o vs h)

-- by a right operand that is no List
right_none : (o : ℕ) (a b : Val) → is_list (kind_of b) ≡ false → origins_kept o (a ∷ b ∷ []) ≡ 0
unfolding origins_kept
right_none o a b e = go (eqb o op_subtract)
  where
    go : (t : Bool) → cond (t && is_list (kind_of b)) (origins_in a) 0 ≡ 0
    go true = rw e
    go false = refl

pub other_right : (ends : List ℕ) (o : ℕ) (a b : Val) (is : List ℕ) → is_list (kind_of b) ≡ false → origins_after ends o (a ∷ b ∷ []) is ≡ origins_of ends is
other_right ends o a b is e = none_kept ends o (a ∷ b ∷ []) is (right_none o a b e)

-- ---- the cases of the code

-- the first n of three, where n is not two
pub not_two : (o n : ℕ) (a b c : Val) → (n ≡ 2 → ⊥) → origins_kept o (take n (a ∷ b ∷ c ∷ [])) ≡ 0
unfolding origins_kept
not_two o zero a b c h = refl
not_two o (suc zero) a b c h = refl
not_two o (suc (suc zero)) a b c h = absurd (h refl)
not_two o (suc (suc (suc n))) a b c h = refl

-- by how many items there are
pub some_items : (ends : List ℕ) (o : ℕ) (vs : List Val) (is : List ℕ) → 0 < length is → origins_after ends o vs is ≡ origins_of ends is
some_items ends o vs [] h = absurd (omega arith)
some_items ends o vs (k ∷ ks) h = left_over ends o vs k ks

pub no_items : (ends : List ℕ) (o : ℕ) (vs : List Val) (is : List ℕ) → length is ≡ 0 → origins_after ends o vs is ≡ origins_kept o vs
unfolding origins_after
no_items ends o vs [] h = refl
no_items ends o vs (k ∷ ks) h = absurd (omega arith)

-- ---- its bits are below D

module _ (total : ℕ) (ends : List ℕ) where
  kept_below : (o : ℕ) (vs : List Val) → AllInPack total (length ends) vs → origins_kept o vs < 2 ^ length ends
  unfolding origins_kept
  kept_below o [] h = pow_pos (length ends)
  kept_below o (a ∷ []) h = pow_pos (length ends)
  kept_below o (a ∷ b ∷ []) h = go (eqb o op_subtract && is_list (kind_of b))
    where
      go : (t : Bool) → cond t (origins_in a) 0 < 2 ^ length ends
      go true = formed_bits total (length ends) (origins_in a) (items (entries_of a)) h.0
      go false = pow_pos (length ends)
  kept_below o (a ∷ b ∷ c ∷ vs) h = pow_pos (length ends)

  pub after_below : (o : ℕ) (vs : List Val) (is : List ℕ) → AllInPack total (length ends) vs → origins_after ends o vs is < 2 ^ length ends
  unfolding origins_after
  after_below o vs [] h = kept_below o vs h
  after_below o vs (k ∷ ks) h = origins_below ends (k ∷ ks)
