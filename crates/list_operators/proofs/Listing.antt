-- What the operators give rises below the item limit, and a list that was written to the output slices is the answer. Assumes nothing.
use mathlib.Core.Path.{◌≡◌, refl, sym, ap, ◌∙◌, subst}
use mathlib.Core.Bool.{Bool, true, false, cond}
use mathlib.Core.List.{List, [], ◌∷◌}
use Prim.Native.Nat.{ℕ, suc, ◌≤◌, ◌<◌}
use native.Mathlib.Omega.{arith}
use lib.Dec.{eqb}
use lib.IntN.{ℤ}
use lib.ListN.{length, take}
use Rattle.ink_list.specs.Entries.{item_numbers, Entry, items, Ascends, Rising, Wrote}
use Rattle.ink_value.specs.Convert.{as_int, entries_of, origins_in}
use Rattle.ink_value.specs.declared.Value.{Value}
use Rattle.ink_value.proofs.Given.{gave_copy}
use Rattle.ink_value.specs.Val.{Val, kind_of, is_list}
use Rattle.ink_number.specs.Answer.{gives}
use Rattle.list_definitions.specs.Defs.{ListDefinitions, invert, retarget, raise, lower}
use Rattle.list_pairs.specs.Pairs.{merge_l}
use Rattle.list_operators.specs.Lists.{shift_l, unary_l, list_binary, entries_for, list_result}
use Rattle.result_origins.specs.Origins.{origins_after}
use Rattle.ink_value.specs.Value.{val_of, kind_in, Gave, Wf, AllWf}
use Rattle.ink_list.specs.Ops.{list_extreme, extreme, beats}
use Rattle.ink_list.proofs.Laws.{rising_limit}
use Rattle.ink_list.proofs.Output.{length_items}
use Rattle.list_definitions.proofs.DefLaws.{all_is}
use Rattle.ink_list.proofs.Wrote.{read_items, union_rising, sift_rising, ascends_limit}
use Rattle.list_definitions.proofs.AnswersFormed.{invert_rising, retarget_rising}
use Rattle.op.specs.Op.{op_add, op_subtract, op_intersect, op_list_min, op_list_max, op_all, op_invert}
use Rattle.ink_value.specs.declared.Kind.TheVariants as K
use Rattle.ink_value.specs.declared.Value.TheVariants as Is

-- ---- what the operators give rises below the limit

either : (limit : ℕ) (t : Bool) (a b : List Entry) → Rising limit a → Rising limit b → Rising limit (cond t a b)
either limit true a b p q = p
either limit false a b p q = q

merge_rises : (l limit o : ℕ) (a b : List Entry) → Rising l a → Rising l b → Rising l (merge_l limit o a b)
unfolding merge_l
merge_rises l limit o a b ra rb =
    either l (eqb o op_add) _ _ (union_rising l limit a b ra rb)
    (either l (eqb o op_subtract) _ _ (sift_rising l limit _ a ra) (either l (eqb o op_intersect) _ _ (sift_rising l limit _ a ra) tt))

-- the extreme entry is one of the list's
picks : (limit : ℕ) (t : Bool) (e f : Entry) → e.0 < limit → f.0 < limit → (cond t f e).0 < limit
picks limit true e f p q = q
picks limit false e f p q = p

extreme_below : (least : Bool) (limit low : ℕ) (e : Entry) (es : List Entry) → e.0 < limit → Ascends low limit (items es) → (extreme least e es).0 < limit
extreme_below least limit low e [] h r = h
extreme_below least limit low e (f ∷ fs) h r =
    extreme_below least limit (suc f.0) (cond (beats least f.1 e.1) f e) fs (picks limit (beats least f.1 e.1) e f h r.1) r.2

extreme_rises : (least : Bool) (limit : ℕ) (a : List Entry) → Rising limit a → Rising limit (list_extreme least a)
extreme_rises least limit [] r = tt
extreme_rises least limit (e ∷ es) r = (omega arith, extreme_below least limit (suc e.0) e es r.1 r.2, tt)

-- below any number l that the pack's items keep
module _ (u : ListDefinitions) (l : ℕ) (within : length u.defined ≤ l) where
  retarget_rises : (set : ℕ) (a : List Entry) → Rising l (retarget u.ends u.defined set a)
  retarget_rises set a =
      rising_limit 0 (length u.defined) l (retarget u.ends u.defined set a) within (retarget_rising u.ends u.defined set a)

  invert_rises : (set : ℕ) (is : List ℕ) → Rising l (invert u.ends u.defined set is)
  invert_rises set is =
      rising_limit 0 (length u.defined) l (invert u.ends u.defined set is) within (invert_rising u.ends u.defined set is)

  shift_rises : (o set : ℕ) (n : ℤ) (a : List Entry) → Rising l (shift_l u.ends u.defined o set n a)
  unfolding shift_l
  shift_rises o set n a =
      either l (eqb o op_add) _ _ (retarget_rises set (raise n a)) (either l (eqb o op_subtract) _ _ (retarget_rises set (lower n a)) tt)

  unary_rises : (o set : ℕ) (a : List Entry) → Rising l a → Rising l (unary_l u.ends u.defined o set a)
  unfolding unary_l
  unary_rises o set a r =
      either l (eqb o op_list_min) _ _ (extreme_rises true l a r)
      (either l (eqb o op_list_max) _ _ (extreme_rises false l a r)
      (either l (eqb o op_all) _ _ (subst (Rising l) (all_is u.ends u.defined set) (invert_rises set []))
      (either l (eqb o op_invert) _ _ (invert_rises set (items a)) tt)))

  binary_rises : (o : ℕ) (a b : Val) → Wf l a → Wf l b → Rising l (list_binary u o a b)
  unfolding list_binary
  binary_rises o a b ra rb =
      either l (is_list (kind_of b)) _ _ (merge_rises l u.limit o (entries_of a) (entries_of b) ra rb) (shift_rises o (origins_in a) (as_int b) (entries_of a))

  -- an operator's List on well-formed operands
  pub entries_rise : (o : ℕ) (vs : List Val) → AllWf l vs → Rising l (entries_for u o vs)
  entries_rise o [] h = tt
  entries_rise o (a ∷ []) h = unary_rises o (origins_in a) (entries_of a) h.0
  entries_rise o (a ∷ b ∷ []) h = binary_rises o a b h.0 h.1.0
  entries_rise o (a ∷ b ∷ c ∷ []) h = sift_rising l u.limit _ (entries_of a) h.0
  entries_rise o (a ∷ b ∷ c ∷ d ∷ vs) h = tt

-- ---- a list that was written is the result

pub written : (u : ListDefinitions) (o : ℕ) (vs : List Val) {n : ℕ} {oi oi' : List ℕ} {ov ov' : List ℤ} → Wrote (entries_for u o vs) n oi oi' ov ov'
    → n ≡ length (take n oi')
written u o vs {n} {oi} {oi'} {ov} {ov'} w =
    w.counted ∙ sym (length_items (entries_for u o vs)) ∙ sym (ap length (read_items (entries_for u o vs) n oi oi' ov ov' w))

module _ (u : ListDefinitions) (within : length u.defined ≤ u.limit) (o : ℕ) (vs : List Val) (wf : AllWf u.limit vs) {n : ℕ}
    {oi oi' : List ℕ} {ov ov' : List ℤ} (w : Wrote (entries_for u o vs) n oi oi' ov ov') where
  pub rises : u.limit < item_numbers → Ascends 0 item_numbers (take n oi')
  rises small =
      rw (read_items (entries_for u o vs) n oi oi' ov ov' w)
      (ascends_limit 0 u.limit item_numbers (items (entries_for u o vs)) (omega arith) (entries_rise u u.limit within o vs wf))

  pub makes : (r : Value) → r ≡ Is.List (origins_after u.ends o vs (take n oi')) 0 n → Gave (gives (list_result u o vs)) (gives r) oi oi' ov ov'
  makes r q =
      gave_copy w (ap gives (q ∙ ap (λ (l : List ℕ). Is.List (origins_after u.ends o vs l) 0 n) (read_items (entries_for u o vs) n oi oi' ov ov' w)))

-- the right operand of a list says which operator it is
pub right_list : (u : ListDefinitions) (o : ℕ) (a : Val) (is : List ℕ) (vs : List ℤ) (b : Value) → kind_in b ≡ K.List
    → list_binary u o a (val_of is vs b) ≡ merge_l u.limit o (entries_of a) (entries_of (val_of is vs b))
unfolding list_binary
right_list u o a is vs (Is.Bool b) e = absurd cc
right_list u o a is vs (Is.Int z) e = absurd cc
right_list u o a is vs (Is.Float x) e = absurd cc
right_list u o a is vs (Is.List s i n) e = refl
right_list u o a is vs Is.Void e = absurd cc

pub right_int : (u : ListDefinitions) (o : ℕ) (a : Val) (is : List ℕ) (vs : List ℤ) (b : Value) → (kind_in b ≡ K.List → ⊥)
    → list_binary u o a (val_of is vs b) ≡ shift_l u.ends u.defined o (origins_in a) (as_int (val_of is vs b)) (entries_of a)
unfolding list_binary
right_int u o a is vs (Is.Bool b) h = refl
right_int u o a is vs (Is.Int z) h = refl
right_int u o a is vs (Is.Float x) h = refl
right_int u o a is vs (Is.List s i n) h = absurd (h refl)
right_int u o a is vs Is.Void h = refl
