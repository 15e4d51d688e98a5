-- Values put at a place of two slices: what each leaves is what the definitions say. Assumes nothing.
use mathlib.Core.Path.{◌≡◌, refl, sym, ap, ◌∙◌, subst}
use mathlib.Core.List.{List, []}
use Prim.Native.Nat.{ℕ, suc, ◌+◌, ◌*◌, ◌≤◌, ◌<◌}
use native.Mathlib.Omega.{arith}
use native.Mathlib.Nat.{suc-mul, mul-le-mul_right}
use lib.IntN.{ℤ}
use lib.ListN.{length}
use Rattle.ink_number.specs.Answer.{Answer, gives, refuses}
use Rattle.ink_list.specs.Entries.{Entry, items, values, Rising, Stored}
use Rattle.slices.specs.Filled.{fill}
use Rattle.slices.proofs.Filled.{fill_nothing}
use Rattle.ink_value.specs.Val.{Val, bool, int, float, list, void}
use Rattle.ink_value.specs.Convert.{entries_of}
use Rattle.ink_value.specs.declared.Kind.{Kind}
use Rattle.ink_value.specs.declared.Kind.TheVariants as K
use Rattle.ink_value.specs.Value.{val_of, placed, held, placed_val, Formed, FirstFormed, Gave, first_of}
use Rattle.ink_value.specs.declared.Value.{Value}
use Rattle.ink_value.specs.declared.Value.TheVariants as Is
use Rattle.ink_value.proofs.Reading.{len_in, entries_in_lem, rising_in}
use Rattle.ink_value.proofs.ReadBack.{read_back, formed_back, first_wf}
use Rattle.list_operators.specs.Lists.{entries_for, list_result}
use Rattle.list_operators.proofs.Listing.{entries_rise}
use Rattle.list_definitions.specs.Defs.{ListDefinitions}
use Rattle.native_function_call.specs.Apply.{compute, Agree}
use Rattle.native_function_call.proofs.Agree.{compute_agrees}
use Rattle.pack.specs.declared.format.Format.{Format}
use Rattle.machine.specs.Machine.{stack_limit}
use Rattle.operating.specs.Stacked.{placed_at, Put, start_at, Answered, Bare}
use Rattle.machine.specs.declared.Top.{Top}

-- a place of the stack has room for a list
pub place_fits : (limit place n : ℕ) → place < stack_limit → n ≤ limit → place * limit + n ≤ stack_limit * limit
place_fits limit place n h k =
    let a : suc place * limit ≤ stack_limit * limit = mul-le-mul_right limit h in
    omega (arith, a, suc-mul place limit)

-- ---- what is put

-- a value without entries
put_none : {F : Format} (x : Val) (at : ℕ) (r : Value) (oi : List ℕ) (ov : List ℤ) → entries_of x ≡ [] → r ≡ placed_at at x → Put F x at r oi oi ov ov
put_none {F} x at r oi ov e q =
    record {
      value_is = q;
      items_in = sym (ap (λ (es : List Entry). fill at (items es) oi) e ∙ fill_nothing at oi);
      values_in = sym (ap (λ (es : List Entry). fill at (values es) ov) e ∙ fill_nothing at ov);
      rising = subst (Rising F.limit) (sym e) tt;
    }

pub put_plain : {F : Format} (at : ℕ) (is : List ℕ) (vs : List ℤ) (v : Value) (oi : List ℕ) (ov : List ℤ)
    → ((o s n : ℕ) → v ≡ Is.List o s n → ⊥) → Put F (val_of is vs v) at v oi oi ov ov
put_plain at is vs (Is.Bool b) oi ov h = put_none (bool b) at (Is.Bool b) oi ov refl refl
put_plain at is vs (Is.Int z) oi ov h = put_none (int z) at (Is.Int z) oi ov refl refl
put_plain at is vs (Is.Float x) oi ov h = put_none (float x) at (Is.Float x) oi ov refl refl
put_plain at is vs (Is.List o s n) oi ov h = absurd (h o s n refl)
put_plain at is vs Is.Void oi ov h = put_none void at Is.Void oi ov refl refl

-- a list whose entries es are copied from its slices
module _ (F : Format) (is : List ℕ) (vs : List ℤ) (o s n : ℕ) (f : Formed F.limit is vs (Is.List o s n)) (to : ℕ) {es : List Entry}
    (e : es ≡ held is vs (Is.List o s n)) (m : ℕ) {oi ois : List ℕ} {ov ovs : List ℤ} (w : Stored to es m oi ois ov ovs) where
  pub put_copied : Put F (val_of is vs (Is.List o s n)) to (Is.List o to n) oi ois ov ovs
  put_copied =
      let q = e ∙ sym (entries_in_lem is vs (Is.List o s n)) in
      record {
        value_is = ap (Is.List o to) (sym (len_in F.limit is vs (Is.List o s n) f));
        items_in = w.items_in ∙ ap (λ (l : List Entry). fill to (items l) oi) q;
        values_in = w.values_in ∙ ap (λ (l : List Entry). fill to (values l) ov) q;
        rising = rising_in F.limit is vs (Is.List o s n) f;
      }

-- ---- results

-- a List that its operator made in lent slices stands there well formed
module _ (u : ListDefinitions) (o n : ℕ) (a b c v : Value) (wi : List ℕ) (wv : List ℤ) (oi ois : List ℕ) (ov ovs : List ℤ) where
  pub made_formed : Gave (gives (list_result u o (first_of wi wv n a b c))) (gives v) oi ois ov ovs
      → length u.defined ≤ u.limit → FirstFormed u.limit wi wv n a b c → u.limit ≤ length oi → u.limit ≤ length ov → Formed u.limit ois ovs v
  made_formed g t f hi hv =
      let vs = first_of wi wv n a b c in
      let up = entries_rise u u.limit t o vs (first_wf u.limit wi wv n a b c f) in
      let s : v ≡ placed_val (list_result u o vs) = cc in
      subst (Formed u.limit ois ovs) (sym s) (formed_back u.limit _ (entries_for u o vs) (gives v) oi ois ov ovs g up hi hv)

-- a value that was made there is the one that is put from there
pub made_put : {F : Format} {x : Val} {v r : Value} {at to : ℕ} {oi ois wi wi' : List ℕ} {ov ovs wv wv' : List ℤ} → Gave (gives x) (gives v) oi ois ov ovs
    → to ≡ at → Put F (val_of ois ovs v) to r wi wi' wv wv' → Put F x at r wi wi' wv wv'
made_put {F} {x} {v} {r} {at} {to} {oi} {ois} {wi} {wi'} {ov} {ovs} {wv} {wv'} g q w =
    let b = read_back (gives x) (gives v) oi ois ov ovs g in
    let e : val_of ois ovs v ≡ x = cc in
    subst (λ (k : ℕ). Put F x k r wi wi' wv wv') q (subst (λ (y : Val). Put F y to r wi wi' wv wv') e w)

pub result_put : {F : Format} (a : Answer Val) (x : Val) (place : ℕ) (v : Value) (wi wi' : List ℕ) (wv wv' : List ℤ) → place < stack_limit → a ≡ gives x
    → Put F x (start_at F place) v wi wi' wv wv' → Answered F a place (gives (record { place = place; value = v })) wi wi' wv wv'
result_put a x place v wi wi' wv wv' h e w = record { by = record { value = x; given = e; at_place = refl; depth = h; put = w } }

-- ---- a result that is no List

-- an answer at a place of the stack
abbrev pub topped_at : ℕ → Answer Value → Answer (Top Value)
topped_at place (gives v) = gives (record { place = place; value = v })
topped_at place (refuses q) = refuses q

module _ (place : ℕ) (h : place < stack_limit) (k : Kind) (ne : k ≡ K.List → ⊥) where
  value_bare : (x : Val) → entries_of x ≡ [] → ((at : ℕ) → placed_val x ≡ placed_at at x) → (r : Answer Value) → r ≡ placed (gives x) → Bare (gives x) place (topped_at place r)
  value_bare x none same r e F wi wv =
      subst (λ (a : Answer Value). Answered F (gives x) place (topped_at place a) wi wi wv wv) (sym e)
      (result_put (gives x) x place (placed_val x) wi wi wv wv h refl (put_none x (start_at F place) (placed_val x) wi wv none (same (start_at F place))))

  -- a value of a kind that is no List, or a no
  scalar_bare : (a : Answer Val) → Agree (gives k) a → (r : Answer Value) → r ≡ placed a → Bare a place (topped_at place r)
  scalar_bare (gives (bool b)) g r e = value_bare (bool b) refl (λ at. refl) r e
  scalar_bare (gives (int z)) g r e = value_bare (int z) refl (λ at. refl) r e
  scalar_bare (gives (float x)) g r e = value_bare (float x) refl (λ at. refl) r e
  scalar_bare (gives (list o es)) g r e = absurd (ne (sym g))
  scalar_bare (gives void) g r e = value_bare void refl (λ at. refl) r e
  scalar_bare (refuses q) g r e = λ F wi wv.
      subst (λ (a : Answer Value). Answered F (refuses q) place (topped_at place a) wi wi wv wv) (sym e)
      (record { by = record { refused = refl; items_same = refl; values_same = refl } })

-- so it is of what an operator on kinds that are no List answers
pub scalar_at : (o : ℕ) (vs : List Val) (k : Kind) (place : ℕ) (r : Answer Value) → (k ≡ K.List → ⊥) → place < stack_limit
    → ((u : ListDefinitions) → r ≡ placed (compute u o vs k)) → (u : ListDefinitions) → Bare (compute u o vs k) place (topped_at place r)
scalar_at o vs k place r ne h e u = scalar_bare place h k ne (compute u o vs k) (compute_agrees u o vs k) r (e u)
