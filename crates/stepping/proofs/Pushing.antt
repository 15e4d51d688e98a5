-- Pushes: what each leaves is what the definitions say. Assumes nothing.
use mathlib.Core.Logic.{⊎_elim}
use mathlib.Core.Path.{◌≡◌, refl, sym, ap, ◌∙◌, subst}
use mathlib.Core.List.{List}
use Prim.Native.Nat.{ℕ, ◌*◌, ◌≤◌, ◌<◌}
use borrow.Author.Tests.{lt-ltb, le-ltb}
use lib.IntN.{ℤ}
use Rattle.ink_list.specs.Entries.{Entry, Rising}
use Rattle.ink_list.proofs.Laws.{lt_or_le}
use Rattle.ink_value.specs.Val.{Val, list}
use Rattle.ink_value.specs.Value.{val_of, kind_in}
use Rattle.ink_value.specs.declared.Kind.TheVariants as K
use Rattle.ink_value.specs.declared.Value.{Value}
use Rattle.ink_value.specs.declared.Value.TheVariants as Is
use Rattle.pack.specs.declared.format.Format.{Format}
use Rattle.pack.specs.Read.{EntriesRead}
use Rattle.machine.specs.Machine.{stack_limit}
use Rattle.machine.specs.Stack.{top_pushed}
use Rattle.machine.specs.declared.Top.{Top}
use Rattle.stepping.specs.Steps.{pushed}
use Rattle.operating.specs.Stacked.{Put, start_at, Answered, Bare}
use Rattle.operating.proofs.Putting.{put_plain}
use Rattle.ink_number.specs.Answer.{Answer, gives, refuses}

-- a literal, read into its place
pub put_literal : {F : Format} (o to count : ℕ) (es : List Entry) (r : Value) (oi oi' : List ℕ) (ov ov' : List ℤ) → EntriesRead es to count oi oi' ov ov'
    → Rising F.limit es → r ≡ Is.List o to count → Put F (list o es) to r oi oi' ov ov'
put_literal o to count es r oi oi' ov ov' w up q =
    record { value_is = q ∙ ap (Is.List o to) w.counted; items_in = w.items_in; values_in = w.values_in; rising = up }

-- question 9
module _ {F : Format} (n : ℕ) (x : Val) (wi wi' : List ℕ) (wv wv' : List ℤ) where
  pub push_put : (v : Value) → n < stack_limit → Put F x (start_at F n) v wi wi' wv wv' → Answered F (pushed n x) n (gives (record { place = n; value = v })) wi wi' wv wv'
  push_put v h w = record { by = record { value = x; given = rw (lt-ltb n stack_limit h); at_place = refl; depth = h; put = w } }

  pub push_no : stack_limit ≤ n → Answered F (pushed n x) n (refuses 9) wi wi wv wv
  push_no h = record { by = record { refused = rw (le-ltb n stack_limit h); items_same = refl; values_same = refl } }

-- a value that was put at its place of a format of this item limit
pub push_at : {F : Format} {limit n : ℕ} {x : Val} {v : Value} {wi wi' : List ℕ} {wv wv' : List ℤ} → F.limit ≡ limit → n < stack_limit
    → Put F x (n * limit) v wi wi' wv wv' → Answered F (pushed n x) n (gives (record { place = n; value = v })) wi wi' wv wv'
push_at {F} {limit} {n} {x} {v} {wi} {wi'} {wv} {wv'} e h w =
    push_put n x wi wi' wv wv' v h (subst (λ (k : ℕ). Put F x (n * k) v wi wi' wv wv') (sym e) w)

-- a value that is no list is pushed as it is
pub push_plain : (n : ℕ) (v : Value) (r : Answer (Top Value)) → r ≡ top_pushed n v → (kind_in v ≡ K.List → ⊥) → (is : List ℕ) (vs : List ℤ)
    → Bare (pushed n (val_of is vs v)) n r
push_plain n v r e ne is vs F wi wv =
    subst (λ (x : Answer (Top Value)). Answered F (pushed n (val_of is vs v)) n x wi wi wv wv) (sym e) (⊎_elim fits full (lt_or_le n stack_limit))
  where
    fits : n < stack_limit → Answered F (pushed n (val_of is vs v)) n (top_pushed n v) wi wi wv wv
    fits h =
        subst (λ (x : Answer (Top Value)). Answered F (pushed n (val_of is vs v)) n x wi wi wv wv) (rw (lt-ltb n stack_limit h))
        (push_put n (val_of is vs v) wi wi wv wv v h (put_plain (start_at F n) is vs v wi wv (λ o s m q. ne (ap kind_in q))))

    full : stack_limit ≤ n → Answered F (pushed n (val_of is vs v)) n (top_pushed n v) wi wi wv wv
    full h =
        subst (λ (x : Answer (Top Value)). Answered F (pushed n (val_of is vs v)) n x wi wi wv wv) (rw (le-ltb n stack_limit h))
        (push_no n (val_of is vs v) wi wi wv wv h)
