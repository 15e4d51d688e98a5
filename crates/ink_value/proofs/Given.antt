-- An answer that is given: no List leaves the result slices as they were; a List is written. Assumes nothing.
use mathlib.Core.Path.{◌≡◌, sym, ap, ◌∙◌, subst}
use mathlib.Core.List.{List, []}
use Prim.Native.Nat.{ℕ}
use lib.IntN.{ℤ}
use Rattle.ink_list.specs.Entries.{Entry, items, values, Wrote}
use Rattle.slices.specs.Filled.{over}
use Rattle.ink_value.specs.Val.{Val, list}
use Rattle.ink_number.specs.Answer.{Answer, gives}
use Rattle.ink_value.specs.Value.{placed, written, Gave}
use Rattle.ink_value.specs.declared.Value.TheVariants as Is
use Rattle.ink_value.specs.declared.Value.{Value}

-- an answer that is no list leaves the slices as they were
pub gave_plain : (A : Answer Val) (r : Answer Value) (oi : List ℕ) (ov : List ℤ) → written A ≡ [] → r ≡ placed A → Gave A r oi oi ov ov
gave_plain A r oi ov e h =
    record {
      answered = h;
      items_out = ap (λ (es : List Entry). over (items es) oi) (sym e);
      values_out = ap (λ (es : List Entry). over (values es) ov) (sym e);
    }

pub gave_is : {A B : Answer Val} {r : Answer Value} {oi oi' : List ℕ} {ov ov' : List ℤ} → A ≡ B → Gave B r oi oi' ov ov' → Gave A r oi oi' ov ov'
gave_is {A} {B} {r} {oi} {oi'} {ov} {ov'} e g = subst (λ (X : Answer Val). Gave X r oi oi' ov ov') (sym e) g

pub gave_copy : {s n : ℕ} {M : List Entry} {r : Answer Value} {oi oi' : List ℕ} {ov ov' : List ℤ} → Wrote M n oi oi' ov ov' → r ≡ gives (Is.List s 0 n)
    → Gave (gives (list s M)) r oi oi' ov ov'
gave_copy {s} {n} {M} w h =
    record { answered = h ∙ ap (λ (k : ℕ). gives (Is.List s 0 k)) w.counted; items_out = w.items_out; values_out = w.values_out }
