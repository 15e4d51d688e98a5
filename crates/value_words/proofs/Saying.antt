-- An answer of a call below, written at the boundary. Assumes nothing.
use mathlib.Core.Path.{◌≡◌, refl, sym, ap, ◌∙◌, subst}
use mathlib.Core.List.{List}
use Prim.Native.Nat.{ℕ}
use lib.IntN.{ℤ}
use Rattle.ink_number.specs.Answer.{Answer, refuses}
use Rattle.ink_value.specs.Val.{Val}
use Rattle.ink_value.specs.Value.{placed, Gave}
use Rattle.ink_value.specs.declared.Value.{Value}
use Rattle.value_words.specs.Calls.{outcome_number, outcome_words, index_words, Says, Calls}

-- what was written of an outcome
abbrev pub Put : Answer Value → ℕ → List ℕ → Type 0
Put o n ws = (n ≡ outcome_number o) × (ws ≡ outcome_words o)

pub says : (a b : Answer Val) (o : Answer Value) (n : ℕ) (ws : List ℕ) → a ≡ b → o ≡ placed a → Put o n ws → Says b n ws
says a b o n ws q e h =
    record {
      number = h.0 ∙ ap outcome_number (e ∙ ap placed q);
      words = h.1 ∙ ap outcome_words (e ∙ ap placed q);
    }

pub calls : (a b : Answer Val) (o : Answer Value) (n : ℕ) (ws oi oi' : List ℕ) (ov ov' : List ℤ) → a ≡ b → Gave a o oi oi' ov ov' → Put o n ws
    → Calls b n ws oi oi' ov ov'
calls a b o n ws oi oi' ov ov' q g h =
    subst (λ (x : Answer Val). Calls x n ws oi oi' ov ov') q
    (record {
      says = record { number = h.0 ∙ ap outcome_number g.answered; words = h.1 ∙ ap outcome_words g.answered };
      items_out = g.items_out;
      values_out = g.values_out;
    })

-- a refusal
pub refused_calls : (a : Answer Val) (k n : ℕ) (ws oi : List ℕ) (ov : List ℤ) → a ≡ refuses k → n ≡ k → ws ≡ index_words 0 → Calls a n ws oi oi ov ov
refused_calls a k n ws oi ov e h q =
    subst (λ (x : Answer Val). Calls x n ws oi oi ov ov) (sym e) (record { says = record { number = h; words = q }; items_out = refl; values_out = refl })

pub calls_is : {a b : Answer Val} {n : ℕ} {ws oi oi' : List ℕ} {ov ov' : List ℤ} → a ≡ b → Calls b n ws oi oi' ov ov' → Calls a n ws oi oi' ov ov'
calls_is {a} {b} {n} {ws} {oi} {oi'} {ov} {ov'} e c = subst (λ (x : Answer Val). Calls x n ws oi oi' ov ov') (sym e) c
