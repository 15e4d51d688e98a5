-- A result that is no List, as the boundary says it. Assumes nothing.
use mathlib.Core.Path.{◌≡◌, sym, ap}
use mathlib.Core.List.{List}
use Prim.Native.Nat.{ℕ}
use native.Mathlib.Omega.{arith}
use lib.IntN.{ℤ}
use Rattle.ink_number.specs.Answer.{Answer}
use Rattle.ink_list.specs.Entries.{Entry, items, values}
use Rattle.slices.specs.Filled.{over}
use Rattle.list_definitions.specs.Defs.{ListDefinitions}
use Rattle.ink_value.specs.Val.{Val}
use Rattle.ink_value.specs.Value.{placed}
use Rattle.ink_value.specs.declared.Kind.{Kind}
use Rattle.ink_value.specs.declared.Kind.TheVariants as K
use Rattle.ink_value.specs.declared.Value.{Value}
use Rattle.native_function_call.specs.Apply.{compute}
use Rattle.native_function_call.proofs.Calling.{scalar_none}
use Rattle.value_words.specs.Calls.{Says, Calls, SmallOutcome}
use Rattle.value_words.proofs.Few.{small_outcome}

-- a result that is no List
module _ (u : ListDefinitions) (o : ℕ) (vs : List Val) (k : Kind) (h : k ≡ K.List → ⊥) where
  -- its words have room
  pub scalar_small : (r : Answer Value) → r ≡ placed (compute u o vs k) → SmallOutcome r
  scalar_small r e = small_outcome 0 (omega arith) (compute u o vs k) r e (rw (scalar_none u o vs k h) (omega arith))

  -- it writes no entries
  pub said_calls : (n : ℕ) (ws oi : List ℕ) (ov : List ℤ) → Says (compute u o vs k) n ws → Calls (compute u o vs k) n ws oi oi ov ov
  said_calls n ws oi ov q =
      record {
        says = q;
        items_out = ap (λ (es : List Entry). over (items es) oi) (sym (scalar_none u o vs k h));
        values_out = ap (λ (es : List Entry). over (values es) ov) (sym (scalar_none u o vs k h));
      }
