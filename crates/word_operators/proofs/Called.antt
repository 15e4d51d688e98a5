-- A call on operands of which question 7 says yes, by the answer on their kinds. Assumes nothing.
use mathlib.Core.Path.{◌≡◌, sym, ap, ◌∙◌}
use mathlib.Core.Bool.{true}
use mathlib.Core.List.{List, [], ◌∷◌, map}
use Prim.Native.Nat.{ℕ, ◌<◌, ◌≤◌, ◌^◌}
use native.Mathlib.Omega.{arith}
use lib.IntN.{ℤ}
use lib.ListN.{length, take}
use Rattle.ink_number.specs.Answer.{Answer, gives, refuses}
use Rattle.ink_list.specs.Entries.{item_numbers, room}
use Rattle.ink_value.specs.Val.{Val, kind_of, code_of}
use Rattle.ink_value.specs.declared.Kind.{Kind}
use Rattle.ink_value.specs.declared.Kind.TheVariants as K
use Rattle.ink_value.specs.Value.{Formed, FirstFormed}
use Rattle.ink_value.specs.declared.Value.{Value}
use Rattle.operator_kinds.specs.Kinds.{kind_call}
use Rattle.list_operators.specs.Lists.{definitions}
use Rattle.native_function_call.specs.Apply.{call, compute}
use Rattle.native_function_call.proofs.Calling.{call_gives, call_refuses}
use Rattle.calls.specs.Call.{called}
use Rattle.call_memory.specs.Lent.{operands_ok}
use Rattle.call_memory.proofs.UsedOperands.{first_of_lem}
use Rattle.calls.proofs.Forms.{goes_used}
use Rattle.list_definitions.specs.Defs.{ListDefinitions}
use Rattle.words_in.specs.Words.{unheld, value_at}
use Rattle.value_words.specs.Calls.{operands_in, Says, Calls, index_words}
use Rattle.value_words.proofs.Saying.{refused_calls, calls_is}
use Rattle.word_kinds.specs.Operands.{Held, OfNumbers, kind_word, vals_at}
use Rattle.word_kinds.proofs.Operands.{kinds_at}
use Rattle.word_numbers.proofs.Said.{said_calls}

-- no slices that a program can lend hold what words of none read as
not_held : (limit : ℕ) (is : List ℕ) (vs : List ℤ) (v : Value) → length is < 2 ^ 64 → Formed limit is vs v → v ≡ unheld → ⊥
not_held limit is vs v h f e = let g : Formed limit is vs unheld = rw e at f in omega (arith, g.items_in)

-- the first n operands of which question 7 says yes stand in the slices
pub first_in_lem : (ends : List ℕ) (defined : List ℤ) (limit : ℕ) (is : List ℕ) (vs : List ℤ) (n : ℕ) (ws : List ℕ)
    → operands_ok (definitions ends defined limit) is vs (take n (operands_in ws)) ≡ true → length defined ≤ item_numbers
    → FirstFormed item_numbers is vs n (value_at ws 0) (value_at ws 1) (value_at ws 2)
first_in_lem ends defined limit is vs n ws ok few =
    first_of_lem (length defined) (length ends) is vs item_numbers n (value_at ws 0) (value_at ws 1) (value_at ws 2) few ok

module _ (ends : List ℕ) (defined : List ℤ) (limit : ℕ) (is : List ℕ) (vs : List ℤ) (n : ℕ) (ws : List ℕ)
    (ok : operands_ok (definitions ends defined limit) is vs (take n (operands_in ws)) ≡ true) (long : length is < 2 ^ 64) where
  -- question 7 says no to words that are no value's
  pub held : Held ws n
  held =
      let f = first_of_lem (length defined) (length ends) is vs (length defined) n (value_at ws 0) (value_at ws 1) (value_at ws 2) (omega arith) ok in
      record {
        one = λ l. not_held _ is vs _ long (f.one l);
        two = λ l. not_held _ is vs _ long (f.two l);
        three = λ l. not_held _ is vs _ long (f.three l);
      }

  module _ (oi : List ℕ) (ov : List ℤ) (fits : limit ≤ room oi ov) (o : ℕ) where
    -- the call's answer, and the answer on the kinds in the words
    abbrev pub asked : Answer Val
    asked = called is vs oi ov o n (operands_in ws) (definitions ends defined limit)

    abbrev pub kinds : Answer Kind
    kinds = kind_call o n (take n (kind_word ws 0 ∷ kind_word ws 1 ∷ kind_word ws 2 ∷ []))

    kinds_are : kind_call o n (map kind_of (take n (vals_at is vs ws))) ≡ kinds
    kinds_are = ap (kind_call o n) (kinds_at is vs ws n held)

    goes : asked ≡ call (definitions ends defined limit) o n (take n (vals_at is vs ws))
    goes = goes_used is vs oi ov o n (value_at ws 0) (value_at ws 1) (value_at ws 2) ends defined limit ok fits

    pub refused : (q : ℕ) → refuses q ≡ kinds → {r : ℕ} {answer : List ℕ} → r ≡ q → answer ≡ index_words 0 → Calls asked r answer oi oi ov ov
    refused q e er ea =
        refused_calls asked q _ _ oi ov (goes ∙ call_refuses (definitions ends defined limit) o n (take n (vals_at is vs ws)) q (kinds_are ∙ sym e)) er ea

    pub given : (k : Kind) → gives k ≡ kinds → asked ≡ compute (definitions ends defined limit) o (take n (vals_at is vs ws)) k
    given k e = goes ∙ call_gives (definitions ends defined limit) o n (take n (vals_at is vs ws)) k (kinds_are ∙ sym e)

    -- a result that is no List
    pub scalar_given : (k : Kind) → gives k ≡ kinds → (k ≡ K.List → ⊥) → {r : ℕ} {answer : List ℕ}
        → Says (compute (definitions ends defined limit) o (take n (vals_at is vs ws)) k) r answer → Calls asked r answer oi oi ov ov
    scalar_given k e h {r} {answer} s = calls_is (given k e) (said_calls (definitions ends defined limit) o _ k h r answer oi ov s)

    -- numbers
    pub numbers_given : (k : Kind) → OfNumbers ws o n k → {r : ℕ} {answer : List ℕ}
        → ((u : ListDefinitions) (is : List ℕ) (vs : List ℤ) → Says (compute u o (take n (vals_at is vs ws)) k) r answer) → Calls asked r answer oi oi ov ov
    numbers_given k m s =
        scalar_given k (sym (m.answered is vs) ∙ kinds_are) (λ e. let z = ap code_of e in omega (arith, z, m.small)) (s (definitions ends defined limit) is vs)
