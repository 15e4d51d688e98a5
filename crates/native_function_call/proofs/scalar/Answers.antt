-- `native_function_call::scalar` meets its contract: each kind is its case of the definition. Assumes nothing.
use mathlib.Core.Path.{refl, ap, ◌∙◌}
use mathlib.Core.Logic.{⊎_elim}
use mathlib.Core.Bool.{Bool}
use Rattle.std.proofs.Common.{rules}
use lib.Ieee.{Float}
use lib.IntN.{ℤ}
use Rattle.std.proofs.lemmas.Result.{err_from_is_err_and}
use Rattle.ink_number.specs.Answer.{gives}
use Rattle.ink_number.proofs.Signed.{back32}
use Prim.Native.Nat.{◌≤◌}
use native.Mathlib.Omega.{arith}
use lib.ListN.{length}
use Rattle.ink_list.specs.Entries.{item_numbers}
use Rattle.ink_list.specs.declared.lists.Lists.{Lists}
use Rattle.ink_value.specs.declared.operands.Operands.{Operands}
use Rattle.ink_value.specs.Held.{OperandsFormed, OperandsHeld}
use Rattle.ink_value.proofs.Reading.{few_in}
use Rattle.ink_value.specs.Value.{placed}
use Rattle.ink_value.specs.declared.Value.TheVariants as Is
use Rattle.native_function_call.specs.Apply.{compute}
use Rattle.native_function_call.proofs.scalar.Goals as goal

held_items : (l : Lists) (o : Operands) → OperandsFormed item_numbers l o → 1 ≤ o.count → OperandsHeld o (length l.items.now)
held_items l o f h = ((f.one h).items_in, λ t. (f.two (omega (arith, t))).items_in)

held_values : (l : Lists) (o : Operands) → OperandsFormed item_numbers l o → 1 ≤ o.count → OperandsHeld o (length l.values.now)
held_values l o f h = ((f.one h).values_in, λ t. (f.two (omega (arith, t))).values_in)

pub whole-requires : goal.whole-requires
whole-requires c =
    let l = c.args.lists in
    let o = c.args.operands in
    record {
      le_count = (c.requires.fact.1, c.requires.fact.2, few_in item_numbers l.items.now l.values.now o.first (c.requires.formed.one c.requires.fact.1));
      values_in = held_values l o c.requires.formed c.requires.fact.1;
    }

pub real-requires : goal.real-requires
real-requires c =
    record {
      le_count = (c.requires.fact.1, c.requires.fact.2);
      values_in = held_values c.args.lists c.args.operands c.requires.formed c.requires.fact.1;
    }

pub returns-in-Bool : goal.returns-in-Bool
unfolding compute
returns-in-Bool c = λ u. rw c.in-Bool.is (ap (λ (t : Bool). gives (Is.Bool t)) c.test.ensures)

pub returns-in_err-z-in-Int : goal.returns-in_err-z-in-Int
unfolding compute
returns-in_err-z-in-Int c =
    let p = err_from_is_err_and c.from_residual.result c.from_residual.ensures.1 in
    λ u. rw (p.1, p.2, c.in-Int.is) (rw c.in_err-z-in-Int.was at (ap placed (c.whole.ensures c.args.lists.items.now (held_items c.args.lists c.args.operands c.requires.formed c.requires.fact.1))))

pub returns-in_ok-z-in-Int : goal.returns-in_ok-z-in-Int
unfolding compute
returns-in_ok-z-in-Int c =
    λ u. rw c.in-Int.is (ap (λ (z : ℤ). gives (Is.Int z)) (back32 c.in_ok-z-in-Int.z (search rules)) ∙ rw c.in_ok-z-in-Int.was at (ap placed (c.whole.ensures c.args.lists.items.now (held_items c.args.lists c.args.operands c.requires.formed c.requires.fact.1))))

pub returns-in-Float : goal.returns-in-Float
unfolding compute
returns-in-Float c = λ u. rw c.in-Float.is (ap (λ (x : Float). gives (Is.Float x)) (c.real.ensures c.args.lists.items.now (held_items c.args.lists c.args.operands c.requires.formed c.requires.fact.1)))

pub returns-in-List : goal.returns-in-List
unfolding compute
returns-in-List c =
    λ u. ⊎_elim (λ e. absurd (c.requires.fact.0 e)) (λ e. rw e refl) c.in-List.is
