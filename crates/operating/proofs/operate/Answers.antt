-- `operating::operate` meets its contract: the answer on kinds is a no, or the kind of the result, by which the result is made.
-- Assumes nothing.
use mathlib.Core.Path.{◌≡◌, refl, ap, ◌∙◌}
use native.Mathlib.Omega.{arith}
use Rattle.std.proofs.lemmas.Result.{err_from_is_err_and}
use Rattle.op.specs.Op.{op_number}
use Rattle.ink_list.specs.Entries.{item_numbers}
use Rattle.ink_value.proofs.Reading.{first_limit}
use Rattle.list_operators.specs.Lists.{definitions_of}
use Rattle.native_function_call.specs.Apply.{compute}
use Rattle.native_function_call.proofs.Calling.{call_given}
use Rattle.operating.specs.Slices.{stacked}
use Rattle.operating.proofs.Operating.{call_stops, answered_is}
use Rattle.operating.proofs.Putting.{result_put}
use Rattle.operating.proofs.operate.Goals as goal

pub returns-in_err-kind : goal.returns-in_err-kind
returns-in_err-kind c =
    let a = c.args in
    let o = a.operands in
    let p = err_from_is_err_and c.from_residual.result c.from_residual.ensures.1 in
    let g = rw (c.in_err-kind.was, c.kind-a.ensures, c.kind-b.ensures, c.kind-c.ensures) at c.answer.ensures.answered in
    (λ F e. rw (p.1, p.2) (call_stops a.work.now.items.now a.work.now.values.now o.first o.second o.third (definitions_of a.pack) (op_number a.op) o.count a.place _ g), (refl, refl))

pub scalar_result-requires : goal.scalar_result-requires
scalar_result-requires c =
    let a = c.args in
    let o = a.operands in
    let g = (rw c.in_ok-kind.was at c.answer.ensures).counted c.in_ok-kind.kind refl in
    let n3 : o.count ≡ 3 → ⊥ = λ e. c.in_default.not-List (g.2 e) in
    record {
      fact = (c.in_default.not-List, g.0, omega (arith, n3, g.1), c.requires.fact.0);
      formed = rw (c.lists.ensures.items, c.lists.ensures.values)
          (first_limit a.pack.limit a.work.now.items.now a.work.now.values.now item_numbers o.count o.first o.second o.third (omega (arith, a.pack.bounded.small)) c.requires.formed);
    }

pub returns-in-List : goal.returns-in-List
unfolding compute
returns-in-List c =
    let a = c.args in
    let o = a.operands in
    let u = definitions_of a.pack in
    let g = rw (c.in_ok-kind.was, c.kind-a.ensures, c.kind-b.ensures, c.kind-c.ensures) at c.answer.ensures.answered in
    let e = call_given u (op_number a.op) o.count a.work.now.items.now a.work.now.values.now o.first o.second o.third c.in_ok-kind.kind g
    ∙ ap (compute u (op_number a.op) (stacked a.work.now o)) c.in-List.is in
    (λ F l. result_put _ _ _ _ _ _ _ _ c.requires.fact.0 e (c.list_result-value.ensures.0 F l), c.list_result-value.ensures.1)

pub returns-in_default : goal.returns-in_default
returns-in_default c =
    let a = c.args in
    let o = a.operands in
    let is = a.work.now.items.now in
    let vs = a.work.now.values.now in
    let u = definitions_of a.pack in
    let g = rw (c.in_ok-kind.was, c.kind-a.ensures, c.kind-b.ensures, c.kind-c.ensures) at c.answer.ensures.answered in
    let s = rw (c.lists.ensures.items, c.lists.ensures.values) at c.scalar_result.ensures u in
    (λ F e. answered_is _ _ _ _ _ _ _ _ (call_given u (op_number a.op) o.count is vs o.first o.second o.third c.in_ok-kind.kind g) (s F is vs), (refl, refl))
