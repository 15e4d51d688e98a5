-- `operating::scalar_result` meets its contract: the value at its place, or the question. Assumes nothing.
use mathlib.Core.Path.{sym, ap, ◌∙◌}
use Rattle.std.proofs.lemmas.Result.{err_from_is_err_and}
use Rattle.ink_number.specs.Question.{answer}
use Rattle.op.specs.Op.{op_number}
use Rattle.operating.proofs.Putting.{scalar_at}
use Rattle.operating.proofs.scalar_result.Goals as goal

pub returns-in_err-value : goal.returns-in_err-value
returns-in_err-value c =
    let f = c.requires.fact in
    let p = err_from_is_err_and c.from_residual.result c.from_residual.ensures.1 in
    λ u. rw (p.1, p.2) (scalar_at (op_number c.args.op) _ c.args.kind c.args.place _ f.0 f.3 (λ w. sym (ap answer c.in_err-value.was) ∙ c.scalar.ensures w) u)

pub returns : goal.returns
returns c =
    let f = c.requires.fact in
    λ u. scalar_at (op_number c.args.op) _ c.args.kind c.args.place _ f.0 f.3 (λ w. sym (ap answer c.in_ok-value.was) ∙ c.scalar.ensures w) u
