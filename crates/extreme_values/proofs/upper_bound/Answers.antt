-- `extreme_values::upper_bound` meets its contract: the library's maximum, or the greatest Int. Assumes nothing.
use Rattle.std.proofs.Common.{ap, ◌∙◌, unwrap_or}
use Rattle.std.proofs.lemmas.Iterator.{YieldsList-from_slice}
use Rattle.std.proofs.lemmas.Iterator.Consumers.{YieldsList-from_copied, reduce_from_yields_List}
use Rattle.ink_number.proofs.Signed.{returned}
use Rattle.ink_number.specs.Int.{greatest}
use Rattle.extreme_values.proofs.Reduced.{last, upper_reduced}
use Rattle.extreme_values.proofs.upper_bound.Goals as goal

pub returns : goal.returns
returns c =
    let vs = c.args.vs.now in
    returned c.unwrap_or.type_inv ∙ c.unwrap_or.ensures
    ∙ ap (λ o. unwrap_or o greatest) (reduce_from_yields_List last c.copied.result c.max.result c.max.ensures.ran (YieldsList-from_copied (YieldsList-from_slice vs cc)))
    ∙ upper_reduced vs
