-- `extreme_values::extreme_value` meets its contract: the library's minimum or maximum, or 0. Assumes nothing.
use Rattle.std.proofs.Common.{sym, ap, ◌∙◌, pos, unwrap_or}
use Rattle.std.proofs.lemmas.Iterator.{YieldsList-from_slice}
use Rattle.std.proofs.lemmas.Iterator.Consumers.{YieldsList-from_copied, reduce_from_yields_List}
use Rattle.ink_number.proofs.Signed.{returned}
use Rattle.ink_list.specs.Ops.{extreme_value}
use Rattle.extreme_values.proofs.Reduced.{first, last, least_reduced, greatest_reduced}
use Rattle.extreme_values.proofs.extreme_value.Goals.{then-least, else-least}
use Rattle.extreme_values.proofs.extreme_value.Goals as goal

pub returns : goal.returns
returns c =
    let h = returned c.unwrap_or.type_inv ∙ c.unwrap_or.ensures in
    let vs = c.args.vs.now in
    let s = c.copied-values.result in
    elim c.if-least.branch [
      | then-least w ↦ h
          ∙ ap (λ o. unwrap_or o (pos 0)) (w.extreme-is
          ∙ reduce_from_yields_List first s w.min-extreme.result w.min-extreme.ensures.ran (YieldsList-from_copied (YieldsList-from_slice vs cc)))
          ∙ least_reduced vs
          ∙ ap (λ b. extreme_value b vs) (sym w.if-least.true)
      | else-least w ↦ h
          ∙ ap (λ o. unwrap_or o (pos 0)) (w.extreme-is
          ∙ reduce_from_yields_List last s w.max-extreme.result w.max-extreme.ensures.ran (YieldsList-from_copied (YieldsList-from_slice vs cc)))
          ∙ greatest_reduced vs
          ∙ ap (λ b. extreme_value b vs) (sym w.if-least.false)
    ]
