-- `vetting::kinds_of` meets its contract: the array is the table of the codes' kinds. Assumes nothing.
use mathlib.Core.Path.{◌∙◌}
use lib.ListN.{get_or}
use borrow.Author.Rules.{rules}
use Rattle.ink_value.specs.Val.{kind_at}
use Rattle.ink_value.specs.declared.Kind.TheVariants as K
use Rattle.slices.proofs.Made.{made_table}
use Rattle.vetting.proofs.Codes.{kinds_table}
use Rattle.vetting.proofs.kinds_of.Goals as goal

pub returns : goal.returns
returns c =
    made_table _ (λ k. kind_at (get_or c.args.codes.now k 0)) _ (λ i y q k. search rules) K.Bool c.from_fn.result 16 c.from_fn.ensures.items
    ∙ kinds_table c.args.codes.now 16 c.told-codes
