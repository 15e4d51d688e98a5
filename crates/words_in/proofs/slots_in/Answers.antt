-- `words_in::slots_in` meets its contract: the array is the table. Assumes nothing.
use borrow.Author.Rules.{rules}
use Rattle.ink_value.specs.declared.Value.TheVariants as Is
use Rattle.words_in.specs.Words.{value_at}
use Rattle.slices.proofs.Made.{made_table}
use Rattle.words_in.proofs.slots_in.Goals as goal

pub returns : goal.returns
returns c =
    made_table _ (value_at c.args.words.now) _ (λ i y q k. search rules) Is.Void c.from_fn.result 16 c.from_fn.ensures.items
