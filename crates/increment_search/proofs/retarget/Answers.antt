-- `increment_search::retarget` meets its contract: with no entry there is nothing to store, and both searches store the same. Assumes nothing.
use Rattle.std.proofs.Common.{refl, rules, sym, subst, List, []}
use Rattle.ink_list.specs.Entries.{Entry, Stored}
use Rattle.ink_list.proofs.Output.{nothing}
use Rattle.list_definitions.proofs.IncrementSearch.{chosen_empty}
use Rattle.increment_search.proofs.retarget.Goals as goal

pub returns-then-is_empty : goal.returns-then-is_empty
returns-then-is_empty c =
    let a = c.args in
    let o = a.out.now in (
      subst (λ (M : List Entry). Stored a.at M a.at o.items.now o.items.now o.values.now o.values.now)
          (sym (chosen_empty a.definition.first a.raised.by [] a.definition.values.now a.raised.values.now (search rules))) (nothing a.at o.items.now o.values.now),
      (refl, refl),
    )
