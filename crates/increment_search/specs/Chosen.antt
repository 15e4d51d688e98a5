-- The words of the contracts for a definition and for values that are raised. Assumes nothing.
use Rattle.std.specs.Prelude.{List, [], ℤ}
use Rattle.ink_list.specs.Entries.{Entry}
use Rattle.list_definitions.specs.Search.{raised, chosen}
use Rattle.increment_search.specs.declared.definition.Definition.{Definition}
use Rattle.increment_search.specs.declared.Raised.{Raised}

-- the values, once `by` is added to each
abbrev pub values_of : Raised → List ℤ
values_of r = raised r.by r.values.now

-- the definition's items that are defined with one of them
abbrev pub chosen_of : Definition → Raised → List Entry
chosen_of d r = chosen d.first [] d.values.now (values_of r)
