-- What is known of operands in words. Assumes nothing.
use Rattle.std.specs.Prelude.{◌≡◌, true, List, ℕ}
use Rattle.ink_list.specs.declared.lists.Lists.{Lists}
use Rattle.call_memory.specs.Lent.{operands_ok, used_of}
use Rattle.list_definitions.specs.declared.definitions.PackDefinitions.{PackDefinitions}
use Rattle.list_operators.specs.Lists.{definitions_of}
use Rattle.words_in.specs.Words.{operands_at}

-- 7, of the first n operands
abbrev pub OperandsOk : PackDefinitions → Lists → ℕ → List ℕ → Type 0
OperandsOk pack lists n ws = operands_ok (definitions_of pack) lists.items.now lists.values.now (used_of (operands_at n ws)) ≡ true
