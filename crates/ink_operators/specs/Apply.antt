-- What `ink_apply` asks for. Assumes nothing.
use Rattle.std.specs.Prelude.{◌≡◌, true, List, ℕ, ◌≤◌, ℤ, length, take}
use Rattle.pack.specs.declared.format.Format.{Format}
use Rattle.pack.specs.Read.{PackLists}
use Rattle.call_memory.specs.Lent.{operands_ok}
use Rattle.list_operators.specs.Lists.{definitions}
use Rattle.value_words.specs.Calls.{operands_in}

-- what `ink_apply` leaves to its caller: the tables are a pack's, and question 7 says yes of the operands and of the result slices
pub record Applies (F : Format) (ends : List ℕ) (defined : List ℤ) (is : List ℕ) (vs : List ℤ) (n : ℕ) (ws ri : List ℕ) (rv : List ℤ) : Type 0 where
  pub lists : PackLists F.limit ends defined
  pub formed : operands_ok (definitions ends defined F.limit) is vs (take n (operands_in ws)) ≡ true
  pub items_room : F.limit ≤ length ri
  pub values_room : F.limit ≤ length rv
