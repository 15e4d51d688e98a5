-- A host that does what the header asks meets what the calls on a checked pack require: what `ink_definitions` writes of a pack that has
-- passed is what they ask for (`ready` of definition_tables), and with it `ink_call_checked` answers what `ink_call` answers. Assumes
-- nothing.
use mathlib.Core.Path.{◌≡◌}
use mathlib.Core.List.{List}
use Prim.Native.Nat.{ℕ}
use native.Mathlib.Omega.{arith}
use lib.IntN.{ℤ}
use Rattle.ink_number.specs.Answer.{Answer}
use Rattle.list_definitions.specs.Defs.{ListDefinitions}
use Rattle.ink_value.specs.Val.{Val}
use Rattle.list_operators.specs.Lists.{definitions}
use Rattle.pack.specs.Bodies.{decoded}
use Rattle.pack.specs.Format.{Narrow}
use Rattle.pack.specs.declared.format.Format.{Format}
use Rattle.pack.specs.Read.{PackLists}
use Rattle.pack.proofs.Judged.{judged}
use Rattle.pack.proofs.Values.{pack_tables}
use Rattle.calls.specs.Call.{on_pack}
use Rattle.definition_tables.specs.Tables.{Ready}

pub pack_lists : (F : Format) → Narrow F → (p ends : List ℕ) (defined : List ℤ) → Ready F p ends defined → PackLists F.limit ends defined
pack_lists F n p ends defined r =
    let t = pack_tables F p n (judged F p (decoded F p) r.passed).0 in
    rw (r.ends_are, r.defined_are)
    (record { tables = t.tables; few = omega (arith, t.ends_few, t.ends_long); within = omega (arith, t.defined_few, t.defined_long) })

pub same_call : (F : Format) (p ends : List ℕ) (defined : List ℤ) (f : ListDefinitions → Answer Val) → Ready F p ends defined
    → on_pack F p f ≡ f (definitions ends defined F.limit)
same_call F p ends defined f r = rw (r.passed, r.ends_are, r.defined_are)
