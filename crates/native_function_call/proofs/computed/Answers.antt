-- `native_function_call::computed` meets its contract. Assumes nothing.
use mathlib.Core.Path.{◌≡◌}
use native.Mathlib.Omega.{arith}
use Rattle.ink_list.specs.Entries.{item_numbers}
use Rattle.ink_value.proofs.Reading.{first_limit}
use Rattle.native_function_call.proofs.computed.Goals as goal

pub scalar-requires : goal.scalar-requires
scalar-requires c =
    let a = c.args in
    let o = a.operands in
    let n3 : o.count ≡ 3 → ⊥ = λ e. c.in_default.not-List (c.requires.le_count.2 e) in
    record {
      fact = (c.in_default.not-List, c.requires.le_count.0, omega (arith, n3, c.requires.le_count.1));
      formed = first_limit a.pack.limit a.lists.items.now a.lists.values.now item_numbers o.count o.first o.second o.third (omega (arith, a.pack.bounded.small)) c.requires.formed;
    }
