-- `list_operators::entries_for` meets its contract: what is formed below the limit is so below the number of places. Assumes nothing.
use Rattle.std.proofs.Common.{arith}
use Rattle.ink_list.specs.Lists.{places}
use Rattle.ink_value.proofs.Reading.{formed_limit}
use Rattle.list_operators.proofs.entries_for.Goals as goal

pub range-requires-clause-formed_a : goal.range-requires-clause-formed_a
range-requires-clause-formed_a c =
    let a = c.args in
    formed_limit a.pack.limit _ _ (places a.out.now) a.operands.first c.requires.room (c.requires.formed.one (omega arith))

pub range-requires-clause-formed_b : goal.range-requires-clause-formed_b
range-requires-clause-formed_b c =
    let a = c.args in
    formed_limit a.pack.limit _ _ (places a.out.now) a.operands.second c.requires.room (c.requires.formed.two (omega arith))

pub range-requires-clause-formed_c : goal.range-requires-clause-formed_c
range-requires-clause-formed_c c =
    let a = c.args in
    formed_limit a.pack.limit _ _ (places a.out.now) a.operands.third c.requires.room (c.requires.formed.three (omega arith))
