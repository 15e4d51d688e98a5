-- `calls::cast_checked` meets its contract: what question 7 said yes of is what `cast` asks for. Assumes nothing.
use mathlib.Core.Path.{sym, ◌∙◌}
use native.Mathlib.Omega.{arith}
use Rattle.ink_list.specs.Lists.{places}
use Rattle.calls.proofs.Passed.{one_formed}
use Rattle.calls.proofs.cast_checked.Goals as goal

pub cast-requires : goal.cast-requires
cast-requires c =
    let a = c.args in
    one_formed a.pack.format a.pack.bytes.now a.lists.items.now a.lists.values.now a.v (places a.out.now) c.args.pack.sound (sym c.operand_formed.ensures ∙ c.if-not-operand_formed.false) (omega arith)
