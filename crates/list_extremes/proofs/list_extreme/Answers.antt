-- `list_extremes::list_extreme` meets its contract: the entry at the place of the extreme value is the answer. Assumes nothing.
use Rattle.std.proofs.Common.{refl, ap, arith, rules, length}
use Rattle.ink_list.proofs.Output.{begin, pushed, done}
use Rattle.list_extremes.proofs.list_extreme.Goals as goal

pub returns : goal.returns
returns c =
    let a = c.args in
    let e = c.extreme_at-best.ensures.entry a.a.items.now a.a.parallel in
    let n = ap length e in
    (done (pushed (begin (omega arith)) e (search rules) c.push.ensures.0) refl, c.push.ensures.1)
