-- `ink_value::is_formed` meets its contract: the tests of question 7 in their order. Assumes nothing.
use mathlib.Core.Path.{sym, ◌∙◌}
use native.Mathlib.Omega.{arith}
use Rattle.ink_list.specs.Entries.{formed_lent}
use Rattle.ink_value.proofs.Reading.{lends}
use Rattle.slices.proofs.Lists.{ap3}
use Rattle.ink_value.proofs.Forming.{past_items, inside, lent_alike}
use Rattle.ink_value.proofs.Value.is_formed.Goals as goal

pub returns-then-lists-start : goal.returns-then-lists-start
returns-then-lists-start c =
    sym (past_items c.args.counts.items c.args.counts.definitions c.args.lists.items.now c.args.lists.values.now c.args.self (omega (arith, c.start_of-start.ensures, c.if-lists-start.true)))

pub returns-then-lists-start-2 : goal.returns-then-lists-start-2
returns-then-lists-start-2 c =
    sym (past_items c.args.counts.items c.args.counts.definitions c.args.lists.items.now c.args.lists.values.now c.args.self (omega (arith, c.start_of-start.ensures, c.len_of-len.ensures, c.if-lists-start.false, c.if-lists-start-2.true)))

pub returns : goal.returns
returns c =
    let i = lends c.args.lists.items.now c.start_of-start.result c.len_of-len.result c.args.self c.start_of-start.ensures c.len_of-len.ensures in
    let v = lends c.args.lists.values.now c.start_of-start.result c.len_of-len.result c.args.self c.start_of-start.ensures c.len_of-len.ensures in
    c.is_formed.ensures
    ∙ ap3 (formed_lent c.args.counts.items c.args.counts.definitions) c.origins_in.ensures i v
    ∙ lent_alike c.args.counts.items c.args.counts.definitions c.args.lists.items.now c.args.lists.values.now c.args.self (omega (arith, c.start_of-start.ensures, c.len_of-len.ensures, c.if-lists-start.false, c.if-lists-start-2.false)) (omega (arith, c.start_of-start.ensures, c.len_of-len.ensures))
    ∙ sym (inside c.args.counts.items c.args.counts.definitions c.args.lists.items.now c.args.lists.values.now c.args.self (omega (arith, c.start_of-start.ensures, c.len_of-len.ensures, c.if-lists-start.false, c.if-lists-start-2.false)) (omega (arith, c.start_of-start.ensures, c.len_of-len.ensures)))
